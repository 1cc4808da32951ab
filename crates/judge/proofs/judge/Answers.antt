-- `judge::judge` answers the chain of all checks of judging. Assumes nothing.
use mathlib.Core.Path.{◌∙◌}
use Rattle.trees.specs.Checks.{judged, judge_checks}
use Rattle.judge.proofs.Laws.{stopped, goes, passed1_fewest, passed1_most, passed3}
use Rattle.judge.proofs.judge.Goals as goal

pub returns-in_err-samples : goal.returns-in_err-samples
unfolding judged judge_checks
returns-in_err-samples c = stopped _ _ _ c.in_err-samples.field-0.0 c.from_residual.ensures.1 c.in_err-samples.ensures

pub words-requires : goal.words-requires
words-requires c = passed1_most _ c.in_ok-samples.ensures

pub returns-in_err-words : goal.returns-in_err-words
unfolding judged judge_checks
returns-in_err-words c =
    stopped _ _ _ c.in_err-words.field-0.0 c.from_residual-in_err-words.ensures.1 c.in_err-words.ensures ∙ goes _ _ c.in_ok-samples.ensures

pub check_row-requires : goal.check_row-requires
check_row-requires c =
    let e = c.in_ok-samples.ensures in
    (passed1_fewest _ e, passed1_most _ e, passed3 _ _ c.in_ok-words.ensures)

pub returns : goal.returns
unfolding judged judge_checks
returns c = c.check_row.ensures ∙ goes _ _ c.in_ok-words.ensures ∙ goes _ _ c.in_ok-samples.ensures
