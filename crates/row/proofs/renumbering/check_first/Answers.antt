-- `row::renumbering::check_first` answers the chain of checks 1, 3 of both buffers and 5 to 10 of the first. Assumes nothing.
use mathlib.Core.Path.{◌∙◌}
use Rattle.trees.specs.RowCalls.{renumber_checks}
use Rattle.judge.proofs.Laws.{stopped, goes, passed1_fewest, passed1_most}
use Rattle.row.proofs.AnswerLaws.{passed3_first}
use Rattle.row.proofs.renumbering.check_first.Goals as goal

pub returns-in_err-samples : goal.returns-in_err-samples
unfolding renumber_checks
returns-in_err-samples c = stopped _ _ _ c.in_err-samples.field-0.0 c.from_residual.ensures.1 c.in_err-samples.ensures

pub words_both-requires : goal.words_both-requires
words_both-requires c = passed1_most _ c.in_ok-samples.ensures

pub returns-in_err-words_both : goal.returns-in_err-words_both
unfolding renumber_checks
returns-in_err-words_both c =
    stopped _ _ _ c.in_err-words_both.field-0.0 c.from_residual-in_err-words_both.ensures.1 c.in_err-words_both.ensures
    ∙ goes _ _ c.in_ok-samples.ensures

pub check_row-requires : goal.check_row-requires
check_row-requires c =
    let e = c.in_ok-samples.ensures in
    let words = passed3_first c.args.n c.args.first.now c.args.second.now c.in_ok-words_both.ensures in
    (passed1_fewest _ e, passed1_most _ e, words)

pub returns : goal.returns
unfolding renumber_checks
returns c = c.check_row.ensures ∙ goes _ _ c.in_ok-words_both.ensures ∙ goes _ _ c.in_ok-samples.ensures
