-- `study::checks::run_given` answers checks 3, 4 and 5 to 10. Assumes nothing.
use mathlib.Core.Path.{◌∙◌}
use Rattle.judge.proofs.Laws.{stopped, goes}
use Rattle.study.proofs.checks.run_given.Goals as goal

pub returns-in_err-words : goal.returns-in_err-words
returns-in_err-words c = stopped _ _ _ c.in_err-words.field-0.0 c.from_residual.ensures.1 c.in_err-words.ensures

pub returns-in_err-identifier_given : goal.returns-in_err-identifier_given
returns-in_err-identifier_given c =
    stopped _ _ _ c.in_err-identifier_given.field-0.0 c.from_residual-in_err-identifier_given.ensures.1 c.in_err-identifier_given.ensures
    ∙ goes _ _ c.in_ok-words.ensures

pub returns : goal.returns
returns c = c.check_row.ensures ∙ goes _ _ c.in_ok-identifier_given.ensures ∙ goes _ _ c.in_ok-words.ensures
