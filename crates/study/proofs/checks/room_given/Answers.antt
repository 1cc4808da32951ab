-- `study::checks::room_given` answers the checks of opening. Assumes nothing.
use mathlib.Core.Path.{◌∙◌}
use Rattle.runs.specs.Calls.{check3_open, open_checks}
use Rattle.judge.proofs.Laws.{stopped, goes, last}
use Rattle.study.proofs.checks.room_given.Goals as goal

pub returns-in_err-samples : goal.returns-in_err-samples
unfolding open_checks
returns-in_err-samples c = stopped _ _ _ c.in_err-samples.field-0.0 c.from_residual.ensures.1 c.in_err-samples.ensures

pub returns : goal.returns
unfolding open_checks
returns c =
    rw (← c.capacity.ensures) c.line.ensures ∙ last (check3_open c.args.n c.args.words.now) ∙ goes _ _ c.in_ok-samples.ensures
