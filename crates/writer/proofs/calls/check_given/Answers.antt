-- `writer::calls::check_given` answers the chain of checks 1 and 3. Assumes nothing.
use mathlib.Core.Path.{◌∙◌}
use Rattle.judge.proofs.Laws.{stopped, goes, last}
use Rattle.writer.proofs.calls.check_given.Goals as goal

pub returns-in_err-samples : goal.returns-in_err-samples
returns-in_err-samples c = stopped _ _ _ c.in_err-samples.field-0.0 c.from_residual.ensures.1 c.in_err-samples.ensures

pub returns : goal.returns
returns c = c.words.ensures ∙ last _ ∙ goes _ _ c.in_ok-samples.ensures
