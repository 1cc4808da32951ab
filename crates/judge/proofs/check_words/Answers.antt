-- `judge::check_words` answers the chain of checks 5 to 8. Assumes nothing.
use mathlib.Core.Path.{◌∙◌}
use Rattle.judge.proofs.Laws.{stopped, goes, last}
use Rattle.judge.proofs.check_words.Goals as goal

pub returns-in_err-nodes_in_range : goal.returns-in_err-nodes_in_range
returns-in_err-nodes_in_range c = stopped _ _ _ c.in_err-nodes_in_range.field-0.0 c.from_residual.ensures.1 c.in_err-nodes_in_range.ensures

pub returns-in_err-parents : goal.returns-in_err-parents
returns-in_err-parents c =
    stopped _ _ _ c.in_err-parents.field-0.0 c.from_residual-in_err-parents.ensures.1 c.in_err-parents.ensures ∙ goes _ _ c.in_ok-nodes_in_range.ensures

pub returns-in_err-roots : goal.returns-in_err-roots
returns-in_err-roots c =
    stopped _ _ _ c.in_err-roots.field-0.0 c.from_residual-in_err-roots.ensures.1 c.in_err-roots.ensures
    ∙ goes _ _ c.in_ok-parents.ensures ∙ goes _ _ c.in_ok-nodes_in_range.ensures

pub returns : goal.returns
returns c =
    c.filler.ensures ∙ last _ ∙ goes _ _ c.in_ok-roots.ensures ∙ goes _ _ c.in_ok-parents.ensures
    ∙ goes _ _ c.in_ok-nodes_in_range.ensures
