-- `compare::common` counts the nodes after the root that have a mate: those whose group the other row holds. Assumes nothing.
use mathlib.Core.Path.{◌∙◌}
use Rattle.trees.proofs.StandardLaws.{standard_to}
use Rattle.passes.proofs.StandardRows.{standard_over}
use Rattle.compare.proofs.CountLaws.{mates_held}
use Rattle.compare.proofs.common.Goals as goal

pub returns : goal.returns
returns c =
    let a = c.args.a in
    rw c.nodes.ensures at c.mated.ensures
    ∙ mates_held a.n a.row.now c.args.b.row.now (standard_to _ _ a.standard) (standard_over c.args.b.standard c.requires) _ (rw c.of.ensures.row at c.mates.ensures)
