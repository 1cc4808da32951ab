-- `candidates::agreed_row` counts what is enough, a row that is standard. Assumes nothing.
use Rattle.trees.proofs.StandardLaws.{standard_from}
use Rattle.candidates.proofs.agreed_row.Goals as goal

pub invariant_of-tree : goal.invariant_of-tree
invariant_of-tree c = record { standard = standard_from _ _ c.enough.ensures.standard }
