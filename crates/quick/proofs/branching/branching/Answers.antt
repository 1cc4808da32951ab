-- `quick::branching::branching` counts the children, and answers check 10 by the counts. Assumes nothing.
use mathlib.Core.Path.{refl}
use Rattle.quick.proofs.branching.branching.Goals as goal

pub count_children-requires : goal.count_children-requires
count_children-requires c =
    refl
