-- `lay::subtrees::subtree`: in a pair it stands behind the bracket or a comma, and has laid the subtrees before it. Assumes nothing.
use Prim.Native.Nat.{◌-◌}
use lib.ListN.{length}
use Rattle.lay.specs.Keeping.{number, Named, Paired}
use Rattle.lay.proofs.subtrees.+subtree.Given as goal

abbrev pub decreases-subtree : goal.decreases-subtree
decreases-subtree l = l.left

abbrev pub invariant-loop-e : goal.invariant-loop-e
invariant-loop-e l = Paired l.s l.at l.left l.fn.kept l.fn.row l.fn.marks l.j (number l.node) l.kept l.row l.marks × Named l.node

abbrev pub decreases-loop-e : goal.decreases-loop-e
decreases-loop-e l = length l.s - l.j
