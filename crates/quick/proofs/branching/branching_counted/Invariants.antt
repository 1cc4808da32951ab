-- `quick::branching::branching_counted` answers check 10: the inner nodes passed have a child, so those that are left decide. Assumes nothing.
use Rattle.trees.specs.Rows.{nodes}
use lib.Dec.{ltb}
use Rattle.trees.specs.Checks.{children, fewest_children}
use Rattle.trees.proofs.ScanLaws.{ScanLeft}
use Rattle.quick.proofs.branching.branching_counted.Given as goal

abbrev pub invariant-loop-v : goal.invariant-loop-v
invariant-loop-v l = ScanLeft (λ u. ltb (children l.row.row.now u) fewest_children) l.n (nodes l.row.row.now) l.v
