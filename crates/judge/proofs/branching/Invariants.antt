-- `judge::branching` answers check 10: the inner nodes passed have a child, so those that are left decide. Assumes nothing.
use lib.Dec.{ltb}
use Rattle.trees.specs.Rows.{nodes}
use Rattle.trees.specs.Checks.{children, fewest_children}
use Rattle.trees.proofs.ScanLaws.{ScanLeft}
use Rattle.judge.proofs.branching.Given as goal

abbrev pub invariant-loop-v : goal.invariant-loop-v
invariant-loop-v l = ScanLeft (λ u. ltb (children l.row u) fewest_children) l.n (nodes l.row) l.v
