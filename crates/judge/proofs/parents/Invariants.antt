-- `judge::parents` answers check 6: the nodes passed have no wrong parent, so those that are left decide. Assumes nothing.
use Rattle.trees.specs.Rows.{nodes, parent}
use Rattle.trees.specs.Checks.{stray}
use Rattle.trees.proofs.ScanLaws.{ScanLeft}
use Rattle.judge.proofs.parents.Given as goal

abbrev pub invariant-loop-v : goal.invariant-loop-v
invariant-loop-v l = ScanLeft (λ u. stray l.n (nodes l.row) u (parent l.row u)) 0 (nodes l.row) l.v
