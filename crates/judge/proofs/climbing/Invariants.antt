-- `judge::climbing` answers check 9: the ways up from the nodes passed end, so the nodes that are left decide. Assumes nothing.
use mathlib.Core.Bool.{not}
use Rattle.trees.specs.Rows.{nodes, ends}
use Rattle.trees.proofs.ScanLaws.{ScanLeft}
use Rattle.judge.proofs.climbing.Given as goal

abbrev pub invariant-loop-start : goal.invariant-loop-start
invariant-loop-start l = ScanLeft (λ u. not (ends (nodes l.row) l.row u)) 0 (nodes l.row) l.start
