-- `judge::children` counts the children: those found, and those among the nodes that are left, are all of them. Assumes nothing.
use Rattle.trees.specs.Rows.{nodes, child_of}
use Rattle.trees.proofs.ScanLaws.{CountLeft}
use Rattle.judge.proofs.children.Given as goal

abbrev pub invariant-loop-u : goal.invariant-loop-u
invariant-loop-u l = CountLeft (child_of l.row l.p) l.a (nodes l.row) l.found l.u
