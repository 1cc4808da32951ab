-- `compare::mated` counts the nodes that have a mate: those found, and those among the nodes that are left, are all of them. Assumes nothing.
use mathlib.Core.Bool.{not}
use lib.Dec.{eqb}
use lib.ListN.{get_or}
use Rattle.trees.specs.Mates.{no_mate}
use Rattle.trees.proofs.ScanLaws.{CountLeft}
use Rattle.compare.proofs.mated.Given as goal

abbrev pub invariant-loop-v : goal.invariant-loop-v
invariant-loop-v l = CountLeft (λ u. not (eqb (get_or l.mate u 0) no_mate)) l.a l.m l.found l.v
