-- `compare::mated` counts the nodes that have a mate: those found, and those among the nodes that are left, are all of them. Assumes nothing.
use Prim.Native.Nat.{◌<◌}
use mathlib.Core.Path.{ap}
use mathlib.Core.Bool.{not}
use native.Mathlib.Omega.{arith}
use lib.ListN.{get_or}
use borrow.Author.Tests.{eq-eqb, ne_eqb}
use Rattle.trees.specs.Mates.{no_mate}
use Rattle.trees.proofs.ScanLaws.{count_start, count_yes, count_no, count_end}
use Rattle.compare.proofs.mated.Goals.{then-mate-v-ne-NO_MATE, else-mate-v-ne-NO_MATE}
use Rattle.compare.proofs.mated.Goals as goal

pub loop-v-init : goal.loop-v-init
loop-v-init c = count_start _ _ _

pub loop-v-preserved : goal.loop-v-preserved
loop-v-preserved c =
    let l = c.loop-v in
    let h : l.v < c.args.m = omega arith in
    elim c.if-mate-v-ne-NO_MATE.branch [
      | then-mate-v-ne-NO_MATE w ↦ rw w.found-is (count_yes l.invariant h (ap not (ne_eqb _ no_mate w.if-mate-v-ne-NO_MATE.true)))
      | else-mate-v-ne-NO_MATE w ↦ rw w.found-is (count_no l.invariant h (ap not (eq-eqb (get_or c.args.mate.now l.v 0) no_mate w.if-mate-v-ne-NO_MATE.false)))
    ]

pub returns : goal.returns
returns c = count_end c.loop-v.invariant (omega arith)
