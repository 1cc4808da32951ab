-- `merge::carrying::carry` carries node by node. Assumes nothing.
use Rattle.std.proofs.Common.{◌≡◌, ◌<◌, arith}
use Rattle.trees.specs.Tables.{table_words}
use Rattle.merge.specs.CarryingLaws.{carried_start, carried_kept, carried_other}
use Rattle.merge.proofs.carrying.carry.Goals.{After-from, then-keep-v, else-keep-v}
use Rattle.merge.proofs.carrying.carry.Goals as goal

pub loop-v-init : goal.loop-v-init
loop-v-init c = carried_start (omega arith)

number_fits : (c : After-from) → c.from.result < table_words
number_fits c = omega (arith, c.from.ensures, c.requires.2.fits c.loop-v.v (omega arith) (omega arith) c.if-keep-v.true)

pub loop-v-preserved : goal.loop-v-preserved
loop-v-preserved c =
    elim c.if-keep-v.branch [
      | then-keep-v w ↦ rw w.to-is (carried_kept c.requires.2 c.loop-v.invariant (omega arith) (omega arith) w.if-keep-v.true (omega (arith, w.from.ensures)) (omega arith))
      | else-keep-v w ↦ rw w.to-is (carried_other c.loop-v.invariant w.if-keep-v.false)
    ]

pub returns : goal.returns
returns c =
    let e : c.loop-v.v ≡ c.args.m = omega arith in
    rw e at c.loop-v.invariant
