-- `quick::tally::tally` counts word by word. Assumes nothing.
use mathlib.Core.Path.{◌∙◌}
use native.Mathlib.Omega.{arith}
use Rattle.quick.proofs.TallyLaws.{tally_start, tally_room, tally_more, tally_past, tally_end}
use Rattle.quick.proofs.tally.tally.Goals.{then-k-lt-TABLE, else-k-lt-TABLE}
use Rattle.quick.proofs.tally.tally.Goals as goal

pub loop-u-init : goal.loop-u-init
loop-u-init c = rw c.requires.2 (tally_start _ _ _)

pub raise-requires : goal.raise-requires
raise-requires c =
    let l = c.loop-u in
    (c.if-k-lt-TABLE.true, omega (arith, tally_room _ _ _ _ _ l.invariant c.from-k.result c.if-k-lt-TABLE.true))

pub loop-u-preserved : goal.loop-u-preserved
loop-u-preserved c =
    let l = c.loop-u in
    elim c.if-k-lt-TABLE.branch [
      | then-k-lt-TABLE w ↦ rw (w.counts-is ∙ w.raise.ensures) (tally_more _ _ _ _ _ l.invariant _ (omega arith) c.from-k.ensures w.if-k-lt-TABLE.true)
      | else-k-lt-TABLE w ↦ rw w.counts-is (tally_past _ _ _ _ _ l.invariant _ (omega arith) c.from-k.ensures w.if-k-lt-TABLE.false)
    ]

pub returns : goal.returns
returns c = tally_end _ _ _ _ _ c.loop-u.invariant (omega arith)
