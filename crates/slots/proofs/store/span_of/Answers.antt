-- `slots::span_of` meets its contract. Assumes nothing.
use native.Mathlib.Omega.{arith}
use Rattle.runs.proofs.SlotLaws.{formed_few}
use Rattle.slots.proofs.store.span_of.Goals as goal

pub slot_start-requires : goal.slot_start-requires
slot_start-requires c =
    rw c.samples-n.ensures (c.requires.0.most, omega (arith, formed_few c.args.words.now c.requires.0))

pub slot_start-requires-2 : goal.slot_start-requires-2
slot_start-requires-2 c =
    rw (c.samples-n.ensures, c.in_force.ensures) (c.requires.0.most, formed_few c.args.words.now c.requires.0)
