-- `slots::find_slot` meets its contract: the identifiers of the slots passed are smaller. Assumes nothing.
use native.Mathlib.Omega.{arith}
use lib.ListN.{length}
use Rattle.runs.specs.Words.{samples, in_force}
use Rattle.runs.proofs.SlotLaws.{formed_fits, formed_few, slot_within}
use Rattle.slots.proofs.search.find_slot.Goals as goal

pub slot_start-requires : goal.slot_start-requires
slot_start-requires c =
    let w = c.args.words.now in
    (rw c.samples-n.ensures c.requires.most, omega (arith, c.in_force-k.ensures, formed_few w c.requires))

pub bounds-words-slot_start : goal.bounds-words-slot_start
bounds-words-slot_start c =
    let w = c.args.words.now in
    let s = slot_within (samples w) c.loop-i.i (in_force w) (length w) (omega (arith, c.in_force-k.ensures)) (formed_fits w c.requires) in
    rw (c.slot_start.ensures, c.samples-n.ensures) (omega (arith, s))
