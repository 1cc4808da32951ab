-- `slots::close_run` meets its contract. Assumes nothing.
use native.Mathlib.Omega.{arith}
use Rattle.runs.specs.Words.{samples, in_force, slot_start}
use Rattle.runs.proofs.SlotLaws.{formed_fits, slot_within}
use Rattle.slots.proofs.store.close_run.Goals as goal

pub close_at-requires : goal.close_at-requires
close_at-requires c =
    let w = c.args.words.now in
    rw (c.span_of-span.ensures.0, c.span_of-span.ensures.1, c.slot_words.ensures, c.samples.ensures)
    (slot_within (samples w) c.args.at (in_force w) (slot_start (samples w) (in_force w)) c.requires.1 (omega arith), formed_fits w c.requires.0)
