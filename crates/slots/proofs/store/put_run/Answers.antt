-- `slots::put_run` meets its contract. Assumes nothing.
use native.Mathlib.Omega.{arith}
use Rattle.runs.specs.Words.{samples, in_force}
use Rattle.runs.proofs.SlotLaws.{next_fits, slot_order}
use Rattle.slots.proofs.store.put_run.Goals as goal

pub put_at-requires : goal.put_at-requires
put_at-requires c =
    let w = c.args.words.now in
    let order = slot_order (samples w) c.args.at (in_force w) c.requires.1 in
    let room = next_fits w c.requires.0 c.requires.2 in (
      omega (arith, c.span_of-span.ensures, order),
      rw (c.span_of-span.ensures.1, c.requires.3) room.1,
    )

pub overflow_cast-words : goal.overflow_cast-words
overflow_cast-words c =
    let a = c.args in
    let w = a.words.now in
    omega (arith, c.in_force-k.ensures, next_fits w c.requires.0 c.requires.2)
