-- `arb::pack_written` packs the verdict of an answer of writing. Assumes nothing.
use Rattle.arb.proofs.c.pack_written.Goals as goal

pub returns-in-Ok : goal.returns-in-Ok
returns-in-Ok c = rw c.in-Ok.is c.pack_length.ensures

pub returns-in-Err : goal.returns-in-Err
returns-in-Err c = rw (c.in-Err.is, ← c.number.ensures) c.pack_refusal.ensures
