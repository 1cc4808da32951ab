-- `arb::pack` packs an answer's verdict. Assumes nothing.
use Rattle.arb.proofs.c.pack.Goals as goal

pub returns-in-Err : goal.returns-in-Err
returns-in-Err c = rw (c.in-Err.is, ← c.number.ensures) c.pack_refusal.ensures
