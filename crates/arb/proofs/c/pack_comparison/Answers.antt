-- `arb::pack_comparison` packs the verdict of an answer of comparing. Assumes nothing.
use Rattle.arb.proofs.c.pack_comparison.Goals as goal

pub returns-in-Ok : goal.returns-in-Ok
returns-in-Ok c = rw c.in-Ok.is c.pack_counts.ensures

pub returns-in-Err : goal.returns-in-Err
returns-in-Err c = rw (c.in-Err.is, ← c.number.ensures) c.pack_refusal.ensures
