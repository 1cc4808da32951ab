-- `arb::pack_length`: a length above the low 8 bits, which are 0. Assumes nothing.
use native.Mathlib.Omega.{arith}
use Rattle.arb.proofs.c.pack_length.Goals as goal

pub returns : goal.returns
returns c = omega arith
