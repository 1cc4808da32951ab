-- `arb::pack_refusal`: a refusal's number in the low 8 bits, its place above them. Assumes nothing.
use native.Mathlib.Omega.{arith}
use Rattle.arb.proofs.c.pack_refusal.Goals as goal

pub returns : goal.returns
returns c = omega arith
