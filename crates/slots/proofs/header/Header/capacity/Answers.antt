-- `slots::Header::capacity` meets its contract. Assumes nothing.
use Rattle.runs.specs.Words.{capacity}
use native.Mathlib.Omega.{arith}
use Rattle.slots.proofs.header.Header.capacity.Goals as goal

pub returns : goal.returns
unfolding capacity
returns c = omega (arith, rw (c.saturating_sub.ensures, c.slot_words.ensures) at c.min.ensures)
