-- `scan::bytes::skip_while` has passed the bytes up to i by, whatever test its closure tells. Assumes nothing.
use Rattle.std.specs.Prelude.{ℕ, Bool}
use Rattle.scan.specs.Scanning.{Tells, Skipping}
use Rattle.scan.proofs.bytes.skip_while.Given as goal

abbrev pub invariant-loop-i : goal.invariant-loop-i
invariant-loop-i g l = (t : ℕ → Bool) → Tells t (goal.F-post g l.test) → Skipping t l.s l.at l.i
