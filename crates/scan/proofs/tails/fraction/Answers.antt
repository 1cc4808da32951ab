-- `scan::tails::fraction` passes one digit or more by, or stops. Assumes nothing.
use native.Mathlib.Omega.{arith}
use Rattle.scan.specs.ScanningLaws.{fraction_none, fraction_some}
use Rattle.scan.proofs.tails.fraction.Goals as goal

pub returns-then-a-at : goal.returns-then-a-at
returns-then-a-at c = fraction_none _ _ _ c.skip_digits-a.ensures (omega (arith, c.if-a-at.true))

pub returns : goal.returns
returns c =
    fraction_some _ _ _ c.skip_digits-a.ensures _ (λ z. omega (arith, z, c.if-a-at.false)) c.requires c.skip_blanks.ensures
