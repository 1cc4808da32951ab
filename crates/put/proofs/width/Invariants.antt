-- `put::width` counts the digits: those counted and those of the rest are one more than all. Assumes nothing.
use Prim.Native.Nat.{◌+◌}
use mathlib.Core.Path.{◌≡◌}
use lib.ListN.{length}
use Rattle.ascii.specs.Decimal.{decimal}
use Rattle.put.proofs.width.Given as goal

abbrev pub invariant-loop-rest : goal.invariant-loop-rest
invariant-loop-rest l = l.digits + length (decimal l.rest) ≡ 1 + length (decimal l.x)

abbrev pub decreases-loop-rest : goal.decreases-loop-rest
decreases-loop-rest l = l.rest
