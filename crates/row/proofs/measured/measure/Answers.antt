-- `row::measured::measure` climbs from each sample, from the last to the first. Assumes nothing.
use Prim.Native.Nat.{◌+◌, ◌-◌}
use mathlib.Core.Path.{◌≡◌}
use native.Mathlib.Omega.{arith}
use Rattle.row.proofs.measured.measure.Goals as goal

pub climb-requires : goal.climb-requires
climb-requires c =
    let e : c.loop-s.s - 1 + 1 ≡ c.loop-s.s = omega arith in
    (omega arith, rw e c.loop-s.invariant)
