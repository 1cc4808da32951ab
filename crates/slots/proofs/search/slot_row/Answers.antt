-- `slots::slot_row` is the row that stands after the identifier of the slot at word p. Assumes nothing.
use Prim.Native.Nat.{◌+◌, ◌-◌, ◌*◌}
use mathlib.Core.Path.{◌≡◌}
use native.Mathlib.Omega.{arith}
use lib.Seq.{drop-drop}
use Rattle.slots.proofs.search.slot_row.Goals as goal

pub returns : goal.returns
returns c =
    let a = c.args in
    let e : (a.p + 1 + 2 * a.n) - (a.p + 1) ≡ 2 * a.n = omega arith in
    rw (e, drop-drop 1 a.p a.words.now)
