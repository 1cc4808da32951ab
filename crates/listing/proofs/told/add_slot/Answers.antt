-- `listing::told::add_slot` meets its contract: a row fits in its room. Assumes nothing.
use Prim.Native.Nat.{◌≤◌}
use native.Mathlib.Omega.{arith}
use lib.ListN.{length-take}
use Rattle.trees.specs.Checks.{most_samples}
use borrow.Author.Rules.{rules}
use Rattle.listing.proofs.told.add_slot.Goals.{Start}
use Rattle.listing.proofs.told.add_slot.Goals as goal

few : (st : Start) → st.args.n ≤ most_samples
few st = omega (arith, st.requires.0.formed.most, st.requires.0.same)

pub slice_bounds-add_row-end : goal.slice_bounds-add_row-end
slice_bounds-add_row-end c = simp length-take (omega (arith, few (search rules)))

pub add_row-requires : goal.add_row-requires
add_row-requires c = (c.requires.0, c.requires.1, simp length-take (omega (arith, few (goal.at.add_row-requires c).Start)))
