-- `listing::lines::put_line` writes the line of its number, by the two cases: a refusal, or a tree. Assumes nothing.
use Prim.Native.Nat.{◌≤◌, ◌<◌}
use native.Mathlib.Omega.{arith}
use lib.ListN.{length, length-take}
use Rattle.trees.specs.Checks.{most_samples, row_words}
use Rattle.trees.proofs.StandardLaws.{standard_from}
use Rattle.listing.specs.ListingLaws.{refused_line, ready_lines, ready_standard, ready_fits}
use Rattle.listing.proofs.lines.put_line.Goals.{In-Ok}
use Rattle.listing.proofs.lines.put_line.Goals as goal

-- the rows of a tree that is ready fit in their buffers
few : (c : In-Ok) → let n = c.in-Ok.sizes.samples in let a = c.args in
    (0 < n) × (n ≤ most_samples) × (row_words n ≤ length a.agreed.now) × (row_words n ≤ length a.support.now)
few c =
    let a = c.args in
    ready_fits a.agreed.now a.support.now c.in-Ok.is c.requires.0

pub slice_bounds-tree_line-end : goal.slice_bounds-tree_line-end
slice_bounds-tree_line-end c = simp length-take (omega (arith, few (goal.at.slice_bounds-tree_line-end c).In-Ok))

pub invariant_of-tree : goal.invariant_of-tree
invariant_of-tree c =
    let a = c.args in
    record { standard = standard_from _ _ (ready_standard a.agreed.now a.support.now c.in-Ok.is c.requires.0) }

pub tree_line-requires-clause-support_words : goal.tree_line-requires-clause-support_words
tree_line-requires-clause-support_words c =
    simp length-take (omega (arith, few (goal.at.tree_line-requires-clause-support_words c).In-Ok))

pub tree_line-requires-clause-i_in_bounds : goal.tree_line-requires-clause-i_in_bounds
tree_line-requires-clause-i_in_bounds c =
    let a = c.args in
    (rw (ready_lines a.agreed.now a.support.now c.in-Ok.is) at c.requires.1, c.requires.2)

pub returns-in-Err : goal.returns-in-Err
returns-in-Err c =
    let a = c.args in
    rw (refused_line a.i a.agreed.now a.support.now c.in-Err.is c.requires.1, ← c.number.ensures) c.put_refusal.ensures

pub returns-in-Ok : goal.returns-in-Ok
returns-in-Ok c =
    let a = c.args in
    rw (ready_lines a.agreed.now a.support.now c.in-Ok.is) c.tree_line.ensures
