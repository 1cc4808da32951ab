-- `listing::lines::line_count` counts the lines. Assumes nothing.
use Prim.Native.Nat.{◌+◌, ◌-◌, ◌<◌}
use mathlib.Core.Path.{◌≡◌, refl}
use native.Mathlib.Omega.{arith}
use lib.ListN.{length}
use Rattle.trees.specs.Rows.{nodes}
use Rattle.listing.specs.Listing.{lines_of}
use Rattle.listing.specs.Told.{shows, row_room}
use Rattle.listing.specs.ListingLaws.{ready_fits, ready_count}
use Rattle.listing.proofs.lines.line_count.Goals.{In-Ok}
use Rattle.listing.proofs.lines.line_count.Goals as goal

pub returns-in_default : goal.returns-in_default
returns-in_default c = rw c.in_default.is refl

pub nodes-requires : goal.nodes-requires
nodes-requires c =
    omega (arith, ready_fits c.args.agreed.now c.args.support.now c.in-Ok.is c.requires)

-- what is known of a tree that is ready
ready : (c : In-Ok) → let a = c.args in
    let n = c.in-Ok.sizes.samples in let m = nodes a.agreed.now in
    (n < m) × (m < row_room) × (length (lines_of (shows a.told a.agreed.now a.support.now)) ≡ m - n + 1)
ready c =
    ready_count c.args.agreed.now c.args.support.now c.in-Ok.is c.requires

pub overflow_sub-result : goal.overflow_sub-result
overflow_sub-result c = omega (arith, ready (goal.at.overflow_sub-result c).In-Ok, c.nodes.ensures)

pub overflow_add-result : goal.overflow_add-result
overflow_add-result c = omega (arith, ready (goal.at.overflow_add-result c).In-Ok, c.nodes.ensures)

pub returns : goal.returns
returns c = omega (arith, ready (goal.at.returns c).In-Ok, c.nodes.ensures)
