-- `listing::lines::tree_line` writes the line of its number. Assumes nothing.
use Prim.Native.Nat.{◌<◌}
use native.Mathlib.Omega.{arith}
use Rattle.listing.specs.ListingLaws.{tree_count, tree_first, tree_next}
use Rattle.trees.specs.Rows.{nodes}
use Prim.Native.Nat.{◌+◌, ◌-◌}
use Rattle.trees.proofs.StandardLaws.{standard_to}
use borrow.Author.Rules.{rules}
use Rattle.listing.proofs.lines.tree_line.Goals.{Start}
use Rattle.listing.proofs.lines.tree_line.Goals as goal

-- the line's number is below the number of lines, and those are fewer than the nodes
some : (st : Start) → let a = st.args in (a.i < nodes a.tree.row.now - a.tree.n + 1) × (a.tree.n < nodes a.tree.row.now) × (nodes a.tree.row.now < 1024)
some st =
    let a = st.args in
    let v = (standard_to _ _ a.tree.standard).valid in
    (rw (tree_count a.tree.n a.k a.tree.row.now a.support.now) at st.requires.i_in_bounds.0, v.low, omega (arith, v.high, v.most))

pub returns-then-i-eq0 : goal.returns-then-i-eq0
returns-then-i-eq0 c =
    let a = c.args in
    rw (c.if-i-eq0.true, tree_first a.tree.n a.k a.tree.row.now a.support.now) c.put_head.ensures

pub overflow_add-tree : goal.overflow_add-tree
overflow_add-tree c = omega (arith, some (search rules))

pub put_node-requires : goal.put_node-requires
put_node-requires c = (standard_to _ _ c.args.tree.standard, c.requires.support_words, omega (arith, some (goal.at.put_node-requires c).Start), omega (arith, some (goal.at.put_node-requires c).Start), c.requires.i_in_bounds.1)

pub returns : goal.returns
returns c =
    let a = c.args in
    rw (tree_next a.tree.n a.k a.tree.row.now a.support.now a.i (omega (arith, c.if-i-eq0.false)) c.requires.i_in_bounds.0) c.put_node.ensures
