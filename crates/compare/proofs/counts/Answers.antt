-- `compare::counts` takes the trivial groups and what both rows have from the nodes of each. Assumes nothing.
use native.Mathlib.Omega.{arith}
use Prim.Native.Nat.{◌+◌, ◌≤◌}
use Rattle.trees.specs.Rows.{nodes}
use Rattle.trees.proofs.StandardLaws.{standard_to}
use Rattle.passes.proofs.StandardRows.{standard_over}
use Rattle.compare.proofs.CountLaws.{known_first, known_second, counts_compared}
use Rattle.compare.proofs.counts.Goals.{After-common-both}
use Rattle.compare.proofs.counts.Goals as goal

-- what is known is no more than the nodes of either row
module _ (c : After-common-both) where
  in_first : c.args.a.n + 1 + c.common-both.result ≤ nodes c.args.a.row.now
  in_first = known_first _ _ c.args.b.row.now (standard_to _ _ c.args.a.standard) (standard_over c.args.b.standard c.requires) _ c.common-both.ensures

  in_second : c.args.a.n + 1 + c.common-both.result ≤ nodes c.args.b.row.now
  in_second = known_second _ c.args.a.row.now _ (standard_to _ _ c.args.a.standard) (standard_over c.args.b.standard c.requires) _ c.common-both.ensures

pub overflow_add-known-2 : goal.overflow_add-known-2
overflow_add-known-2 c =
    let ok = (standard_to _ _ c.args.a.standard).valid in
    omega (arith, in_first (goal.at.overflow_add-known-2 c).After-common-both, ok.high, ok.most)

pub overflow_sub-first : goal.overflow_sub-first
overflow_sub-first c = omega (arith, c.nodes.ensures, in_first (goal.at.overflow_sub-first c).After-common-both)

pub overflow_sub-second : goal.overflow_sub-second
overflow_sub-second c = omega (arith, c.nodes-2.ensures, in_second (goal.at.overflow_sub-second c).After-common-both)

pub returns : goal.returns
returns c =
    rw (c.nodes.ensures, c.nodes-2.ensures)
    (counts_compared _ c.args.a.row.now c.args.b.row.now (standard_to _ _ c.args.a.standard) (standard_over c.args.b.standard c.requires) _ c.common-both.ensures)
