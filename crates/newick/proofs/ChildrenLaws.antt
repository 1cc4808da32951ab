-- The children of a node as its text has them: each once, none beside. Assumes nothing.
use Rattle.std.specs.Prelude.{ℕ, ◌<◌, ◌≡◌, refl, Bool, ◌&&◌, eqb, length}
use Rattle.std.proofs.Common.{zero-le, subst, ◌∙◌, arith}
use mathlib.Core.List.{List, Memᴰ}
use borrow.Author.Tests.{eqb-true, eq-eqb}
use Rattle.trees.specs.Lists.{range, count}
use Rattle.trees.specs.Groups.{lowest}
use Rattle.trees.specs.Rows.{nodes, parent, child_of, group_at}
use Rattle.trees.specs.Checks.{children}
use Rattle.trees.specs.Valid.{Valid}
use Rattle.trees.proofs.ListLaws.{in-range, range_in, weigh_one, weigh_found}
use Rattle.trees.proofs.GroupLaws.{lowest_has}
use Rattle.trees.proofs.RowLaws.{group_has, group_full}
use Rattle.newick.specs.RowText.{by_lowest, children_of}
use Rattle.newick.proofs.ListedLaws.{count_filtered, length_filter, filter_in, in_filter, count_gather}

module _ (n : ℕ) (r : List ℕ) (ok : Valid n r) where
  lowest_below : (v : ℕ) → v < nodes r → lowest (group_at n r v) < n
  lowest_below v h = (group_has n r v (lowest (group_at n r v)) (lowest_has (group_at n r v) (group_full n r ok v h))).0

  count_nodes : (t : ℕ → Bool) → count t (by_lowest n r) ≡ count t (range 0 (nodes r))
  unfolding by_lowest
  count_nodes t = count_gather (λ u. lowest (group_at n r u)) (range 0 (nodes r)) t n (λ u m. lowest_below u (in-range 0 (nodes r) u m).1)

  node_in : (u : ℕ) → u < nodes r → Memᴰ u (by_lowest n r)
  node_in u h =
      let w = weigh_found (λ y. 1) (λ y. eqb y u) (by_lowest n r)
      (omega (
        arith,
        count_nodes (λ y. eqb y u),
        weigh_one (λ y. 1) (λ y. eqb y u) (range 0 (nodes r)) u
            (range_in 0 (nodes r) u zero-le h) (eq-eqb u u refl),
      )) in
      subst (λ (y : ℕ). Memᴰ y (by_lowest n r)) (eqb-true w.0 u w.2) w.1

  in_node : (u : ℕ) → Memᴰ u (by_lowest n r) → u < nodes r
  in_node u m =
      let w = weigh_found (λ y. 1) (λ y. eqb y u) (range 0 (nodes r))
      (omega (arith, count_nodes (λ y. eqb y u), weigh_one (λ y. 1) (λ y. eqb y u) (by_lowest n r) u m (eq-eqb u u refl))) in
      omega (arith, eqb-true w.0 u w.2, (in-range 0 (nodes r) w.0 w.1).1)

  module _ (v : ℕ) where
    pub child_in : (c : ℕ) → c < nodes r → parent r c ≡ v → Memᴰ c (children_of n r v)
    unfolding children_of
    child_in c h e = filter_in (child_of r v) (node_in c h) (eq-eqb (parent r c) v e)

    pub in_child : (c : ℕ) → Memᴰ c (children_of n r v) → (c < nodes r) × (parent r c ≡ v)
    unfolding children_of
    in_child c m = let w = in_filter (child_of r v) m in (in_node c w.0, eqb-true (parent r c) v w.1)

    pub count_child : (t : ℕ → Bool) → count t (children_of n r v) ≡ count (λ c. child_of r v c && t c) (range 0 (nodes r))
    unfolding children_of
    count_child t = count_filtered (child_of r v) t (by_lowest n r) ∙ count_nodes (λ c. child_of r v c && t c)

    pub length_child : length (children_of n r v) ≡ children r v
    unfolding children_of
    length_child = length_filter (child_of r v) (by_lowest n r) ∙ count_nodes (child_of r v)
