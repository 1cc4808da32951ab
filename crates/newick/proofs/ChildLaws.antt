-- Of the nodes of a valid row: each sample below a node is below one child of it, two children of a node differ in their smallest samples, fewer
-- inner nodes are below a child than below its parent, and all are below the root. Assumes nothing.
use Rattle.std.specs.Prelude.{ℕ, suc, ◌-◌, ◌≤◌, ◌<◌, ◌≡◌, ◌⊎◌, List, true, false, ◌&&◌, cond, eqb, ltb}
use Rattle.std.proofs.Common.{zero-le, sym, subst, ◌∙◌, inl, inr, ⊎_elim, arith, ltb-true, ltb-false, eqb-true, eq-eqb}
use Rattle.std.proofs.lemmas.Bool.{false≢true, eqb-false}
use Rattle.trees.specs.Lists.{range, count, first}
use Rattle.trees.specs.Groups.{lowest}
use Rattle.trees.specs.Rows.{nodes, parent, root_mark, child_of, meets, group_at}
use Rattle.trees.specs.Valid.{Valid}
use Rattle.trees.proofs.BoolLaws.{and_l, and_r, and_both, not_yes, decide}
use Rattle.trees.proofs.ListLaws.{in-range, range_in, length_range, weigh_none, weigh_one, count_tight, count_le_length, Scan, scan, found, missed}
use Rattle.trees.proofs.GroupLaws.{lowest_has}
use Rattle.trees.proofs.WayLaws.{meets_refl, meets_past, meets_line, no_loop}
use Rattle.trees.proofs.RowLaws.{Above, group_has, no_mark, below_child, step_down, top_of, valid_rooted, group_full, one_root}
use Rattle.newick.specs.RowText.{root_of}
use Rattle.newick.proofs.ListedLaws.{count_unique}

module _ (n : ℕ) (r : List ℕ) (ok : Valid n r) where
  -- ---- below a node

  -- a parent is not below its child
  pub not_below : (c v : ℕ) → v < nodes r → parent r c ≡ v → Above r c v → ⊥
  not_below c v h e m = no_loop r (suc (nodes r)) (nodes r) (nodes r) c v (omega arith) m e (no_mark n r (valid_rooted n r ok) v h)
      (ok.reach v h)

  -- two children above one node are one
  pub one_child : (v c d u : ℕ) → v < nodes r → parent r c ≡ v → parent r d ≡ v → Above r c u → Above r d u → d ≡ c
  one_child v c d u h p q a b = ⊎_elim (eqb-true d c) (λ e. absurd (apart (eqb-false d c e) (meets_line r (nodes r) c d u a b)))
      (decide (eqb d c))
    where
      apart : (d ≡ c → ⊥) → (meets (nodes r) r d c ≡ true) ⊎ (meets (nodes r) r c d ≡ true) → ⊥
      apart x (inl m) = not_below d v h q (rw p at (meets_past r (nodes r) d c (λ z. x (sym z)) m))
      apart x (inr m) = not_below c v h p (rw q at (meets_past r (nodes r) c d x m))

  -- a node below v, other than v, is below one child of v exactly; one that is not below v is below none
  pub child_once : (v u : ℕ) → v < nodes r → u < nodes r → (u ≡ v → ⊥)
      → count (λ c. child_of r v c && meets (nodes r) r c u) (range 0 (nodes r)) ≡ cond (meets (nodes r) r v u) 1 0
  child_once v u h k x = go (decide (meets (nodes r) r v u))
    where
      go : (meets (nodes r) r v u ≡ true) ⊎ (meets (nodes r) r v u ≡ false)
          → count (λ c. child_of r v c && meets (nodes r) r c u) (range 0 (nodes r)) ≡ cond (meets (nodes r) r v u) 1 0
      go (inl e) =
          let w = step_down n r (valid_rooted n r ok) v u e k x in
          rw e (count_unique (λ c. child_of r v c && meets (nodes r) r c u) 0 (nodes r) w.0 zero-le w.1
          (and_both (child_of r v w.0) (meets (nodes r) r w.0 u) (eq-eqb (parent r w.0) v w.2) w.3)
          (λ d a b q. one_child v w.0 d u h w.2 (eqb-true (parent r d) v (and_l (child_of r v d) (meets (nodes r) r d u) q)) w.3
          (and_r (child_of r v d) (meets (nodes r) r d u) q)))
      go (inr e) = rw e (weigh_none (λ c. 1) (λ c. child_of r v c && meets (nodes r) r c u) (range 0 (nodes r))
          (λ c m. not_yes (child_of r v c && meets (nodes r) r c u) (λ q.
          false≢true (sym e ∙ below_child n r (valid_rooted n r ok) c v u (in-range 0 (nodes r) c m).1 h k
          (eqb-true (parent r c) v (and_l (child_of r v c) (meets (nodes r) r c u) q))
          (and_r (child_of r v c) (meets (nodes r) r c u) q)))))

  -- no two children of a node have one smallest sample: the order inside a bucket of `by_lowest` does not matter to `children_of`
  pub lowest_above : (u : ℕ) → u < nodes r → Above r u (lowest (group_at n r u))
  lowest_above u h = (group_has n r u (lowest (group_at n r u)) (lowest_has (group_at n r u) (group_full n r ok u h))).1

  pub lowest_differ : (v c d : ℕ) → v < nodes r → c < nodes r → d < nodes r → parent r c ≡ v → parent r d ≡ v
      → lowest (group_at n r c) ≡ lowest (group_at n r d) → d ≡ c
  lowest_differ v c d h i j p q e = one_child v c d (lowest (group_at n r c)) h p q (lowest_above c i)
      (subst (λ (s : ℕ). Above r d s) (sym e) (lowest_above d j))

  -- the inner nodes at or below a node
  abbrev pub pairs_at : ℕ → ℕ
  pairs_at v = count (λ u. meets (nodes r) r v u) (range n (nodes r))

  pub pairs_fall : (c v : ℕ) → c < nodes r → n ≤ v → v < nodes r → parent r c ≡ v → pairs_at c < pairs_at v
  pairs_fall c v h a k e = ⊎_elim (ltb-true (pairs_at c) (pairs_at v)) (λ q. absurd (not_below c v k e
      (count_tight (λ u. meets (nodes r) r c u) (λ u. meets (nodes r) r v u) (range n (nodes r))
      (λ u m b. below_child n r (valid_rooted n r ok) c v u h k (in-range n (nodes r) u m).1 e b)
      (ltb-false (pairs_at c) (pairs_at v) q) v (range_in n (nodes r) v a k) (meets_refl r (nodes r) v))))
      (decide (ltb (pairs_at c) (pairs_at v)))

  pub pairs_some : (v : ℕ) → n ≤ v → v < nodes r → 1 ≤ pairs_at v
  pairs_some v a h = weigh_one (λ u. 1) (λ u. meets (nodes r) r v u) (range n (nodes r)) v (range_in n (nodes r) v a h)
      (meets_refl r (nodes r) v)

  pub pairs_few : (v : ℕ) → pairs_at v ≤ nodes r - n
  pairs_few v = omega (arith, count_le_length (λ u. meets (nodes r) r v u) (range n (nodes r)), length_range n (nodes r))

  -- ---- the root

  pub root_at : (n ≤ root_of n r) × (root_of n r < nodes r) × (parent r (root_of n r) ≡ root_mark)
  root_at = go (scan (child_of r root_mark) n (nodes r))
    where
      go : Scan (child_of r root_mark) n (nodes r) (first (child_of r root_mark) (range n (nodes r)))
          → (n ≤ root_of n r) × (root_of n r < nodes r) × (parent r (root_of n r) ≡ root_mark)
      go (found i e l) = rw e (l.from, l.to, eqb-true (parent r i) root_mark l.passes)
      go (missed e f) = absurd (omega (
        arith,
        ok.one,
        weigh_none (λ c. 1) (child_of r root_mark) (range n (nodes r))
            (λ c m. f c (in-range n (nodes r) c m).0 (in-range n (nodes r) c m).1),
      ))

  pub root_above : (u : ℕ) → u < nodes r → Above r (root_of n r) u
  root_above u h =
      let t = top_of n r (valid_rooted n r ok) u h in
      let q = root_at in
      subst (λ (v : ℕ). Above r v u) (one_root n r ok t.0 (root_of n r) t.1 q.0 t.2 q.1 t.3 q.2) t.4
