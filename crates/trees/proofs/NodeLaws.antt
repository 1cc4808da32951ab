-- In a valid row each group has one topmost node, and the groups settle its parent; in a standard row each node is one. Assumes nothing.
use Rattle.std.specs.Prelude.{ℕ, zero, suc, ◌≤◌, ◌<◌, ◌≡◌, refl, ◌⊎◌, List, true, false, eqb, ltb}
use Rattle.std.proofs.Common.{sym, ap, ◌∙◌, inl, inr, ⊎_elim, arith, eqb-true, ltb-true, ltb-false}
use Rattle.std.proofs.lemmas.Bool.{false≢true, eqb-false}
use Rattle.trees.specs.Groups.{Group, size, member}
use Rattle.trees.specs.Rows.{nodes, parent, root_mark, child_of, ends, group_at, groups}
use Rattle.trees.specs.Valid.{Valid, Standard}
use Rattle.trees.specs.Rooted.{Rooted}
use Rattle.trees.specs.Tables.{size_at}
use Rattle.trees.specs.Renaming.{topmost}
use Rattle.trees.proofs.BoolLaws.{or_r, decide}
use Rattle.trees.proofs.GroupLaws.{within_size, within_eq, single_small}
use Rattle.trees.specs.Groups.{Within}
use Rattle.trees.proofs.WayLaws.{Met, here, up, met_to, meets_more, meets_line, ends_up, ends_none}
use Rattle.trees.proofs.RowLaws.{Above, length_group, group_has, in_group, in_groups, groups-in}
use Rattle.trees.proofs.RowLaws.{above_within, child_within}
use Rattle.trees.proofs.RowLaws.{leaf_group, parent_range, valid_rooted, leaf_below, leaf_beside}

-- ---- one row

module _ (n : ℕ) (r : List ℕ) (ok : Valid n r) where
  -- the word of a node is a number of 16 bits
  pub parent_most : (v : ℕ) → v < nodes r → parent r v ≤ root_mark
  parent_most v h = ⊎_elim (λ e. omega (arith, eqb-true (parent r v) root_mark e))
      (λ e. omega (arith, (parent_range n r ok v h e).1, ok.high, ok.most))
      (decide (child_of r root_mark v))

  -- two nodes that share a sample stand in line
  pub in_line : (v w : ℕ) → v < nodes r → Within (group_at n r v) (group_at n r w) → Above r w v ⊎ Above r v w
  in_line v w h f = let s = leaf_below n r ok v h in
      meets_line r (nodes r) v w s.0 s.2 (group_has n r w s.0 (f s.0 (in_group n r v s.0 s.1 s.2))).1

  rooted : Rooted n r
  rooted = valid_rooted n r ok

  -- a child has its parent's group where it is not smaller
  pub parent_same : (v : ℕ) → v < nodes r → child_of r root_mark v ≡ false → ltb (size_at n r v) (size_at n r (parent r v)) ≡ false
      → group_at n r v ≡ group_at n r (parent r v)
  parent_same v h e q = let b = parent_range n r ok v h e in
      within_eq _ _ (length_group n r v ∙ sym (length_group n r (parent r v))) (child_within n r rooted v (parent r v) h b.1 refl)
      (ltb-false _ _ q)

  -- a topmost node is smaller than any other above it
  pub topmost_larger : (v w : ℕ) → v < nodes r → topmost n r v ≡ true → (v ≡ w → ⊥) → Above r w v
      → (child_of r root_mark v ≡ false) × Above r w (parent r v) × (size_at n r v < size_at n r w)
  topmost_larger v w h l x m = go (met_to r (nodes r) w v (meets_more r (nodes r) (suc (nodes r)) w v (omega arith) m))
    where
      go : Met r (nodes r) w v → (child_of r root_mark v ≡ false) × Above r w (parent r v) × (size_at n r v < size_at n r w)
      go (here e) = absurd (x e)
      go (up e k) = let s : ltb (size_at n r v) (size_at n r (parent r v)) ≡ true = (rw e at l) in (
        e,
        k,
        omega (
          arith,
          ltb-true (size_at n r v) (size_at n r (parent r v)) s,
          within_size (group_at n r (parent r v)) (group_at n r w)
              (above_within n r (valid_rooted n r ok) (parent r v) w k),
        ),
      )

  -- topmost nodes with one group are one node
  pub topmost_one : (v w : ℕ) → v < nodes r → w < nodes r → topmost n r v ≡ true → topmost n r w ≡ true → group_at n r v ≡ group_at n r w
      → v ≡ w
  topmost_one v w h k a b e = ⊎_elim (eqb-true v w) (λ q. absurd (other (eqb-false v w q))) (decide (eqb v w))
    where
      other : (v ≡ w → ⊥) → ⊥
      other x = ⊎_elim (λ m. omega (arith, (topmost_larger v w h a x m).2, ap size e))
          (λ m. omega (arith, (topmost_larger w v k b (λ p. x (sym p)) m).2, ap size e))
          (in_line v w h (λ s p. rw (← e) p))

  -- each group has a topmost node
  topmost_from : (f v : ℕ) → ends f r v ≡ true → v < nodes r
      → (u : ℕ) × (u < nodes r) × (topmost n r u ≡ true) × (group_at n r u ≡ group_at n r v)
  topmost_from zero v e h = absurd (false≢true (sym (ends_none r v) ∙ e))
  topmost_from (suc f) v e h = go (decide (child_of r root_mark v)) (decide (ltb (size_at n r v) (size_at n r (parent r v))))
      (λ k l. topmost_from f (parent r v) k l)
    where
      go : (child_of r root_mark v ≡ true) ⊎ (child_of r root_mark v ≡ false)
          → (ltb (size_at n r v) (size_at n r (parent r v)) ≡ true) ⊎ (ltb (size_at n r v) (size_at n r (parent r v)) ≡ false)
          → (ends f r (parent r v) ≡ true → parent r v < nodes r
          → (u : ℕ) × (u < nodes r) × (topmost n r u ≡ true) × (group_at n r u ≡ group_at n r (parent r v)))
          → (u : ℕ) × (u < nodes r) × (topmost n r u ≡ true) × (group_at n r u ≡ group_at n r v)
      go (inl p) q k = (v, h, rw p, refl)
      go (inr p) (inl q) k = (v, h, or_r (child_of r root_mark v) _ q, refl)
      go (inr p) (inr q) k = let t = k (sym (ends_up r f v p) ∙ e) (parent_range n r ok v h p).1 in
          (t.0, t.1, t.2, t.3 ∙ sym (parent_same v h p q))

  pub topmost_of : (v : ℕ) → v < nodes r → (u : ℕ) × (u < nodes r) × (topmost n r u ≡ true) × (group_at n r u ≡ group_at n r v)
  topmost_of v h = topmost_from (nodes r) v (ok.reach v h) h

  -- a node with two samples is an inner node
  pub big_inner : (v : ℕ) → v < nodes r → 2 ≤ size_at n r v → n ≤ v
  big_inner v h z = ⊎_elim (λ l. absurd (omega (arith, ap size (leaf_group n r rooted v (ltb-true v n l)), single_small n v)))
      (ltb-false v n) (decide (ltb v n))

-- ---- a standard row

module _ (n : ℕ) (r : List ℕ) (std : Standard n r) where
  -- each node is topmost with its group
  pub standard_topmost : (v : ℕ) → v < nodes r → topmost n r v ≡ true
  standard_topmost v h = go (decide (child_of r root_mark v))
    where
      go : (child_of r root_mark v ≡ true) ⊎ (child_of r root_mark v ≡ false) → topmost n r v ≡ true
      go (inl e) = rw e
      go (inr e) =
          let b = parent_range n r std.valid v h e in
          let s = leaf_beside n r std.valid (parent r v) v (std.two (parent r v) b.0 b.1) b.1 h refl in
          ⊎_elim (or_r (child_of r root_mark v) _)
          (λ q. absurd (s.3
          (group_has n r v s.0 (rw (parent_same n r std.valid v h e q) (in_group n r (parent r v) s.0 s.1 s.2))).1))
          (decide (ltb (size_at n r v) (size_at n r (parent r v))))

  pub node_distinct : (v w : ℕ) → v < nodes r → w < nodes r → group_at n r v ≡ group_at n r w → v ≡ w
  node_distinct v w h k e = topmost_one n r std.valid v w h k (standard_topmost v h) (standard_topmost w k) e

-- ---- two rows with the same groups: the topmost nodes of a group have like parents in both

module _ (n : ℕ) (r q : List ℕ) (ok : Valid n r) (fine : Valid n q)
    (same : (x : Group) → member x (groups n r) ≡ member x (groups n q)) where
  pub twin : (v : ℕ) → v < nodes r → (w : ℕ) × (w < nodes q) × (group_at n q w ≡ group_at n r v)
  twin v h = in_groups n q (group_at n r v) (sym (same (group_at n r v)) ∙ groups-in n r v h)

  -- the second's parent is within the first's
  parent_over : (v w : ℕ) → v < nodes r → w < nodes q → topmost n r v ≡ true → topmost n q w ≡ true → group_at n r v ≡ group_at n q w
      → child_of r root_mark v ≡ false
      → (child_of q root_mark w ≡ false) × Within (group_at n q (parent q w)) (group_at n r (parent r v))
  parent_over v w h k l m e p = go
      (in_line n q fine w t.0 k (rw (← e, t.2) (child_within n r (valid_rooted n r ok) v (parent r v) h b.1 refl)))
    where
      b : (n ≤ parent r v) × (parent r v < nodes r)
      b = parent_range n r ok v h p

      t : (u : ℕ) × (u < nodes q) × (group_at n q u ≡ group_at n r (parent r v))
      t = twin (parent r v) b.1

      larger : size_at n q w < size_at n q t.0
      larger = let s : ltb (size_at n r v) (size_at n r (parent r v)) ≡ true = (rw p at l) in omega
          (arith, ltb-true (size_at n r v) (size_at n r (parent r v)) s, ap size e, ap size t.2)

      go : Above q t.0 w ⊎ Above q w t.0
          → (child_of q root_mark w ≡ false) × Within (group_at n q (parent q w)) (group_at n r (parent r v))
      go (inl a) = let x = topmost_larger n q fine w t.0 k m (λ y. omega (arith, larger, ap (λ (u : ℕ). size_at n q u) y)) a in
          (x.0, rw t.2 at (above_within n q (valid_rooted n q fine) (parent q w) t.0 x.1))
      go (inr a) = absurd
          (omega (arith, larger, within_size (group_at n q t.0) (group_at n q w) (above_within n q (valid_rooted n q fine) t.0 w a)))

module _ (n : ℕ) (r q : List ℕ) (ok : Valid n r) (fine : Valid n q)
    (same : (x : Group) → member x (groups n r) ≡ member x (groups n q)) where
  module _ (v w : ℕ) (h : v < nodes r) (k : w < nodes q) (l : topmost n r v ≡ true) (m : topmost n q w ≡ true)
      (e : group_at n r v ≡ group_at n q w) where
    -- two topmost nodes with one group are roots together
    pub root_twin : child_of r root_mark v ≡ child_of q root_mark w
    root_twin = go (decide (child_of r root_mark v)) (decide (child_of q root_mark w))
      where
        go : (child_of r root_mark v ≡ true) ⊎ (child_of r root_mark v ≡ false) → (child_of q root_mark w ≡ true) ⊎ (child_of q root_mark w ≡ false)
            → child_of r root_mark v ≡ child_of q root_mark w
        go (inl a) (inl b) = a ∙ sym b
        go (inl a) (inr b) = absurd (false≢true (sym (parent_over n q r fine ok (λ x. sym (same x)) w v k h m l (sym e) b).0 ∙ a))
        go (inr a) b = a ∙ sym (parent_over n r q ok fine same v w h k l m e a).0

    -- and otherwise their parents have one group
    pub parent_twin : child_of r root_mark v ≡ false → group_at n r (parent r v) ≡ group_at n q (parent q w)
    parent_twin a =
        let t = parent_over n r q ok fine same v w h k l m e a in
        let u = parent_over n q r fine ok (λ x. sym (same x)) w v k h m l (sym e) t.0 in
        within_eq _ _ (length_group n r (parent r v) ∙ sym (length_group n q (parent q w))) u.1 (within_size _ _ t.1)
