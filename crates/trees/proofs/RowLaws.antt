-- Groups of a row: a child's is within its parent's, a leaf's is its sample; in a valid row they agree, none is empty, the root's is all. Assumes nothing.
use Prim.Native.Nat.{ℕ, zero, suc, ◌+◌, ◌-◌, ◌≤◌, ◌<◌, zero-le}
use Rattle.std.specs.Prelude.{◌≡◌, ◌⊎◌, true, ltb, length}
use Rattle.std.proofs.Common.{sym, ◌∙◌, subst, inl, inr, ⊎_elim, zero-add}
use Rattle.std.proofs.Math.Path.{ap}
use mathlib.Core.List.{List, [], ◌++◌}
use Rattle.std.proofs.Math.Bool.{false}
use Rattle.std.proofs.lemmas.Bool.{false≢true}
use native.Mathlib.Omega.{arith}
use Rattle.std.proofs.Math.Dec.{eqb}
use Rattle.std.proofs.lemmas.List.{length-replicate}
use borrow.Author.Tests.{eqb-true, eqb-false, eq-eqb, ne_eqb, ltb-true, ltb-false}
use Rattle.trees.specs.Lists.{tabulate, range}
use Rattle.trees.specs.Groups.{Group, has, whole, single, size, trivial}
use Rattle.trees.specs.Rows.{nodes, parent, root_mark, child_of, meets, ends, group_at, groups, inner, holds}
use Rattle.trees.specs.Checks.{children}
use Rattle.trees.specs.Valid.{Valid, In, Standard}
use Rattle.trees.specs.Rooted.{Rooted}
use Rattle.trees.proofs.BoolLaws.{true_eq, not_yes, decide}
use Rattle.trees.proofs.ListLaws.{length_tabulate, get_d_tabulate, tabulate_add, tabulate_same, in-range, range_in, weigh_found, count_two, count_beside}
use Rattle.trees.proofs.GroupLaws.{has_lt}
use Rattle.trees.specs.Groups.{under, over, aside}
use Rattle.trees.specs.Groups.{Within, Agree}
use Rattle.trees.proofs.GroupLaws.{size_one, size_two, size_whole, size_all, within_size, trivial_exactly}
use Rattle.trees.proofs.MemberLaws.{in_table, table_in}
use Rattle.trees.specs.Groups.{nth}
use Rattle.trees.proofs.WayLaws.{up, met_from, meets_refl, meets_trans, meets_past, below, meets_line, ends_up, ends_none, meets_less, no_loop}

-- v is met from u on, u included
abbrev pub Above : List ℕ → ℕ → ℕ → Type 0
Above r v u = meets (nodes r) r v u ≡ true

-- ---- any row

module _ (n : ℕ) (r : List ℕ) where
  pub length_group : (v : ℕ) → length (group_at n r v) ≡ n
  unfolding group_at
  length_group v = length_tabulate n (meets (nodes r) r v) 0

  pub has_group : (v s : ℕ) → s < n → has (group_at n r v) s ≡ meets (nodes r) r v s
  unfolding group_at
  has_group v s h = get_d_tabulate n (meets (nodes r) r v) 0 s false h ∙ ap (meets (nodes r) r v) (zero-add s)

  pub group_has : (v s : ℕ) → has (group_at n r v) s ≡ true → (s < n) × Above r v s
  group_has v s e = let h : s < n = omega (arith, has_lt (group_at n r v) s e, length_group v) in (h, sym (has_group v s h) ∙ e)

  pub in_group : (v s : ℕ) → s < n → Above r v s → has (group_at n r v) s ≡ true
  in_group v s h m = has_group v s h ∙ m

  pub length_inner : length (inner n r) ≡ nodes r - n
  unfolding inner
  length_inner = length_tabulate (nodes r - n) (group_at n r) n

  pub at_inner : (i : ℕ) → n + i < nodes r → nth (inner n r) i ≡ group_at n r (n + i)
  unfolding inner
  at_inner i h = get_d_tabulate (nodes r - n) (group_at n r) n i [] (omega arith)

  pub in_inner : (g : Group) → In g (inner n r) → (v : ℕ) × (n ≤ v) × (v < nodes r) × (group_at n r v ≡ g)
  unfolding inner
  in_inner g m = let t = in_table (nodes r - n) (group_at n r) n g m in (t.0, t.1, omega arith, t.3)

  pub inner_in : (v : ℕ) → n ≤ v → v < nodes r → In (group_at n r v) (inner n r)
  unfolding inner
  inner_in v a h = table_in (nodes r - n) (group_at n r) n v a (omega arith)

  pub in_groups : (g : Group) → In g (groups n r) → (v : ℕ) × (v < nodes r) × (group_at n r v ≡ g)
  unfolding groups
  in_groups g m = let t = in_table (nodes r) (group_at n r) 0 g m in (t.0, omega arith, t.3)

  pub groups-in : (v : ℕ) → v < nodes r → In (group_at n r v) (groups n r)
  unfolding groups
  groups-in v h = table_in (nodes r) (group_at n r) 0 v zero-le (omega arith)

-- ---- a row in which every way up ends

module _ (n : ℕ) (r : List ℕ) (ok : Rooted n r) where
  pub no_mark : (v : ℕ) → v < nodes r → eqb v root_mark ≡ false
  no_mark v h = ne_eqb v root_mark (λ q. omega (arith, ok.high, ok.most))

  pub own_parent : (v : ℕ) → v < nodes r → parent r v ≡ v → ⊥
  own_parent v h e = no_loop r (suc (nodes r)) (nodes r) 0 v v (omega arith) (meets_refl r 0 v) e (no_mark v h) (ok.reach v h)

  pub above_trans : (w v u : ℕ) → u < nodes r → Above r v u → Above r w v → Above r w u
  above_trans w v u h a b = meets_less r (nodes r) (nodes r + nodes r) w u (ok.reach u h) (meets_trans r (nodes r) (nodes r) w v u a b)

  -- what is above the parent is above the child
  pub above_child : (v u : ℕ) → u < nodes r → child_of r root_mark u ≡ false → Above r v (parent r u) → Above r v u
  above_child v u h e m = meets_less r (nodes r) (suc (nodes r)) v u (ok.reach u h) (met_from r (nodes r) v u (up e m))

  -- a node is at or below v, which it is not itself, exactly if its parent is
  pub above_parent : (v u : ℕ) → u < nodes r → child_of r root_mark u ≡ false → (u ≡ v → ⊥) → meets (nodes r) r v u ≡ meets (nodes r) r v (parent r u)
  above_parent v u h e x = true_eq _ _ (meets_past r (nodes r) v u x) (above_child v u h e)

  pub child_above : (c v : ℕ) → c < nodes r → v < nodes r → parent r c ≡ v → Above r v c
  child_above c v h k e = above_child v c h (rw e (no_mark v k)) (rw e (meets_refl r (nodes r) v))

  -- what is below a child is below its parent
  pub below_child : (c v u : ℕ) → c < nodes r → v < nodes r → u < nodes r → parent r c ≡ v → Above r c u → Above r v u
  below_child c v u h k l e m = above_trans v c u l m (child_above c v h k e)

  -- the child of w on the way up to it
  pub step_down : (w u : ℕ) → Above r w u → u < nodes r → (u ≡ w → ⊥) → (c : ℕ) × (c < nodes r) × (parent r c ≡ w) × Above r c u
  step_down = below r (nodes r) (λ v h e. (ok.inside v h e).1) (nodes r)

  -- a child is a child of an inner node
  pub child_inner : (c v : ℕ) → c < nodes r → v < nodes r → parent r c ≡ v → n ≤ v
  child_inner c v h k e = rw e at (ok.inside c h (rw e (no_mark v k))).0

  -- above a leaf is that leaf alone
  pub no_leaf_above : (s u : ℕ) → s < n → u < nodes r → Above r s u → u ≡ s
  no_leaf_above s u h k m = ⊎_elim (eqb-true u s) (λ e. absurd (other (eqb-false u s e))) (decide (eqb u s))
    where
      other : (u ≡ s → ⊥) → ⊥
      other x = let t = step_down s u m k x in omega (arith, child_inner t.0 s t.1 (omega (arith, ok.low)) t.2)

  to_root : (f u : ℕ) → ends f r u ≡ true → u < nodes r → (w : ℕ) × (n ≤ w) × (w < nodes r) × (parent r w ≡ root_mark) × (meets f r w u ≡ true)
  to_root zero u e h = absurd (false≢true (sym (ends_none r u) ∙ e))
  to_root (suc f) u e h = go (decide (child_of r root_mark u)) (λ k l. to_root f (parent r u) k l)
    where
      low : parent r u ≡ root_mark → (ltb u n ≡ true) ⊎ (ltb u n ≡ false) → n ≤ u
      low p (inl q) = absurd (omega (arith, (ok.leaf u (ltb-true u n q)).1, ok.high, ok.most))
      low p (inr q) = ltb-false u n q

      go : (child_of r root_mark u ≡ true) ⊎ (child_of r root_mark u ≡ false)
          → (ends f r (parent r u) ≡ true → parent r u < nodes r → (w : ℕ) × (n ≤ w) × (w < nodes r) × (parent r w ≡ root_mark) ×
          (meets f r w (parent r u) ≡ true))
          → (w : ℕ) × (n ≤ w) × (w < nodes r) × (parent r w ≡ root_mark) × (meets (suc f) r w u ≡ true)
      go (inl p) k = (u, low (eqb-true _ _ p) (decide (ltb u n)), h, eqb-true _ _ p, meets_refl r (suc f) u)
      go (inr p) k = let t = k (sym (ends_up r f u p) ∙ e) (ok.inside u h p).1 in (t.0, t.1, t.2, t.3, met_from r f t.0 u (up p t.4))

  -- the root above a node
  pub top_of : (u : ℕ) → u < nodes r → (w : ℕ) × (n ≤ w) × (w < nodes r) × (parent r w ≡ root_mark) × Above r w u
  top_of u h = to_root (nodes r) u (ok.reach u h) h

  -- ---- its groups

  pub above_within : (v w : ℕ) → Above r w v → Within (group_at n r v) (group_at n r w)
  above_within v w m s e = let t = group_has n r v s e in in_group n r w s t.0 (above_trans w v s (omega (arith, ok.low)) t.1 m)

  pub child_within : (c v : ℕ) → c < nodes r → v < nodes r → parent r c ≡ v → Within (group_at n r c) (group_at n r v)
  child_within c v h k e = above_within c v (child_above c v h k e)

  pub leaf_group : (s : ℕ) → s < n → group_at n r s ≡ single n s
  unfolding group_at
  leaf_group s h = tabulate_same n (meets (nodes r) r s) (λ t. eqb t s) 0
      (λ t a b. true_eq _ _ (λ m. eq-eqb t s (no_leaf_above s t h (omega (arith, ok.low)) m)) (λ e. rw (eqb-true t s e) (meets_refl r (nodes r) s)))

-- ---- a valid row

module _ (n : ℕ) (r : List ℕ) (ok : Valid n r) where
  pub parent_range : (u : ℕ) → u < nodes r → child_of r root_mark u ≡ false → (n ≤ parent r u) × (parent r u < nodes r)
  parent_range u h e = go (decide (ltb u n))
    where
      go : (ltb u n ≡ true) ⊎ (ltb u n ≡ false) → (n ≤ parent r u) × (parent r u < nodes r)
      go (inl q) = ok.leaf u (ltb-true u n q)
      go (inr q) = ⊎_elim (λ p. absurd (eqb-false (parent r u) root_mark e p)) (λ p. p) (ok.up u (ltb-false u n q) h)

  pub valid_rooted : Rooted n r
  valid_rooted = record { most = ok.most; low = ok.low; high = ok.high; leaf = ok.leaf; inside = parent_range; reach = ok.reach }

  -- ---- groups agree

  pub group_agree : (v w : ℕ) → Agree (group_at n r v) (group_at n r w)
  group_agree v w = go (decide (meets (nodes r) r w v)) (decide (meets (nodes r) r v w))
    where
      go : (meets (nodes r) r w v ≡ true) ⊎ (meets (nodes r) r w v ≡ false) → (meets (nodes r) r v w ≡ true) ⊎ (meets (nodes r) r v w ≡ false)
          → Agree (group_at n r v) (group_at n r w)
      go (inl p) q = under (above_within n r valid_rooted v w p)
      go (inr p) (inl q) = over (above_within n r valid_rooted w v q)
      go (inr p) (inr q) = aside (λ s e. not_yes _
          (λ f. ⊎_elim (λ x. false≢true (sym p ∙ x)) (λ x. false≢true (sym q ∙ x))
          (meets_line r (nodes r) v w s (group_has n r v s e).1 (group_has n r w s f).1)))

  -- ---- below each node there is a leaf, so that no group is empty

  pub some_child : (v : ℕ) → n ≤ v → v < nodes r → (c : ℕ) × (c < nodes r) × (parent r c ≡ v)
  some_child v a h = let t = weigh_found (λ u. 1) (child_of r v) (range 0 (nodes r)) (ok.child v a h) in
      (t.0, (in-range 0 (nodes r) t.0 t.1).1, eqb-true _ _ t.2)

  leaf_from : (d f v : ℕ) → f + d ≡ nodes r → v < nodes r → ends f r v ≡ false → (s : ℕ) × (s < n) × Above r v s
  leaf_from zero f v p h e = absurd (false≢true (sym e ∙ ap (λ (g : ℕ). ends g r v) (omega arith) ∙ ok.reach v h))
  leaf_from (suc d) f v p h e = go (decide (ltb v n))
      (λ c k q. leaf_from d (suc f) c (omega arith) k (ends_up r f c (rw q (no_mark n r valid_rooted v h)) ∙ (rw q e)))
    where
      go : (ltb v n ≡ true) ⊎ (ltb v n ≡ false) → ((c : ℕ) → c < nodes r → parent r c ≡ v → (s : ℕ) × (s < n) × Above r c s) → (s : ℕ) × (s < n) × Above r v s
      go (inl q) k = (v, ltb-true v n q, meets_refl r (nodes r) v)
      go (inr q) k = let c = some_child v (ltb-false v n q) h in let s = k c.0 c.1 c.2 in
          (s.0, s.1, below_child n r valid_rooted c.0 v s.0 c.1 h (omega (arith, ok.low)) c.2 s.2)

  pub leaf_below : (v : ℕ) → v < nodes r → (s : ℕ) × (s < n) × Above r v s
  leaf_below v h = leaf_from (nodes r) 0 v (zero-add _) h (ends_none r v)

  pub group_full : (v : ℕ) → v < nodes r → 1 ≤ size (group_at n r v)
  group_full v h = let s = leaf_below v h in size_one (group_at n r v) s.0 (in_group n r v s.0 s.1 s.2)

  -- ---- the group of the root

  pub one_root : (v w : ℕ) → n ≤ v → n ≤ w → v < nodes r → w < nodes r → parent r v ≡ root_mark → parent r w ≡ root_mark → v ≡ w
  one_root v w a b h k p q = go (decide (eqb v w))
    where
      go : (eqb v w ≡ true) ⊎ (eqb v w ≡ false) → v ≡ w
      go (inl e) = eqb-true v w e
      go (inr e) = absurd (omega (
        arith,
        ok.one,
        count_two (child_of r root_mark) (range n (nodes r)) v w (range_in n (nodes r) v a h)
            (range_in n (nodes r) w b k) (eqb-false v w e) (eq-eqb _ _ p) (eq-eqb _ _ q),
      ))

  pub root_group : (v : ℕ) → n ≤ v → v < nodes r → parent r v ≡ root_mark → group_at n r v ≡ whole n
  root_group v a h p = size_all n (group_at n r v) (length_group n r v) (rw size_whole at (within_size (whole n) (group_at n r v) inside))
    where
      inside : Within (whole n) (group_at n r v)
      inside s e =
          let l : s < n = omega (arith, has_lt (whole n) s e, length-replicate n true) in
          let t = top_of n r valid_rooted s (omega (arith, ok.low)) in
          in_group n r v s l (rw (one_root t.0 v t.1 a t.2 h t.3 p) at t.4)

  pub whole_inner : In (whole n) (inner n r)
  whole_inner = let t = top_of n r valid_rooted n ok.low in
      rw (← root_group t.0 t.1 t.2 t.3) (inner_in n r t.0 t.1 t.2)

  -- ---- two children of a node share no sample

  siblings : (v c d : ℕ) → c < nodes r → v < nodes r → parent r c ≡ v → parent r d ≡ v → (c ≡ d → ⊥) → Above r d c → ⊥
  siblings v c d h k p q x m = no_loop r (suc (nodes r)) (nodes r) (nodes r) d v (omega arith) (rw p at (meets_past r (nodes r) d c x m)) q
      (no_mark n r valid_rooted v k) (ok.reach v k)

  apart_below : (v c d s : ℕ) → c < nodes r → d < nodes r → v < nodes r → parent r c ≡ v → parent r d ≡ v → (c ≡ d → ⊥) → Above r c s → Above r d s → ⊥
  apart_below v c d s h l k p q x a b = ⊎_elim (siblings v c d h k p q x) (siblings v d c l k q p (λ e. x (sym e))) (meets_line r (nodes r) c d s a b)

  -- beside a child of v, where v has two, there is a leaf below v that is not below that child
  pub leaf_beside : (v c : ℕ) → 2 ≤ children r v → v < nodes r → c < nodes r → parent r c ≡ v → (s : ℕ) × (s < n) × Above r v s × (Above r c s → ⊥)
  leaf_beside v c two h k p =
      let t = count_beside (child_of r v) 0 (nodes r) c two in
      let e : parent r t.0 ≡ v = eqb-true _ _ t.3 in
      let s = leaf_below t.0 t.2 in (
        s.0,
        s.1,
        below_child n r valid_rooted t.0 v s.0 t.2 h (omega (arith, ok.low)) e s.2,
        λ m. apart_below v c t.0 s.0 k t.2 h p e (λ x. t.4 (sym x)) m s.2,
      )

  -- so an inner node with two children has two samples or more
  pub two_samples : (v : ℕ) → n ≤ v → v < nodes r → 2 ≤ children r v → 2 ≤ size (group_at n r v)
  two_samples v a h two =
      let c = some_child v a h in
      let s = leaf_below c.0 c.1 in
      let b = leaf_beside v c.0 two h c.1 c.2 in
      size_two (group_at n r v) s.0 b.0
      (in_group n r v s.0 s.1 (below_child n r valid_rooted c.0 v s.0 c.1 h (omega (arith, ok.low)) c.2 s.2))
      (in_group n r v b.0 b.1 b.2)
      (λ q. b.3 (subst (Above r c.0) q s.2))

  -- ---- all groups: those of the single samples, and those of inner nodes

  pub groups_split : groups n r ≡ tabulate n (single n) 0 ++ inner n r
  unfolding groups inner
  groups_split =
      let e : nodes r ≡ n + (nodes r - n) = omega (arith, ok.low) in
      ap (λ (k : ℕ). tabulate k (group_at n r) 0) e ∙ tabulate_add n (nodes r - n) (group_at n r) 0
      ∙ ap (λ (k : ℕ). tabulate n (group_at n r) 0 ++ tabulate (nodes r - n) (group_at n r) k) (zero-add n)
      ∙ ap (λ (gs : List Group). gs ++ tabulate (nodes r - n) (group_at n r) n)
      (tabulate_same n (group_at n r) (single n) 0 (λ s a b. leaf_group n r valid_rooted s (omega arith)))

  -- a run holds every trivial group
  pub holds_trivial : (g : Group) → length g ≡ n → trivial g ≡ true → holds n g r ≡ true
  holds_trivial g l e = ⊎_elim
      (λ t. rw (t.2, ← leaf_group n r valid_rooted t.0 t.1) (groups-in n r t.0 (omega (arith, ok.low))))
      (λ w. rw w (let t = in_inner n r (whole n) whole_inner in rw (← t.3) (groups-in n r t.0 t.2)))
      ((trivial_exactly n g l).0 e)

-- in a standard row an inner node has two samples or more
pub inner_two : (n : ℕ) (r : List ℕ) → Standard n r → (v : ℕ) → n ≤ v → v < nodes r → 2 ≤ size (group_at n r v)
inner_two n r std v a h = two_samples n r std.valid v a h (std.two v a h)
