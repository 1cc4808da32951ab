-- With single branches taken out a row is valid and has the same groups, so that it is stored as the same words. Assumes nothing.
use Prim.Native.Nat.{ℕ, zero, suc, ◌+◌, ◌-◌, ◌≤◌, ◌<◌, zero-le}
use Rattle.std.specs.Prelude.{◌≡◌, List, [], ◌∷◌, ◌++◌, Bool, true, false, eqb, ltb}
use Rattle.std.proofs.Math.Path.{refl, ap}
use Rattle.std.proofs.Common.{sym, ◌∙◌, subst, inl, inr, zero-add, arith, length-append, eqb-true, eq-eqb, ne_eqb, ltb-true, ltb-false, lt-ltb, le-ltb}
use Rattle.std.proofs.Math.Logic.{⊎_elim}
use Rattle.std.proofs.lemmas.Bool.{false≢true, eqb-false}
use Rattle.std.proofs.Math.ListN.{length, get_or, get_or-append}
use Rattle.std.proofs.Math.Seq.{get_or-append-add}
use Rattle.trees.specs.Lists.{Place, nowhere, at, tabulate, zeros, range, first, count}
use Rattle.trees.specs.Groups.{Group, has, size, member}
use Rattle.trees.specs.Rows.{nodes, parent, root_mark, child_of, meets, ends, group_at, groups}
use Rattle.trees.specs.Checks.{row_words, children}
use Rattle.trees.specs.Valid.{Valid, In}
use Rattle.trees.specs.Rooted.{Rooted}
use Rattle.trees.specs.Numbering.{renumbered}
use Rattle.trees.specs.Case.{bare_of3, over_one, chain_at_root, pair_of4, chain_inside}
use Rattle.trees.specs.Cutting.{new_number, old_number, parent_past, cut_word, cut, Cuts, uncut, then}
use Rattle.trees.proofs.BoolLaws.{true_eq, decide}
use Rattle.trees.proofs.ListLaws.{length_tabulate, get_d_tabulate, length_zeros, get_or_zeros, in-range, range_in}
use Rattle.trees.proofs.ListLaws.{first_lowest, first_nowhere, weigh_one, weigh_found, count_two, count_beside}
use Rattle.trees.proofs.NeverLaws.{Tri, less, equal, more, tri, side}
use Rattle.trees.proofs.GroupLaws.{group_ext, size_whole, single_small}
use Rattle.trees.proofs.WayLaws.{Met, here, up, met_to, met_from, meets_refl, meets_zero, meets_more, meets_less}
use Rattle.trees.proofs.WayLaws.{ends_up, ends_here, ends_none, ends_more, ends_enough}
use Rattle.trees.proofs.RowLaws.{Above, length_group, group_has, in_group, in_groups, groups-in, no_mark, own_parent, above_child}
use Rattle.trees.proofs.RowLaws.{step_down, top_of, leaf_group, parent_range, valid_rooted}
use Rattle.trees.proofs.RowLaws.{leaf_below, one_root, root_group}
use Rattle.trees.proofs.NumberingLaws.{renumbered_same}
use Rattle.trees.proofs.SingleLaws.{only_child, single_group}

-- the rows of RULES 10.15, and one with a node above one sample in front of its parent: each is cut to what it is renumbered to
pub cut_specimens : (cut 3 chain_at_root 3 ≡ bare_of3) × (cut 3 over_one 4 ≡ bare_of3) × (cut 4 chain_inside 5 ≡ pair_of4)
    × (cut 4 (7 ∷ 5 ∷ 6 ∷ 4 ∷ 4 ∷ root_mark ∷ 6 ∷ 4 ∷ []) 5 ≡ pair_of4)
unfolding cut cut_word parent_past new_number old_number tabulate nodes parent
cut_specimens = (refl, refl, refl, refl)

-- ---- the numbers

module _ (v : ℕ) where
  new_low : (u : ℕ) → u ≤ v → new_number v u ≡ u
  unfolding new_number
  new_low u h = rw (le-ltb v u h)

  new_high : (u : ℕ) → v < u → new_number v u ≡ u - 1
  unfolding new_number
  new_high u h = rw (lt-ltb v u h)

  old_low : (i : ℕ) → i < v → old_number v i ≡ i
  unfolding old_number
  old_low i h = rw (lt-ltb i v h)

  old_high : (i : ℕ) → v ≤ i → old_number v i ≡ suc i
  unfolding old_number
  old_high i h = rw (le-ltb i v h)

  old_new : (u : ℕ) → (u ≡ v → ⊥) → old_number v (new_number v u) ≡ u
  old_new u x = go (tri u v)
    where
      go : Tri u v → old_number v (new_number v u) ≡ u
      go (less h) = ap (old_number v) (new_low u (omega arith)) ∙ old_low u h
      go (equal e) = absurd (x e)
      go (more h) = ap (old_number v) (new_high u h) ∙ old_high (u - 1) (omega arith) ∙ omega arith

  new_one : (u w : ℕ) → (u ≡ v → ⊥) → (w ≡ v → ⊥) → new_number v u ≡ new_number v w → u ≡ w
  new_one u w x y e = sym (old_new u x) ∙ ap (old_number v) e ∙ old_new w y

  new_old : (i : ℕ) → new_number v (old_number v i) ≡ i
  new_old i = ⊎_elim (λ h. ap (new_number v) (old_low i h) ∙ new_low i (omega arith))
      (λ h. ap (new_number v) (old_high i h) ∙ new_high (suc i) (omega arith) ∙ omega arith) (side v i)

  -- no node has the number of v
  old_other : (i : ℕ) → old_number v i ≡ v → ⊥
  old_other i e = ⊎_elim (λ h. omega (arith, old_low i h)) (λ h. omega (arith, old_high i h)) (side v i)

-- ---- the words

module _ (n : ℕ) (r : List ℕ) (v : ℕ) where
  nodes_cut : nodes (cut n r v) ≡ nodes r - 1
  unfolding nodes cut
  nodes_cut = refl

  abbrev table : List ℕ
  table = tabulate (nodes r - 1) (λ i. cut_word r v (old_number v i)) 0

  length_table : length table ≡ nodes r - 1
  length_table = length_tabulate (nodes r - 1) (λ i. cut_word r v (old_number v i)) 0

  parent_cut : (i : ℕ) → i < nodes r - 1 → parent (cut n r v) i ≡ cut_word r v (old_number v i)
  unfolding parent cut
  parent_cut i h = get_or-append table (zeros (row_words n - nodes r)) 0 i (omega (arith, length_table))
      ∙ get_d_tabulate (nodes r - 1) (λ j. cut_word r v (old_number v j)) 0 i 0 h
      ∙ ap (λ (j : ℕ). cut_word r v (old_number v j)) (zero-add i)

  length_cut : length (cut n r v) ≡ suc (nodes r - 1 + (row_words n - nodes r))
  unfolding cut
  length_cut = simp (length-append, length_tabulate, length_zeros)

  filler_cut : (w : ℕ) → nodes r - 1 < w → get_or (cut n r v) w 0 ≡ 0
  unfolding cut
  filler_cut zero h = absurd (omega arith)
  filler_cut (suc w) h = let e : w ≡ length table + (w - (nodes r - 1)) = omega (arith, length_table) in
      ap (λ (i : ℕ). get_or (table ++ zeros (row_words n - nodes r)) i 0) e
      ∙ get_or-append-add table (zeros (row_words n - nodes r)) (w - (nodes r - 1)) 0 ∙ get_or_zeros (row_words n - nodes r) (w - (nodes r - 1))

-- ---- the parent past v: of a child of v it is v's parent, of any other node its own

module _ (r : List ℕ) (v : ℕ) where
  data Past (u : ℕ) : Type 0 where
    child : parent r u ≡ v → parent_past r v u ≡ parent r v → Past u
    other : (parent r u ≡ v → ⊥) → parent_past r v u ≡ parent r u → Past u

  past : (u : ℕ) → Past u
  unfolding parent_past
  past u = ⊎_elim (λ e. child (eqb-true (parent r u) v e) (rw e)) (λ e. other (eqb-false (parent r u) v e) (rw e)) (decide (child_of r v u))

module _ (n : ℕ) (r : List ℕ) (v : ℕ) (ok : Valid n r) (a : n ≤ v) (h : v < nodes r) where
  abbrev q : List ℕ
  q = cut n r v

  rooted : Rooted n r
  rooted = valid_rooted n r ok

  pub cut_nodes : nodes q + 1 ≡ nodes r
  cut_nodes = omega (arith, nodes_cut n r v)

  -- u is a node that is kept
  abbrev Kept : ℕ → Type 0
  Kept u = (u < nodes r) × (u ≡ v → ⊥)

  -- whether u has no parent past v
  abbrev is_top : ℕ → Bool
  is_top u = eqb (parent_past r v u) root_mark

  kept_leaf : (s : ℕ) → s < n → Kept s
  kept_leaf s k = (omega arith, λ e. omega arith)

  past_kept : (u : ℕ) → u < nodes r → is_top u ≡ false → (n ≤ parent_past r v u) × Kept (parent_past r v u)
  past_kept u k = go (past r v u)
    where
      go : Past r v u → is_top u ≡ false → (n ≤ parent_past r v u) × Kept (parent_past r v u)
      go (child p e) = rw e (λ m. let b = parent_range n r ok v h m in (b.0, (b.1, own_parent n r rooted v h)))
      go (other x e) = rw e (λ m. let b = parent_range n r ok u k m in (b.0, (b.1, x)))

  -- ---- the node u under its new number

  new_below : (u : ℕ) → Kept u → new_number v u < nodes r - 1
  new_below u k = ⊎_elim (λ l. omega (arith, new_low v u (omega arith))) (λ l. omega (arith, new_high v u (omega arith))) (side v u)

  new_inner : (u : ℕ) → n ≤ u → Kept u → n ≤ new_number v u
  new_inner u b k = ⊎_elim (λ l. omega (arith, new_low v u (omega arith))) (λ l. omega (arith, new_high v u (omega arith))) (side v u)

  new_word : (u : ℕ) → Kept u → parent q (new_number v u) ≡ cut_word r v u
  new_word u k = parent_cut n r v (new_number v u) (new_below u k) ∙ ap (cut_word r v) (old_new v u k.1)

  new_parent : (u : ℕ) → Kept u → is_top u ≡ false → parent q (new_number v u) ≡ new_number v (parent_past r v u)
  unfolding cut_word
  new_parent u k e = new_word u k ∙ rw e

  new_mark : (u : ℕ) → Kept u → is_top u ≡ true → parent q (new_number v u) ≡ root_mark
  unfolding cut_word
  new_mark u k e = new_word u k ∙ rw e

  -- it is a root exactly if it has no parent past v
  new_root : (u : ℕ) → Kept u → child_of q root_mark (new_number v u) ≡ is_top u
  new_root u k = ⊎_elim (λ e. eq-eqb (parent q (new_number v u)) root_mark (new_mark u k e) ∙ sym e) node (decide (is_top u))
    where
      node : is_top u ≡ false → child_of q root_mark (new_number v u) ≡ is_top u
      node e = let l = new_below (parent_past r v u) (past_kept u k.0 e).1 in
          rw (new_parent u k e, e) (ne_eqb (new_number v (parent_past r v u)) root_mark (λ m. omega (arith, l, ok.high, ok.most)))

  -- ---- a way up with v left out is a way up of the cut row

  ends_past : (f u : ℕ) → is_top u ≡ false → ends (suc f) r u ≡ true → ends f r (parent_past r v u) ≡ true
  ends_past f u m t = go (past r v u)
    where
      go : Past r v u → ends f r (parent_past r v u) ≡ true
      go (child p e) =
          let s : ends f r v ≡ true = (rw p at (sym (ends_up r f u (rw p (no_mark n r rooted v h))) ∙ t)) in
          rw e (sym (ends_up r f v (rw e at m)) ∙ ends_more r f v s)
      go (other x e) = rw e (sym (ends_up r f u (rw e at m)) ∙ t)

  cut_ends : (f u : ℕ) → Kept u → ends f r u ≡ true → ends f q (new_number v u) ≡ true
  cut_ends zero u k t = absurd (false≢true (sym (ends_none r u) ∙ t))
  cut_ends (suc f) u k t = ⊎_elim (λ e. ends_here q f (new_number v u) (new_root u k ∙ e))
      (λ e. ends_up q f (new_number v u) (new_root u k ∙ e)
      ∙ rw (new_parent u k e) (cut_ends f (parent_past r v u) (past_kept u k.0 e).1 (ends_past f u e t)))
      (decide (is_top u))

  meets_up : (f w u : ℕ) → (w ≡ v → ⊥) → child_of r root_mark u ≡ false → meets f r w (parent r u) ≡ true
      → (is_top u ≡ false) × (meets f r w (parent_past r v u) ≡ true)
  meets_up f w u y m t = go (past r v u)
    where
      over : Met r f w v → (child_of r root_mark v ≡ false) × (meets f r w (parent r v) ≡ true)
      over (here e) = absurd (y (sym e))
      over (up e s) = (e, s)

      go : Past r v u → (is_top u ≡ false) × (meets f r w (parent_past r v u) ≡ true)
      go (child p e) = rw e (over (met_to r f w v (meets_more r f (suc f) w v (omega arith) (rw p at t))))
      go (other x e) = rw e (m, t)

  cut_meets : (f w u : ℕ) → (w ≡ v → ⊥) → Kept u → meets f r w u ≡ true → meets f q (new_number v w) (new_number v u) ≡ true
  cut_meets zero w u y k t = rw (meets_zero r w u t) (meets_refl q 0 (new_number v w))
  cut_meets (suc f) w u y k t = go (met_to r f w u t) (λ p l s. cut_meets f w p y l s)
    where
      go : Met r f w u → ((p : ℕ) → Kept p → meets f r w p ≡ true → meets f q (new_number v w) (new_number v p) ≡ true)
          → meets (suc f) q (new_number v w) (new_number v u) ≡ true
      go (here e) i = rw e (meets_refl q (suc f) (new_number v w))
      go (up e s) i =
          let m = meets_up f w u y e s in
          met_from q f (new_number v w) (new_number v u) (up (new_root u k ∙ m.0)
          (rw (new_parent u k m.0) (i (parent_past r v u) (past_kept u k.0 m.0).1 m.1)))

  -- ---- and a way up of the cut row is one of the row

  above_past : (w u : ℕ) → u < nodes r → is_top u ≡ false → Above r w (parent_past r v u) → Above r w u
  above_past w u k m t = go (past r v u)
    where
      go : Past r v u → Above r w u
      go (child p e) = let b = above_child n r rooted w v h (rw e at m) (rw e at t) in
          above_child n r rooted w u k (rw p (no_mark n r rooted v h)) (rw p b)
      go (other x e) = above_child n r rooted w u k (rw e at m) (rw e at t)

  cut_above : (f w u : ℕ) → (w ≡ v → ⊥) → Kept u → meets f q (new_number v w) (new_number v u) ≡ true → Above r w u
  cut_above zero w u y k t = rw (new_one v u w k.1 y (meets_zero q (new_number v w) (new_number v u) t)) (meets_refl r (nodes r) w)
  cut_above (suc f) w u y k t = go (met_to q f (new_number v w) (new_number v u) t) (λ p l s. cut_above f w p y l s)
    where
      go : Met q f (new_number v w) (new_number v u)
          → ((p : ℕ) → Kept p → meets f q (new_number v w) (new_number v p) ≡ true → Above r w p) → Above r w u
      go (here e) i = rw (new_one v u w k.1 y e) (meets_refl r (nodes r) w)
      go (up e s) i = let m = sym (new_root u k) ∙ e in
          above_past w u k.0 m (i (parent_past r v u) (past_kept u k.0 m).1 (rw (new_parent u k m) at s))

  -- ---- each node of the cut row is a node that is kept

  old_kept : (i : ℕ) → i < nodes q → Kept (old_number v i)
  old_kept i k = (⊎_elim (λ l. omega (arith, old_low v i l)) (λ l. omega (arith, old_high v i l, cut_nodes)) (side v i), old_other v i)

  old_inner : (i : ℕ) → n ≤ i → n ≤ old_number v i
  old_inner i b = ⊎_elim (λ l. omega (arith, old_low v i l)) (λ l. omega (arith, old_high v i l)) (side v i)

  by_old : (P : ℕ → Type 0) → ((u : ℕ) → Kept u → P (new_number v u)) → (i : ℕ) → i < nodes q → P i
  by_old P f i k = subst P (new_old v i) (f (old_number v i) (old_kept i k))

  cut_inside : (i : ℕ) → i < nodes q → child_of q root_mark i ≡ false → (n ≤ parent q i) × (parent q i < nodes q)
  cut_inside = by_old (λ i. child_of q root_mark i ≡ false → (n ≤ parent q i) × (parent q i < nodes q)) each
    where
      each : (u : ℕ) → Kept u → child_of q root_mark (new_number v u) ≡ false
          → (n ≤ parent q (new_number v u)) × (parent q (new_number v u) < nodes q)
      each u k e =
          let m = sym (new_root u k) ∙ e in
          let b = past_kept u k.0 m in
          rw (new_parent u k m, nodes_cut n r v) (new_inner (parent_past r v u) b.0 b.1, new_below (parent_past r v u) b.1)

  cut_reach : (i : ℕ) → i < nodes q → ends (nodes q) q i ≡ true
  cut_reach i k = ends_enough q (nodes q) (λ j l e. (cut_inside j l e).1) (nodes r) i k
      (by_old (λ j. ends (nodes r) q j ≡ true) (λ u l. cut_ends (nodes r) u l (ok.reach u l.0)) i k)

  -- THE GROUP OF EACH NODE THAT IS KEPT STAYS
  cut_group : (u : ℕ) → (u ≡ v → ⊥) → group_at n q (new_number v u) ≡ group_at n r u
  cut_group u x = group_ext (group_at n q (new_number v u)) (group_at n r u) (length_group n q (new_number v u) ∙ sym (length_group n r u))
      (λ s. true_eq _ _ (to s) (from s))
    where
      own : (s : ℕ) → s < n → new_number v s ≡ s
      own s k = new_low v s (omega arith)

      to : (s : ℕ) → has (group_at n q (new_number v u)) s ≡ true → has (group_at n r u) s ≡ true
      to s e = let t = group_has n q (new_number v u) s e in
          in_group n r u s t.0 (cut_above (nodes q) u s x (kept_leaf s t.0) (rw (own s t.0) t.1))

      from : (s : ℕ) → has (group_at n r u) s ≡ true → has (group_at n q (new_number v u)) s ≡ true
      from s e =
          let t = group_has n r u s e in
          let m = cut_meets (nodes r) u s x (kept_leaf s t.0) t.1 in
          let d = cut_reach s (omega (arith, t.0, cut_nodes)) in
          in_group n q (new_number v u) s t.0 (meets_less q (nodes q) (nodes r) (new_number v u) s d (rw (own s t.0) at m))

  -- ---- v is a single branch

  module _ (lone : children r v ≡ 1) where
    few : children r v < 2
    few = omega (arith, lone)

    -- THE GROUPS ARE KEPT
    pub cut_groups : (x : Group) → member x (groups n q) ≡ member x (groups n r)
    cut_groups x = true_eq _ _ to from
      where
        to : In x (groups n q) → In x (groups n r)
        to m =
            let t = in_groups n q x m in
            let u : ℕ = old_number v t.0 in
            let e : group_at n r u ≡ x = sym (cut_group u (old_other v t.0)) ∙ ap (group_at n q) (new_old v t.0) ∙ t.2 in
            rw (← e) (groups-in n r u (old_kept t.0 t.1).0)

        new_in : (u : ℕ) → Kept u → In (group_at n r u) (groups n q)
        new_in u k = rw (← cut_group u k.1) (groups-in n q (new_number v u) (rw nodes_cut (new_below u k)))

        branch_in : In (group_at n r v) (groups n q)
        branch_in =
            let c = weigh_found (λ u. 1) (child_of r v) (range 0 (nodes r)) (omega (arith, lone)) in
            let k = (in-range 0 (nodes r) c.0 c.1).1 in
            let e = eqb-true (parent r c.0) v c.2 in
            rw (← single_group n r ok v c.0 h few k e) (new_in c.0 (k, λ y. own_parent n r rooted v h (rw y at e)))

        from : In x (groups n r) → In x (groups n q)
        from m = let t = in_groups n r x m in
            rw (← t.2) (⊎_elim (λ e. rw (eqb-true t.0 v e) branch_in) (λ e. new_in t.0 (t.1, eqb-false t.0 v e))
            (decide (eqb t.0 v)))

    -- ---- the cut row is valid

    -- were v the only inner node, samples 0 and 1 would both be its children
    cut_low : n < nodes q
    cut_low = ⊎_elim (λ l. l) (λ l. absurd (omega (arith, lone, two (omega (arith, cut_nodes))))) (side (nodes q) n)
      where
        below : (s : ℕ) → s < n → nodes r ≡ n + 1 → parent r s ≡ v
        below s k e = omega (arith, ok.leaf s k)

        two : nodes r ≡ n + 1 → 2 ≤ children r v
        two e = count_two (child_of r v) (range 0 (nodes r)) 0 1 (range_in 0 (nodes r) 0 zero-le (omega arith))
            (range_in 0 (nodes r) 1 zero-le (omega (arith, ok.least))) (λ x. omega arith)
            (eq-eqb _ _ (below 0 (omega (arith, ok.least)) e)) (eq-eqb _ _ (below 1 (omega (arith, ok.least)) e))

    -- where v is the root its child has all samples, and so is none
    root_child : parent r v ≡ root_mark → (s : ℕ) → s < n → parent r s ≡ v → ⊥
    root_child m s k e = omega (
      arith,
      ap size (single_group n r ok v s h few (omega arith) e),
      ap size (leaf_group n r rooted s k),
      single_small n s,
      ap size (root_group n r ok v a h m),
      size_whole n,
      ok.least,
    )

    cut_leaf : (s : ℕ) → s < n → (n ≤ parent q s) × (parent q s < nodes q)
    cut_leaf s k = cut_inside s (omega (arith, cut_low))
        (rw (new_low v s (omega arith)) at (new_root s (kept_leaf s k) ∙ node (past r v s)))
      where
        node : Past r v s → is_top s ≡ false
        node (child p e) = rw e (ne_eqb (parent r v) root_mark (λ m. root_child m s k p))
        node (other x e) = rw e (no_mark n r rooted (parent r s) (ok.leaf s k).1)

    cut_rooted : Rooted n q
    cut_rooted = record {
      most = ok.most;
      low = cut_low;
      high = omega (arith, cut_nodes, ok.high);
      leaf = cut_leaf;
      inside = cut_inside;
      reach = cut_reach;
    }

    -- two inner nodes with no parent past v are one: the root, or the child of v where v is the root
    top_one : (u w : ℕ) → n ≤ u → n ≤ w → Kept u → Kept w → parent_past r v u ≡ root_mark → parent_past r v w ≡ root_mark → u ≡ w
    top_one u w b c k l e f = go (past r v u) (past r v w)
      where
        go : Past r v u → Past r v w → u ≡ w
        go (child p d) (child s t) = only_child n r ok v u w few k.0 l.0 p s
        go (child p d) (other s t) = absurd (l.1 (one_root n r ok w v c a l.0 h (sym t ∙ f) (sym d ∙ e)))
        go (other p d) (child s t) = absurd (k.1 (one_root n r ok u v b a k.0 h (sym d ∙ e) (sym t ∙ f)))
        go (other p d) (other s t) = one_root n r ok u w b c k.0 l.0 (sym d ∙ e) (sym t ∙ f)

    root_one : (i j : ℕ) → n ≤ i → n ≤ j → i < nodes q → j < nodes q → child_of q root_mark i ≡ true → child_of q root_mark j ≡ true → i ≡ j
    root_one i j b c k l e f = sym (new_old v i)
        ∙ ap (new_number v) (top_one (old_number v i) (old_number v j) (old_inner i b) (old_inner j c) (old_kept i k) (old_kept j l)
        (top i k e) (top j l f))
        ∙ new_old v j
      where
        top : (w : ℕ) → w < nodes q → child_of q root_mark w ≡ true → parent_past r v (old_number v w) ≡ root_mark
        top w m g = eqb-true _ _ (sym (new_root (old_number v w) (old_kept w m)) ∙ rw (new_old v w) g)

    cut_one : count (child_of q root_mark) (range n (nodes q)) ≡ 1
    cut_one = omega (
      arith,
      weigh_one (λ i. 1) (child_of q root_mark) (range n (nodes q)) t.0 (range_in n (nodes q) t.0 t.1 t.2) (eq-eqb _ _ t.3),
      no_more,
    )
      where
        t : (w : ℕ) × (n ≤ w) × (w < nodes q) × (parent q w ≡ root_mark) × Above q w n
        t = top_of n q cut_rooted n cut_low

        no_more : 2 ≤ count (child_of q root_mark) (range n (nodes q)) → ⊥
        no_more k = let y = count_beside (child_of q root_mark) n (nodes q) t.0 k in
            y.4 (root_one y.0 t.0 y.1 t.1 y.2 t.2 y.3 (eq-eqb _ _ t.3))

    -- below each node there is a sample, and so below an inner one a child
    cut_child : (i : ℕ) → n ≤ i → i < nodes q → 0 < children q i
    cut_child i b k = by_old (λ j. n ≤ j → 0 < children q j) each i k b
      where
        each : (u : ℕ) → Kept u → n ≤ new_number v u → 0 < children q (new_number v u)
        each u l c =
            let s = leaf_below n r ok u l.0 in
            let m = (group_has n q (new_number v u) s.0 (rw (cut_group u l.1) (in_group n r u s.0 s.1 s.2))).1 in
            let d = step_down n q cut_rooted (new_number v u) s.0 m (omega (arith, cut_low, s.1)) (λ y. omega (arith, s.1)) in
            weigh_one (λ j. 1) (child_of q (new_number v u)) (range 0 (nodes q)) d.0 (range_in 0 (nodes q) d.0 zero-le d.1)
            (eq-eqb _ _ d.2)

    -- A VALID ROW IS LEFT
    pub cut_valid : Valid n q
    cut_valid = record {
      least = ok.least;
      most = ok.most;
      words = length_cut n r v ∙ omega (arith, ok.high);
      low = cut_low;
      high = cut_rooted.high;
      leaf = cut_leaf;
      up = λ i b k. ⊎_elim (λ e. inl (eqb-true (parent q i) root_mark e)) (λ e. inr (cut_inside i k e)) (decide (child_of q root_mark i));
      one = cut_one;
      filler = λ w b k. filler_cut n r v w (omega (arith, cut_nodes));
      reach = cut_reach;
      child = cut_child;
    }

-- ---- any number of them

module _ (n : ℕ) where
  pub cuts_valid : {r q : List ℕ} → Cuts n r q → Valid n r → Valid n q
  cuts_valid uncut ok = ok
  cuts_valid (then v a h e c) ok = cuts_valid c (cut_valid n _ v ok a h e)

  pub cuts_groups : {r q : List ℕ} → Cuts n r q → Valid n r → (x : Group) → member x (groups n q) ≡ member x (groups n r)
  cuts_groups uncut ok x = refl
  cuts_groups (then v a h e c) ok x = cuts_groups c (cut_valid n _ v ok a h e) x ∙ cut_groups n _ v ok a h e x

  -- WITH AND WITHOUT SINGLE BRANCHES A TREE IS STORED AS THE SAME WORDS (RULES D2, 4.5)
  pub cuts_stored : {r q : List ℕ} → Cuts n r q → Valid n r → renumbered n q ≡ renumbered n r
  cuts_stored c ok = renumbered_same n _ _ (cuts_groups c ok)

  cuts_from : (k : ℕ) (r : List ℕ) → Valid n r → nodes r ≤ k
      → (q : List ℕ) × Cuts n r q × ((v : ℕ) → n ≤ v → v < nodes q → 2 ≤ children q v)
  cuts_from zero r ok h = absurd (omega (arith, ok.low))
  cuts_from (suc k) r ok h = go (first (λ v. ltb (children r v) 2) (range n (nodes r))) refl (λ p l. cuts_from k p l)
    where
      go : (p : Place) → first (λ v. ltb (children r v) 2) (range n (nodes r)) ≡ p
          → ((p : List ℕ) → Valid n p → nodes p ≤ k → (q : List ℕ) × Cuts n p q × ((v : ℕ) → n ≤ v → v < nodes q → 2 ≤ children q v))
          → (q : List ℕ) × Cuts n r q × ((v : ℕ) → n ≤ v → v < nodes q → 2 ≤ children q v)
      go nowhere e rest = (r, uncut, λ v a b. ltb-false _ _ (first_nowhere _ n (nodes r) e v a b))
      go (at v) e rest =
          let w = first_lowest _ n (nodes r) v e in
          let one : children r v ≡ 1 = omega (arith, ok.child v w.from w.to, ltb-true (children r v) 2 w.passes) in
          let t = rest (cut n r v) (cut_valid n r v ok w.from w.to one) (omega (arith, cut_nodes n r v ok w.from w.to)) in
          (t.0, then v w.from w.to one t.1, t.2)

  -- ALL OF THEM CAN BE TAKEN OUT
  pub cuts_all : (r : List ℕ) → Valid n r → (q : List ℕ) × Cuts n r q × ((v : ℕ) → n ≤ v → v < nodes q → 2 ≤ children q v)
  cuts_all r ok = cuts_from (nodes r) r ok (omega arith)
