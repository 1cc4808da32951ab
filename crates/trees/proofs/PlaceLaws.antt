-- Places of the samples: a sample is in a node's group exactly if its place lies in the node's interval (P). Assumes nothing.
use Rattle.std.specs.Prelude.{ℕ, zero, suc, ◌+◌, ◌-◌, ◌≤◌, ◌<◌, ◌≡◌, refl, ◌⊎◌, List, true, false, ◌&&◌, eqb, ltb, leb}
use Rattle.std.proofs.Common.{sym, ap, ◌∙◌, subst, inl, inr, ⊎_elim, true≢false, add-sub_of_le, add-zero, add-suc, arith, ltb-true, leb-true, eqb-true, lt-ltb, le-leb}
use Rattle.std.proofs.lemmas.Bool.{eqb-false}
use Rattle.trees.specs.Groups.{Group, has, size}
use Rattle.trees.specs.Rows.{nodes, parent, meets, group_at}
use Rattle.trees.specs.Rooted.{Rooted}
use Rattle.trees.specs.Falls.{Falls, due}
use Rattle.trees.specs.Tables.{entry, Keys, size_at}
use Rattle.trees.specs.Passes.{node, part, offset_at, Starts}
use Rattle.trees.proofs.BoolLaws.{and_l, and_r, true_eq, decide}
use Rattle.trees.proofs.GroupLaws.{size_one}
use Rattle.trees.proofs.WayLaws.{Met, here, up, met_to, meets_refl, meets_zero}
use Rattle.trees.proofs.RowLaws.{Above, group_has, in_group, above_trans, child_above, step_down, no_leaf_above}
use Rattle.trees.proofs.NeverLaws.{Tri, less, equal, more, tri}
use Rattle.trees.proofs.TurnLaws.{due_low, due_due, due_one, parent_in, not_root, falls_rooted, root_above}
use Rattle.trees.proofs.PassLaws.{node_child, node_parent, part_full, part_other, size_join}
use Rattle.trees.proofs.LinearLaws.{size_most}

module _ (n : ℕ) (r : List ℕ) (ok : Falls n r) where
  up_ends : Rooted n r
  up_ends = falls_rooted n r ok

  -- ---- what a node has got grows to its group

  grows_one : (d p : ℕ) → suc d < nodes r → p < nodes r → size (part n r d p) ≤ size (part n r (suc d) p)
  grows_one d p h k = ⊎_elim
      (λ e. let q : p ≡ parent r (node n r d) = eqb-true p (parent r (node n r d)) e in rw q (omega (arith, size_join n r ok d h)))
      (λ e. omega (arith, ap size (part_other n r ok d p h k (eqb-false p (parent r (node n r d)) e)))) (decide (eqb p (parent r (node n r d))))

  grows : (e d p : ℕ) → d + e < nodes r → p < nodes r → size (part n r d p) ≤ size (part n r (d + e) p)
  grows zero d p h k = rw add-zero (omega arith)
  grows (suc e) d p h k = rw add-suc (omega (arith, grows e d p (omega arith) k, grows_one (d + e) p (omega arith) k))

  grown : (d e p : ℕ) → d ≤ e → e < nodes r → p < nodes r → size (part n r d p) ≤ size (part n r e p)
  grown d e p l h k = let q : d + (e - d) ≡ e = add-sub_of_le l in rw q at (grows (e - d) d p (omega arith) k)

  all_got : (d p : ℕ) → d < nodes r → p < nodes r → size (part n r d p) ≤ size_at n r p
  all_got d p h k = omega (
    arith,
    grown d (nodes r - 1) p (omega arith) (omega arith) k,
    ap size (part_full n r ok (nodes r - 1) p k (omega (arith, due_low n r ok p k))),
  )

  -- the node of step d has all its samples by then
  ready : (d : ℕ) → suc d < nodes r → size (part n r (suc d) (parent r (node n r d))) ≡ offset_at n r d + size_at n r (node n r d)
  ready d h = let c = node_child n r ok d h in size_join n r ok d h ∙ ap (λ (g : Group). offset_at n r d + size g)
      (part_full n r ok d (node n r d) c.0 (omega (arith, c.2)))

  pub offset_fits : (d : ℕ) → suc d < nodes r → offset_at n r d + size_at n r (node n r d) ≤ size_at n r (parent r (node n r d))
  offset_fits d h = omega (arith, ready d h, all_got (suc d) (parent r (node n r d)) h (node_parent n r ok d h).1)

  module _ (start : ℕ → ℕ) (laid : Starts n r start) where
    -- the place of a child inside its parent, by the child's number
    child_at : (v : ℕ) → v < nodes r → (v ≡ n → ⊥) → (suc (due n r v) < nodes r) × (start v ≡ start (parent r v) + size (part n r (due n r v) (parent r v)))
        × (size (part n r (suc (due n r v)) (parent r v)) ≡ size (part n r (due n r v) (parent r v)) + size_at n r v)
    child_at v h x =
        let p = parent_in n r ok v h x in
        let t : due n r (due n r v) ≡ v = due_due n r ok v h in
        let k : suc (due n r v) < nodes r = omega (arith, p.2, due_low n r ok (parent r v) p.1) in
        (k, (rw t at (laid.child (due n r v) k)), (rw t at (ready (due n r v) k)))

    child_in : (v : ℕ) → v < nodes r → (v ≡ n → ⊥) → (start (parent r v) ≤ start v) × (start v + size_at n r v ≤ start (parent r v) + size_at n r (parent r v))
    child_in v h x = let a = child_at v h x in (omega arith, omega (arith, all_got (suc (due n r v)) (parent r v) a.0 (parent_in n r ok v h x).1))

    -- what is below a node lies inside its interval
    inside : (f w u : ℕ) → meets f r w u ≡ true → u < nodes r → (start w ≤ start u) × (start u + size_at n r u ≤ start w + size_at n r w)
    inside zero w u m h = rw (meets_zero r w u m) (omega arith, omega arith)
    inside (suc f) w u m h = go (met_to r f w u m) (λ q l. inside f w (parent r u) q l)
      where
        go : Met r f w u → (meets f r w (parent r u) ≡ true → parent r u < nodes r
            → (start w ≤ start (parent r u)) × (start (parent r u) + size_at n r (parent r u) ≤ start w + size_at n r w))
            → (start w ≤ start u) × (start u + size_at n r u ≤ start w + size_at n r w)
        go (here e) k = rw e (omega arith, omega arith)
        go (up e q) k = let x = not_root n r ok u e in let a = k q (parent_in n r ok u h x).1 in let b = child_in u h x in (omega arith, omega arith)

    -- of two children of one node the one done first lies first
    siblings : (c d : ℕ) → c < nodes r → d < nodes r → (c ≡ n → ⊥) → (d ≡ n → ⊥) → parent r c ≡ parent r d → due n r c < due n r d
        → start c + size_at n r c ≤ start d
    siblings c d h k x y e z =
        let a = rw e at (child_at c h x) in
        let b = child_at d k y in
        omega (arith, grown (suc (due n r c)) (due n r d) (parent r d) z (omega arith) (parent_in n r ok d k y).1)

    abbrev Beside : ℕ → ℕ → Type 0
    Beside x u = (start x + size_at n r x ≤ start u) ⊎ (start u + size_at n r u ≤ start x)

    -- two nodes of which none is above the other have intervals that share no place
    beside : (e x u : ℕ) → nodes r ≤ due n r x + e → x < nodes r → u < nodes r → meets (nodes r) r x u ≡ false → meets (nodes r) r u x ≡ false → Beside x u
    beside zero x u l h k a b = absurd (omega (arith, due_low n r ok x h))
    beside (suc e) x u l h k a b = go (decide (meets (nodes r) r (parent r x) u)) (decide (meets (nodes r) r u (parent r x)))
        (λ i j. beside e (parent r x) u (omega (arith, p.2)) p.1 k i j)
      where
        y : x ≡ n → ⊥
        y q = true≢false (sym (root_above n r ok u k) ∙ ap (λ (v : ℕ). meets (nodes r) r v u) (sym q) ∙ a)

        p : (n ≤ parent r x) × (parent r x < nodes r) × (due n r x < due n r (parent r x))
        p = parent_in n r ok x h y

        parent_up : Above r (parent r x) x
        parent_up = child_above n r up_ends x (parent r x) h p.1 refl

        under : (c : ℕ) → c < nodes r → parent r c ≡ parent r x → Above r c u → Beside x u
        under c i j m = pick (tri (due n r c) (due n r x)) (inside (nodes r) c u m k)
          where
            z : c ≡ n → ⊥
            z q = omega (arith, ap (parent r) q, j, ok.root, p.1, ok.high, ok.most)

            pick : Tri (due n r c) (due n r x) → (start c ≤ start u) × (start u + size_at n r u ≤ start c + size_at n r c) → Beside x u
            pick (less q) o = inr (omega (arith, siblings c x i h z y j q))
            pick (equal q) o = absurd (true≢false (sym (subst (λ (v : ℕ). Above r v u) (due_one n r ok c x i h q) m) ∙ a))
            pick (more q) o = inl (omega (arith, siblings x c h i y z (sym j) q))

        go : (meets (nodes r) r (parent r x) u ≡ true) ⊎ (meets (nodes r) r (parent r x) u ≡ false)
            → (meets (nodes r) r u (parent r x) ≡ true) ⊎ (meets (nodes r) r u (parent r x) ≡ false)
            → (meets (nodes r) r (parent r x) u ≡ false → meets (nodes r) r u (parent r x) ≡ false → Beside (parent r x) u) → Beside x u
        go (inl i) j f =
            let d = step_down n r up_ends (parent r x) u i k (λ q. true≢false (sym (subst (λ (v : ℕ). Above r v x) (sym q) parent_up) ∙ b)) in
            under d.0 d.1 d.2 d.3
        go (inr i) (inl j) f = absurd (true≢false (sym (above_trans n r up_ends u (parent r x) x h parent_up j) ∙ b))
        go (inr i) (inr j) f = let c = child_in x h y in ⊎_elim (λ q. inl (omega arith)) (λ q. inr (omega arith)) (f i j)

    self_sized : (s : ℕ) → s < n → 1 ≤ size_at n r s
    self_sized s k = size_one (group_at n r s) s (in_group n r s s k (meets_refl r (nodes r) s))

    -- places are below n
    pub place_low : (s : ℕ) → s < n → start s < n
    place_low s k = let l : s < nodes r = omega (arith, ok.low) in
        omega (arith, laid.top, inside (nodes r) n s (root_above n r ok s l) l, size_most n r n, self_sized s k)

    -- P: a sample is in the group of u exactly if its place lies in u's interval
    pub placed : (u s : ℕ) → u < nodes r → s < n → has (group_at n r u) s ≡ (leb (start u) (start s) && ltb (start s) (start u + size_at n r u))
    placed u s h k = true_eq _ _ to from
      where
        l : s < nodes r
        l = omega (arith, ok.low)

        to : has (group_at n r u) s ≡ true → leb (start u) (start s) && ltb (start s) (start u + size_at n r u) ≡ true
        to e = let i = inside (nodes r) u s (group_has n r u s e).1 l in
            rw (le-leb (start u) (start s) i.0, lt-ltb (start s) (start u + size_at n r u) (omega (arith, self_sized s k)))

        from : leb (start u) (start s) && ltb (start s) (start u + size_at n r u) ≡ true → has (group_at n r u) s ≡ true
        from e = go (decide (meets (nodes r) r u s)) (decide (meets (nodes r) r s u))
          where
            low : start u ≤ start s
            low = leb-true _ _ (and_l (leb (start u) (start s)) (ltb (start s) (start u + size_at n r u)) e)

            high : start s < start u + size_at n r u
            high = ltb-true _ _ (and_r (leb (start u) (start s)) (ltb (start s) (start u + size_at n r u)) e)

            go : (meets (nodes r) r u s ≡ true) ⊎ (meets (nodes r) r u s ≡ false) → (meets (nodes r) r s u ≡ true) ⊎ (meets (nodes r) r s u ≡ false)
                → has (group_at n r u) s ≡ true
            go (inl i) j = in_group n r u s k i
            go (inr i) (inl j) = let q : u ≡ s = no_leaf_above n r up_ends s u k h j in
                absurd (true≢false (sym (subst (λ (v : ℕ). Above r u v) q (meets_refl r (nodes r) u)) ∙ i))
            go (inr i) (inr j) = absurd (⊎_elim (λ q. omega (arith, self_sized s k, low)) (λ q. omega (arith, high))
                (beside (nodes r) s u (omega arith) l h j i))

-- places are keys
pub place_keys : (n : ℕ) (r : List ℕ) → Falls n r → (t : List ℕ) → Starts n r (entry t) → Keys n t
place_keys n r ok t laid = record { low = λ s h. place_low n r ok (entry t) laid s h }
