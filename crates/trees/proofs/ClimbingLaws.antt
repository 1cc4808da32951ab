-- Climbing in a standard row: it may go on from any place passed, and finds the last number below a bound of a kept group with the sample. Assumes nothing.
use Prim.Native.Nat.{ℕ, zero, suc, ◌+◌, ◌-◌, ◌≤◌, ◌<◌, max}
use Rattle.std.specs.Prelude.{◌≡◌, ◌⊎◌, List, Bool, true, false, eqb, ltb, length, set}
use Rattle.std.proofs.Math.Path.{refl, sym}
use Rattle.std.proofs.Common.{ap, ◌∙◌, inl, inr, ⊎_elim, eq-or-lt_of_le, arith, length-set, get_or-set_same, get_or-set_other}
use Rattle.std.proofs.Math.Bool.{cond}
use borrow.Author.Tests.{eqb-true, eqb-false, ne_eqb, eq-eqb, ltb-true, ltb-false, lt-ltb, le-ltb}
use Rattle.trees.specs.Groups.{has}
use Rattle.trees.specs.Rows.{nodes, parent, root_mark, group_at}
use Rattle.trees.specs.Checks.{most_samples}
use Rattle.trees.specs.Valid.{Standard}
use Rattle.trees.specs.Falls.{Falls}
use Rattle.trees.specs.Tables.{Tabled, table_words, entry}
use Rattle.trees.specs.Climbing.{Raised, Raising, climbed, nearest, parent_of, Lifted, Placed, Climbable, Climbs}
use Rattle.trees.proofs.BoolLaws.{decide}
use Rattle.trees.specs.Groups.{Within}
use Rattle.trees.proofs.WayLaws.{meets_past, meets_line}
use Rattle.trees.proofs.RowLaws.{Above, group_has, in_group, child_above, child_within, valid_rooted}
use Rattle.trees.proofs.NeverLaws.{side}
use Rattle.trees.proofs.StandardLaws.{not_up}
use Rattle.trees.proofs.TableLaws.{tabled_none}
use Rattle.trees.proofs.FallsLaws.{standard_falls}

module _ {n : ℕ} {r : List ℕ} (std : Standard n r) where
  falls : Falls n r
  falls = standard_falls n r std

  -- ---- nodes that share a sample stand in line

  above_low : (w v : ℕ) → Above r w v → n ≤ v → w < nodes r → w ≤ v
  above_low w v m a h = ⊎_elim (λ l. absurd (not_up n r std v w a l h m)) (λ l. l) (side w v)

  -- a node of a lower number that has a sample of v does not come after the parent of v
  parent_last : (v w s : ℕ) → n ≤ w → w < v → v < nodes r → has (group_at n r v) s ≡ true → has (group_at n r w) s ≡ true → w ≤ parent r v
  parent_last v w s a h k e f = ⊎_elim up (λ m. absurd (not_up n r std w v a h k m))
      (meets_line r (nodes r) v w s (group_has n r v s e).1 (group_has n r w s f).1)
    where
      up : Above r w v → w ≤ parent r v
      up m = let t = falls.down v (omega arith) k in above_low w (parent r v) (meets_past r (nodes r) w v (λ q. omega arith) m) t.0 (omega arith)

  parent_has : (v s : ℕ) → n < v → v < nodes r → has (group_at n r v) s ≡ true → has (group_at n r (parent r v)) s ≡ true
  parent_has v s a h e = child_within n r (valid_rooted n r std.valid) v (parent r v) h (omega (arith, falls.down v a h)) refl s e

  leaf_last : (s w : ℕ) → s < n → n ≤ w → w < nodes r → has (group_at n r w) s ≡ true → w ≤ parent r s
  leaf_last s w z a h e = let t = falls.leaf s z in above_low w (parent r s) (meets_past r (nodes r) w s (λ q. omega arith) (group_has n r w s e).1) t.0 h

  leaf_has : (s : ℕ) → s < n → has (group_at n r (parent r s)) s ≡ true
  leaf_has s z = let t = falls.leaf s z in
      in_group n r (parent r s) s z (child_above n r (valid_rooted n r std.valid) s (parent r s) (omega (arith, std.valid.low)) t.1 refl)

  module _ (up : List ℕ) where
    -- ---- climbing, step by step

    pub climb_stop : (f i v : ℕ) → entry up v < i → climbed f r up i v ≡ v
    unfolding climbed
    climb_stop zero i v e = refl
    climb_stop (suc f) i v e = rw (lt-ltb (entry up v) i e)

    not_root : (i v : ℕ) → entry up n < i → n ≤ v → i ≤ entry up v → n < v
    not_root i v z a e = ⊎_elim (λ q. absurd (omega (arith, ap (entry up) q))) (λ q. q) (eq-or-lt_of_le a)

    -- enough steps are enough
    climb_fuel : (f g i v : ℕ) → entry up n < i → n ≤ v → v < nodes r → v < n + f → v < n + g → climbed f r up i v ≡ climbed g r up i v
    unfolding climbed
    climb_fuel zero g i v z a h k l = absurd (omega arith)
    climb_fuel (suc f) zero i v z a h k l = absurd (omega arith)
    climb_fuel (suc f) (suc g) i v z a h k l = go (decide (ltb (entry up v) i))
        (λ b c d. climb_fuel f g i (parent r v) z b (omega arith) (omega arith) (omega arith))
      where
        go : (ltb (entry up v) i ≡ true) ⊎ (ltb (entry up v) i ≡ false)
            → (n ≤ parent r v → parent r v < v → n < v → climbed f r up i (parent r v) ≡ climbed g r up i (parent r v))
            → cond (ltb (entry up v) i) v (climbed f r up i (parent r v)) ≡ cond (ltb (entry up v) i) v (climbed g r up i (parent r v))
        go (inl e) t = rw e
        go (inr e) t = let b = not_root i v z a (ltb-false (entry up v) i e) in let d = falls.down v b h in rw e (t d.0 d.1 b)

    pub climb_on : (i v : ℕ) → entry up n < i → n ≤ v → v < nodes r → i ≤ entry up v → climbed (nodes r) r up i v ≡ climbed (nodes r) r up i (parent r v)
    unfolding climbed
    climb_on i v z a h e = climb_fuel (nodes r) (suc (nodes r)) i v z a h (omega arith) (omega arith) ∙ (rw (le-ltb (entry up v) i e))

    -- a step goes to a node of a lower number
    pub climb_lower : (i v : ℕ) → entry up n < i → n ≤ v → v < nodes r → i ≤ entry up v → (n < v) × (n ≤ parent r v) × (parent r v < v)
    climb_lower i v z a h e = let b = not_root i v z a e in let d = falls.down v b h in (b, d.0, d.1)

    pub climb_range : (f i v : ℕ) → entry up n < i → n ≤ v → v < nodes r → (n ≤ climbed f r up i v) × (climbed f r up i v ≤ v)
    unfolding climbed
    climb_range zero i v z a h = (a, omega arith)
    climb_range (suc f) i v z a h = go (decide (ltb (entry up v) i)) (λ b c. climb_range f i (parent r v) z b c)
      where
        go : (ltb (entry up v) i ≡ true) ⊎ (ltb (entry up v) i ≡ false)
            → (n ≤ parent r v → parent r v < nodes r → (n ≤ climbed f r up i (parent r v)) × (climbed f r up i (parent r v) ≤ parent r v))
            → (n ≤ cond (ltb (entry up v) i) v (climbed f r up i (parent r v))) × (cond (ltb (entry up v) i) v (climbed f r up i (parent r v)) ≤ v)
        go (inl e) t = rw e (a, omega arith)
        go (inr e) t = let d = climb_lower i v z a h (ltb-false (entry up v) i e) in let k = t d.1 (omega arith) in rw e (k.0, omega arith)

    -- for a lower bound it goes on from where it came to
    climb_again : (f i j v : ℕ) → entry up n < j → j ≤ i → n ≤ v → v < nodes r → climbed (nodes r) r up j (climbed f r up i v) ≡ climbed (nodes r) r up j v
    unfolding climbed
    climb_again zero i j v z l a h = refl
    climb_again (suc f) i j v z l a h = go (decide (ltb (entry up v) i)) (λ b c. climb_again f i j (parent r v) z l b c)
      where
        go : (ltb (entry up v) i ≡ true) ⊎ (ltb (entry up v) i ≡ false)
            → (n ≤ parent r v → parent r v < nodes r → climbed (nodes r) r up j (climbed f r up i (parent r v)) ≡ climbed (nodes r) r up j (parent r v))
            → climbed (nodes r) r up j (cond (ltb (entry up v) i) v (climbed f r up i (parent r v))) ≡ climbed (nodes r) r up j v
        go (inl e) t = rw e
        go (inr e) t =
            let k : i ≤ entry up v = ltb-false (entry up v) i e in
            let d = climb_lower j v z a h (omega arith) in
            rw e (t d.1 (omega arith) ∙ sym (climb_on j v z a h (omega arith)))

    -- ---- places

    pub placed_start : (i : ℕ) {places : List ℕ} → length places ≡ most_samples → Tabled (parent r) 0 n places → Placed n r up i places
    placed_start i l t = record {
      words = l;
      node = λ s z. rw (t.is s (omega arith) z) (falls.leaf s z);
      same = λ s j z e k. ap (climbed (nodes r) r up j) (t.is s (omega arith) z);
    }

    pub placed_less : {i j : ℕ} {places : List ℕ} → Placed n r up i places → j ≤ i → Placed n r up j places
    placed_less p l = record { words = p.words; node = p.node; same = λ s k z e q. p.same s k z e (omega arith) }

    pub placed_lift : {i s x : ℕ} {places moved : List ℕ} → Placed n r up i places → entry up n < i → s < n → Lifted r up places i s moved x
        → Placed n r up i moved × (x ≡ nearest r up i s)
    placed_lift {i} {s} {x} {places} {moved} p z k t = (
      rw t.stored (record {
        words = length-set places s _ ∙ p.words;
        node = λ u l. ⊎_elim (λ q. rw (at u (eqb-true u s q)) (range.0, omega (arith, range.1, p.node s k)))
            (λ q. rw (off u (eqb-false u s q)) (p.node u l)) (decide (eqb u s));
        same = λ u j l a b. ⊎_elim (λ q. rw (at u (eqb-true u s q)) (again u j a b (eqb-true u s q)))
            (λ q. rw (off u (eqb-false u s q)) (p.same u j l a b)) (decide (eqb u s));
      }),
      t.number ∙ ap (entry up) (p.same s i k z (omega arith)),
    )
      where
        range : (n ≤ climbed (nodes r) r up i (entry places s)) × (climbed (nodes r) r up i (entry places s) ≤ entry places s)
        range = climb_range (nodes r) i (entry places s) z (p.node s k).0 (p.node s k).1

        at : (u : ℕ) → u ≡ s → entry (set places s (climbed (nodes r) r up i (entry places s))) u ≡ climbed (nodes r) r up i (entry places s)
        at u q = rw q (get_or-set_same places s _ 0 (omega (arith, p.words, std.valid.most)))

        off : (u : ℕ) → (u ≡ s → ⊥) → entry (set places s (climbed (nodes r) r up i (entry places s))) u ≡ entry places u
        off u q = get_or-set_other places s u _ 0 q

        again : (u j : ℕ) → entry up n < j → j ≤ i → u ≡ s
            → climbed (nodes r) r up j (climbed (nodes r) r up i (entry places s)) ≡ climbed (nodes r) r up j (parent r u)
        again u j a b q = climb_again (nodes r) i j (entry places s) a b (p.node s k).0 (p.node s k).1 ∙ p.same s j k a b
            ∙ ap (λ (w : ℕ). climbed (nodes r) r up j (parent r w)) (sym q)

    -- ---- what climbing has passed

    -- node v has sample s, and every node of a higher number that has it has a number of i or more
    pub record Past (s i v : ℕ) : Type 0 where
      pub low : n ≤ v
      pub high : v < nodes r
      pub on : has (group_at n r v) s ≡ true
      pub past : (w : ℕ) → v < w → w < nodes r → has (group_at n r w) s ≡ true → i ≤ entry up w

    pub past_start : (s i : ℕ) → s < n → Past s i (parent r s)
    past_start s i z = let t = falls.leaf s z in
        record { low = t.0; high = t.1; on = leaf_has s z; past = λ w a h e. absurd (omega (arith, leaf_last s w z (omega arith) h e)) }

    past_step : (s i v : ℕ) → Past s i v → n < v → i ≤ entry up v → Past s i (parent r v)
    past_step s i v p a e = let t = falls.down v a p.high in record {
      low = t.0;
      high = omega (arith, p.high);
      on = parent_has v s a p.high p.on;
      past = λ w b h f. go w b h f (ltb v w) refl;
    }
      where
        go : (w : ℕ) → parent r v < w → w < nodes r → has (group_at n r w) s ≡ true → (c : Bool) → ltb v w ≡ c → i ≤ entry up w
        go w b h f true q = p.past w (ltb-true v w q) h f
        go w b h f false q = ⊎_elim (λ d. rw d e) (λ d. absurd (omega (
          arith,
          parent_last v w s (omega (arith, falls.down v a p.high)) d p.high p.on f,
        ))) (eq-or-lt_of_le (ltb-false v w q))

    pub past_climbed : (f s i v : ℕ) → v < n + f → entry up n < i → Past s i v → Past s i (climbed f r up i v) × (entry up (climbed f r up i v) < i)
    unfolding climbed
    past_climbed zero s i v l z p = absurd (omega (arith, p.low))
    past_climbed (suc f) s i v l z p = go (decide (ltb (entry up v) i)) (λ q h. past_climbed f s i (parent r v) h z q)
      where
        go : (ltb (entry up v) i ≡ true) ⊎ (ltb (entry up v) i ≡ false)
            → (Past s i (parent r v) → parent r v < n + f → Past s i (climbed f r up i (parent r v)) × (entry up (climbed f r up i (parent r v)) < i))
            → Past s i (cond (ltb (entry up v) i) v (climbed f r up i (parent r v)))
            × (entry up (cond (ltb (entry up v) i) v (climbed f r up i (parent r v))) < i)
        go (inl e) t = rw e (p, ltb-true (entry up v) i e)
        go (inr e) t =
            let k = ltb-false (entry up v) i e in
            let d = climb_lower i v z p.low p.high k in
            rw e (t (past_step s i v p d.0 k) (omega arith))

  -- ---- the number of the nearest kept node

  pub raising_start : {num : List ℕ} {v : ℕ} → length num ≡ table_words → v ≤ n + 1 → Raising n r num v num
  raising_start l h = record { words = l; root = refl; next = λ u a k. absurd (omega arith); rest = λ u a. refl }

  pub raising_step : {num up : List ℕ} {v x : ℕ} → Raising n r num v up → n < v → v < nodes r
      → x ≡ cond (eqb (entry up v) 0) (entry up (parent r v)) (entry up v) → Raising n r num (v + 1) (set up v x)
  raising_step {num} {up} {v} {x} t a h e = record {
    words = length-set up v x ∙ t.words;
    root = other n (λ q. omega arith) ∙ t.root;
    next = λ u b k. go u b (eq-or-lt_of_le (omega arith));
    rest = λ u b. other u (λ q. omega arith) ∙ t.rest u (omega arith);
  }
    where
      other : (u : ℕ) → (u ≡ v → ⊥) → entry (set up v x) u ≡ entry up u
      other u q = get_or-set_other up v u x 0 q

      here : entry (set up v x) v ≡ x
      here = get_or-set_same up v x 0 (omega (arith, t.words, std.valid.high, std.valid.most))

      go : (u : ℕ) → n < u → (u ≡ v) ⊎ (u < v) → entry (set up v x) u ≡ cond (eqb (entry num u) 0) (entry (set up v x) (parent r u)) (entry num u)
      go u b (inl q) = let p = falls.down v a h in rw (q, other (parent r v) (λ z. omega arith), ← t.rest v (omega arith)) (here ∙ e)
      go u b (inr q) = let p = falls.down u b (omega arith) in rw (other u (λ z. omega arith), other (parent r u) (λ z. omega arith)) (t.next u b q)

  pub raising_end : {num up : List ℕ} {v : ℕ} → Raising n r num v up → nodes r ≤ v → Raised n r num up
  raising_end t h = record { root = t.root; next = λ u a k. t.next u a (omega arith) }

  -- of the numbers below i of nodes that have s the largest is k, one of them
  pub record Best (num : List ℕ) (i s k : ℕ) : Type 0 where
    pub high : k < i
    pub most : (w : ℕ) → n ≤ w → w < nodes r → has (group_at n r w) s ≡ true → entry num w < i → entry num w ≤ k
    pub there : (u : ℕ) × (n ≤ u) × (u < nodes r) × (has (group_at n r u) s ≡ true) × (k ≡ entry num u)

  -- numbers rise, but for nodes that have none
  abbrev pub Rises : List ℕ → Type 0
  Rises num = (u w : ℕ) → n ≤ u → u < w → w < nodes r → (entry num w ≡ 0 → ⊥) → entry num u ≤ entry num w

  module _ {num up : List ℕ} (is : Raised n r num up) (rises : Rises num) where
    data Next (v : ℕ) : Type 0 where
      own : entry up v ≡ entry num v → (entry num v ≡ 0 → ⊥) ⊎ (v ≡ n) → Next v
      of_parent : n < v → entry num v ≡ 0 → entry up v ≡ entry up (parent r v) → Next v

    next : (v : ℕ) → n ≤ v → v < nodes r → Next v
    next v a h = ⊎_elim (λ q. own (ap (entry up) (sym q) ∙ is.root ∙ ap (entry num) q) (inr (sym q)))
        (λ q. go q (decide (eqb (entry num v) 0))) (eq-or-lt_of_le a)
      where
        go : n < v → (eqb (entry num v) 0 ≡ true) ⊎ (eqb (entry num v) 0 ≡ false) → Next v
        go q (inl e) = of_parent q (eqb-true (entry num v) 0 e) (is.next v q h ∙ (rw e))
        go q (inr e) = own (is.next v q h ∙ (rw e)) (inl (eqb-false (entry num v) 0 e))

    -- a number of its own stays
    pub own_number : (v : ℕ) → n ≤ v → v < nodes r → (entry num v ≡ 0 → ⊥) → entry up v ≡ entry num v
    own_number v a h x = elim (next v a h) [ own e c ↦ e | of_parent q e f ↦ absurd (x e) ]

    -- it is that of a node at or above
    from_above : (d v : ℕ) → v < n + d → n ≤ v → v < nodes r → (u : ℕ) × (n ≤ u) × (u ≤ v) × Within (group_at n r v) (group_at n r u) × (entry up v ≡ entry num u)
    from_above zero v l a h = absurd (omega arith)
    from_above (suc d) v l a h = go (next v a h) (λ b c. from_above d (parent r v) (omega arith) b (omega arith))
      where
        go : Next v → (n ≤ parent r v → parent r v < v → (u : ℕ) × (n ≤ u) × (u ≤ parent r v) × Within (group_at n r (parent r v)) (group_at n r u)
            × (entry up (parent r v) ≡ entry num u))
            → (u : ℕ) × (n ≤ u) × (u ≤ v) × Within (group_at n r v) (group_at n r u) × (entry up v ≡ entry num u)
        go (own e c) t = (v, a, omega arith, λ s f. f, e)
        go (of_parent q e f) t =
            let p = falls.down v q h in
            let k = t p.0 p.1 in
            (k.0, k.1, omega arith, λ s g. k.3 s (parent_has v s q h g), f ∙ k.4)

    -- on the way up it falls
    up_falls : (d v w s : ℕ) → v < n + d → n ≤ w → w ≤ v → v < nodes r → has (group_at n r v) s ≡ true → has (group_at n r w) s ≡ true → entry up w ≤ entry up v
    up_falls zero v w s l a k h e f = absurd (omega arith)
    up_falls (suc d) v w s l a k h e f = ⊎_elim (λ q. rw q (omega arith))
        (λ q. go q (next v (omega arith) h) (λ b c g. up_falls d (parent r v) w s (omega arith) a c (omega arith) g f)) (eq-or-lt_of_le k)
      where
        go : w < v → Next v → (parent r v < v → w ≤ parent r v → has (group_at n r (parent r v)) s ≡ true → entry up w ≤ entry up (parent r v))
            → entry up w ≤ entry up v
        go q (own g (inl x)) t = let y = from_above (suc w) w (omega arith) a (omega arith) in
            omega (arith, y.4, rises y.0 v y.1 (omega (arith, y.2)) h x)
        go q (own g (inr x)) t = absurd (omega arith)
        go q (of_parent b x g) t = let p = falls.down v b h in omega (arith, t p.1 (parent_last v w s a q h e f) (parent_has v s b h e))

    pub best_past : (s i v : ℕ) → Past up s i v → entry up v < i → Best num i s (entry up v)
    best_past s i v p e = record {
      high = e;
      most = λ w a h f g. go w a h f g (decide (eqb (entry num w) 0));
      there = let t = from_above (suc v) v (omega arith) p.low p.high in (t.0, t.1, omega (arith, t.2, p.high), t.3 s p.on, t.4);
    }
      where
        near : (w : ℕ) → n ≤ w → w < nodes r → has (group_at n r w) s ≡ true → entry num w < i → entry up w ≡ entry num w → (ltb v w ≡ true) ⊎ (ltb v w ≡ false)
            → entry num w ≤ entry up v
        near w a h f g y (inl q) = absurd (omega (arith, p.past w (ltb-true v w q) h f))
        near w a h f g y (inr q) = omega (arith, up_falls (suc v) v w s (omega arith) a (ltb-false v w q) p.high p.on f)

        go : (w : ℕ) → n ≤ w → w < nodes r → has (group_at n r w) s ≡ true → entry num w < i → (eqb (entry num w) 0 ≡ true) ⊎ (eqb (entry num w) 0 ≡ false)
            → entry num w ≤ entry up v
        go w a h f g (inl x) = omega (arith, eqb-true (entry num w) 0 x)
        go w a h f g (inr x) = near w a h f g (own_number w a h (eqb-false (entry num w) 0 x)) (decide (ltb v w))

    -- climbing from a sample's parent finds it
    pub best_nearest : (s i : ℕ) → s < n → entry up n < i → Best num i s (nearest r up i s)
    best_nearest s i z e = let t = past_climbed up (nodes r) s i (parent r s) (omega (arith, falls.leaf s z)) e (past_start up s i z) in
        best_past s i (climbed (nodes r) r up i (parent r s)) t.0 t.1

    -- and for a bound above all numbers the parent has it
    pub best_parent : (s i : ℕ) → s < n → entry up (parent r s) < i → Best num i s (entry up (parent r s))
    best_parent s i z e = best_past s i (parent r s) (past_start up s i z) e

    -- no number is added
    pub up_below : (c : ℕ) → ((v : ℕ) → n ≤ v → v < nodes r → entry num v < c) → (v : ℕ) → n ≤ v → v < nodes r → entry up v < c
    up_below c f v a h = let t = from_above (suc v) v (omega arith) a h in omega (arith, t.4, f t.0 t.1 (omega (arith, t.2)))

-- ---- the parents of both sides' numbers, from the last

module _ {n : ℕ} {a up_a b up_b mins : List ℕ} {c : ℕ} (ready : Climbable n a up_a b up_b mins c) where
  pub climbs_start : {places_a places_b : List ℕ} → Placed n a up_a c places_a → Placed n b up_b c places_b → Climbs n a up_a b up_b mins c c mins places_a places_b
  climbs_start p q = record {
    low = ready.some;
    high = omega arith;
    words = ready.words;
    left = p;
    right = q;
    done = tabled_none (parent_of n a up_a b up_b mins) c mins;
    rest = record { is = λ v h k. refl };
  }

  module _ {i : ℕ} {parents places_a places_b : List ℕ} (t : Climbs n a up_a b up_b mins c i parents places_a places_b) where
    number_fits : i ≤ table_words
    number_fits = omega (arith, t.high, ready.most, ready.first.valid.most)

    pub climbs_sample : n + 1 < i → (entry parents (i - 1) ≡ entry mins (i - 1)) × (entry mins (i - 1) < n)
    climbs_sample h = (t.rest.is (i - 1) (omega arith) (omega arith), ready.sample (i - 1) (omega arith) (omega (arith, t.high)))

    pub climbs_step : {s x y : ℕ} {moved_a moved_b : List ℕ} → n + 1 < i → s ≡ entry mins (i - 1) → Lifted a up_a places_a (i - 1) s moved_a x
        → Lifted b up_b places_b (i - 1) s moved_b y
        → Climbs n a up_a b up_b mins c (i - 1) (set parents (i - 1) (max x y)) moved_a moved_b
    climbs_step {s} {x} {y} {moved_a} {moved_b} h e u w =
        let z : s < n = omega (arith, climbs_sample h) in
        let p = placed_lift ready.first up_a (placed_less ready.first up_a t.left (omega arith)) (omega (arith, ready.root_a)) z u in
        let q = placed_lift ready.second up_b (placed_less ready.second up_b t.right (omega arith)) (omega (arith, ready.root_b)) z w in
        record {
          low = omega arith;
          high = omega (arith, t.high);
          words = length-set parents (i - 1) (max x y) ∙ t.words;
          left = p.0;
          right = q.0;
          done = record {
            is = λ v j k. ⊎_elim (λ d. here v (sym d) p.1 q.1)
                (λ d. other v (λ f. omega arith) ∙ t.done.is v (omega arith) k) (eq-or-lt_of_le j);
          };
          rest = record { is = λ v j k. other v (λ f. omega arith) ∙ t.rest.is v j (omega arith) };
        }
      where
        other : (v : ℕ) → (v ≡ i - 1 → ⊥) → entry (set parents (i - 1) (max x y)) v ≡ entry parents v
        other v f = get_or-set_other parents (i - 1) v (max x y) 0 f

        here : (v : ℕ) → v ≡ i - 1 → x ≡ nearest a up_a (i - 1) s → y ≡ nearest b up_b (i - 1) s
            → entry (set parents (i - 1) (max x y)) v ≡ parent_of n a up_a b up_b mins v
        here v d p q = rw (d, get_or-set_same parents (i - 1) (max x y) 0 (omega (arith, t.words, number_fits)), ne_eqb (i - 1) n (λ f. omega arith), ← e, p, q)

    pub climbs_end : i ≤ n + 1 → Tabled (parent_of n a up_a b up_b mins) n c (set parents n root_mark)
    climbs_end h = record {
      is = λ v j k. ⊎_elim (λ d. here v (sym d))
          (λ d. get_or-set_other parents n v root_mark 0 (λ f. omega arith) ∙ t.done.is v (omega arith) k) (eq-or-lt_of_le j);
    }
      where
        here : (v : ℕ) → v ≡ n → entry (set parents n root_mark) v ≡ parent_of n a up_a b up_b mins v
        here v d = rw (d, eq-eqb n n refl) (get_or-set_same parents n root_mark 0 (omega (arith, t.words, number_fits, t.low)))
