-- Lists that are filtered and gathered: each node once, by its smallest sample. Assumes nothing.
use Prim.Native.Nat.{ℕ, zero, suc, ◌+◌, ◌-◌, ◌≤◌, ◌<◌, zero-le}
use Rattle.std.specs.Prelude.{◌≡◌, ◌⊎◌, Bool, true, false, ◌&&◌, ltb, leb, length}
use Rattle.std.proofs.Math.Path.{refl, sym}
use Rattle.std.proofs.Common.{ap, subst, ◌∙◌, inl, inr, arith}
use mathlib.Core.List.{List, [], ◌∷◌, Memᴰ}
use Rattle.std.proofs.Math.Bool.{cond}
use Rattle.std.proofs.Math.Dec.{eqb}
use borrow.Author.Tests.{ltb-true, leb-true, leb-false, eqb-true, eqb-false, eq-eqb, lt-ltb, le-leb, lt-leb}
use Rattle.trees.specs.Lists.{tabulate, range, filter, weigh, count}
use Rattle.trees.proofs.BoolLaws.{and_l, and_r, not_yes, decide}
use Rattle.trees.proofs.ListLaws.{range_in, weigh_append, weigh_none, weigh_one, weigh_found, count_beside, count_same, count_filter}
use Rattle.newick.specs.RowText.{gather}

-- tests that make up another
pub count_split : (p q t : ℕ → Bool) (xs : List ℕ) → ((x : ℕ) → cond (p x) 1 0 + cond (q x) 1 0 ≡ cond (t x) 1 0)
    → count p xs + count q xs ≡ count t xs
unfolding weigh
count_split p q t [] h = refl
count_split p q t (x ∷ xs) h = omega (arith, h x, count_split p q t xs h)

-- exactly one of a range passes
pub count_unique : (t : ℕ → Bool) (a b c : ℕ) → a ≤ c → c < b → t c ≡ true → ((x : ℕ) → a ≤ x → x < b → t x ≡ true → x ≡ c)
    → count t (range a b) ≡ 1
count_unique t a b c h k e f = go (decide (leb 2 (count t (range a b))))
  where
    go : (leb 2 (count t (range a b)) ≡ true) ⊎ (leb 2 (count t (range a b)) ≡ false) → count t (range a b) ≡ 1
    go (inl q) = let w = count_beside t a b c (leb-true 2 (count t (range a b)) q) in absurd (w.4 (f w.0 w.1 w.2 w.3))
    go (inr q) = omega (arith, leb-false 2 (count t (range a b)) q, weigh_one (λ x. 1) t (range a b) c (range_in a b c h k) e)

-- ---- those that pass a test

module _ (p : ℕ → Bool) where
  pub count_filtered : (t : ℕ → Bool) (xs : List ℕ) → count t (filter p xs) ≡ count (λ x. p x && t x) xs
  unfolding weigh filter
  count_filtered t [] = refl
  count_filtered t (x ∷ xs) = go (decide (p x)) (count_filtered t xs)
    where
      go : (p x ≡ true) ⊎ (p x ≡ false) → count t (filter p xs) ≡ count (λ y. p y && t y) xs
          → count t (cond (p x) (x ∷ filter p xs) (filter p xs)) ≡ cond (p x && t x) 1 0 + count (λ y. p y && t y) xs
      go (inl e) h = rw e (ap (λ (k : ℕ). cond (t x) 1 0 + k) h)
      go (inr e) h = rw e (omega (arith, h))

  pub length_filter : (xs : List ℕ) → length (filter p xs) ≡ count p xs
  length_filter xs = sym (count_filter p xs)

  pub filter_in : {x : ℕ} {xs : List ℕ} → Memᴰ x xs → p x ≡ true → Memᴰ x (filter p xs)
  filter_in {x} {xs} m e =
      let w = weigh_found (λ y. 1) (λ y. eqb y x) (filter p xs)
      (omega (arith, count_filtered (λ y. eqb y x) xs, weigh_one (λ y. 1) (λ y. p y && eqb y x) xs x m (rw (e, eq-eqb x x refl) refl))) in
      subst (λ (y : ℕ). Memᴰ y (filter p xs)) (eqb-true w.0 x w.2) w.1

  pub in_filter : {x : ℕ} {xs : List ℕ} → Memᴰ x (filter p xs) → Memᴰ x xs × (p x ≡ true)
  in_filter {x} {xs} m =
      let w = weigh_found (λ y. 1) (λ y. p y && eqb y x) xs
      (omega (arith, count_filtered (λ y. eqb y x) xs, weigh_one (λ y. 1) (λ y. eqb y x) (filter p xs) x m (eq-eqb x x refl))) in
      let q : w.0 ≡ x = eqb-true w.0 x (and_r (p w.0) (eqb w.0 x) w.2) in
      (subst (λ (y : ℕ). Memᴰ y xs) q w.1, ap p (sym q) ∙ and_l (p w.0) (eqb w.0 x) w.2)

-- ---- gathered by a key

module _ (key : ℕ → ℕ) (us : List ℕ) where
  abbrev pub keyed : ℕ → List ℕ
  keyed s = filter (λ u. eqb (key u) s) us

  abbrev within : ℕ → ℕ → ℕ → Bool
  within a k u = leb a (key u) && ltb (key u) (a + k)

  part : (t : ℕ → Bool) (a k u : ℕ) → cond (eqb (key u) a && t u) 1 0 + cond (within (suc a) k u && t u) 1 0 ≡ cond
      (within a (suc k) u && t u) 1 0
  part t a k u = go (decide (eqb (key u) a)) (decide (leb a (key u)))
    where
      go : (eqb (key u) a ≡ true) ⊎ (eqb (key u) a ≡ false) → (leb a (key u) ≡ true) ⊎ (leb a (key u) ≡ false)
          → cond (eqb (key u) a && t u) 1 0 + cond (within (suc a) k u && t u) 1 0 ≡ cond (within a (suc k) u && t u) 1 0
      go (inl e) d = let q = eqb-true (key u) a e in
          rw (e, lt-leb (suc a) (key u) (omega arith), le-leb a (key u) (omega arith), lt-ltb (key u) (a + suc k) (omega arith))
          (omega arith)
      go (inr e) (inl d) =
          let q = eqb-false (key u) a e in let h = leb-true a (key u) d in
          let z : suc a + k ≡ a + suc k = omega arith in
          let y : leb (suc a) (key u) ≡ true = le-leb (suc a) (key u) (lt_of h (λ i. q (sym i))) in
          rw (e, d, y, z) (omega arith)
        where
          lt_of : {x y : ℕ} → x ≤ y → (x ≡ y → ⊥) → x < y
          lt_of h x = omega (arith, x)
      go (inr e) (inr d) = let h = leb-false a (key u) d in rw (e, d, lt-leb (suc a) (key u) (omega arith)) refl

  count_keys : (t : ℕ → Bool) (k a : ℕ) → count t (gather keyed (tabulate k (λ u. u) a)) ≡ count (λ u. within a k u && t u) us
  unfolding gather tabulate weigh
  count_keys t zero a = sym (weigh_none (λ u. 1) (λ u. within a 0 u && t u) us (λ u m. not_yes (within a 0 u && t u) (λ e.
      let w = and_l (within a 0 u) (t u) e in
      let h = leb-true a (key u) (and_l (leb a (key u)) (ltb (key u) (a + 0)) w) in
      let l = ltb-true (key u) (a + 0) (and_r (leb a (key u)) (ltb (key u) (a + 0)) w) in omega arith)))
  count_keys t (suc k) a =
      weigh_append (λ u. 1) t (keyed a) (gather keyed (tabulate k (λ u. u) (suc a)))
      ∙ (let z : count t (keyed a) + count t (gather keyed (tabulate k (λ u. u) (suc a))) ≡ count (λ u. eqb (key u) a && t u) us + count
      (λ u. within (suc a) k u && t u) us
      = omega (arith, count_filtered (λ u. eqb (key u) a) t us, count_keys t k (suc a)) in z)
      ∙ count_split (λ u. eqb (key u) a && t u) (λ u. within (suc a) k u && t u) (λ u. within a (suc k) u && t u) us (part t a k)

  -- each of the list once, whatever its key
  pub count_gather : (t : ℕ → Bool) (n : ℕ) → ((u : ℕ) → Memᴰ u us → key u < n) → count t (gather keyed (range 0 n)) ≡ count t us
  count_gather t n h = count_keys t (n - 0) 0 ∙ count_same (λ u. within 0 (n - 0) u && t u) t us
      (λ u m. rw (le-leb 0 (key u) zero-le, lt-ltb (key u) (0 + (n - 0)) (omega (arith, h u m))) refl)
