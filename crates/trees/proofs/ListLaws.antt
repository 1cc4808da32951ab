-- Tables by index, scans of a range, and weights of the members of a list. Assumes nothing.
use Prim.Native.Nat.{ℕ, zero, suc, ◌+◌, ◌-◌, ◌≤◌, ◌<◌, zero-le, suc-le-suc}
use Rattle.std.specs.Prelude.{◌≡◌, ◌⊎◌, Bool, ◌&&◌, ◌||◌, eqb, ltb, get_or, take, drop}
use Rattle.std.proofs.Math.Path.{refl, ap}
use Rattle.std.proofs.Common.{sym, ◌∙◌, inl, inr, ⊎_elim, le_of_suc-le-suc, suc-add, eq-or-lt_of_le, le_antisymm, take-append-drop, length-drop, ltb-true, ltb-false, eqb-true, eq-eqb, ne_eqb}
use mathlib.Core.List.{List, [], ◌∷◌, ◌++◌, Memᴰ, map}
use Rattle.std.proofs.Math.Bool.{true, false, not, cond}
use Rattle.std.proofs.lemmas.Bool.{false≢true, eqb-false, not-true, not-false}
use Rattle.std.proofs.Math.Nat.{suc_inj, add-zero, add-suc}
use native.Mathlib.Omega.{arith}
use Rattle.std.proofs.Math.ListN.{length}
use Rattle.std.proofs.lemmas.List.{length-replicate}
use Rattle.trees.specs.Lists.{tabulate, zeros, range, filter, Place, nowhere, at, first, weigh, count}
use Rattle.trees.proofs.BoolLaws.{and_l, and_r, and_both, and_false, or_cases, or_r, not_yes, decide}

-- ---- tables

module _ {A : Type 0} where
  pub length_tabulate : (n : ℕ) (f : ℕ → A) (s : ℕ) → length (tabulate n f s) ≡ n
  unfolding tabulate
  length_tabulate zero f s = refl
  length_tabulate (suc n) f s = ap suc (length_tabulate n f (suc s))

  pub get_d_tabulate : (n : ℕ) (f : ℕ → A) (s i : ℕ) (d : A) → i < n → get_or (tabulate n f s) i d ≡ f (s + i)
  unfolding tabulate
  get_d_tabulate zero f s i d h = absurd (omega arith)
  get_d_tabulate (suc n) f s zero d h = rw add-zero
  get_d_tabulate (suc n) f s (suc i) d h = rw (add-suc, ← suc-add) (get_d_tabulate n f (suc s) i d (le_of_suc-le-suc h))

  -- a list is the table of its elements
  pub tabulate_eq : (xs : List A) (n : ℕ) (f : ℕ → A) (s : ℕ) (d : A) → length xs ≡ n → ((i : ℕ) → i < n → f (s + i) ≡ get_or xs i d) → tabulate n f s ≡ xs
  unfolding tabulate
  tabulate_eq [] zero f s d l h = refl
  tabulate_eq [] (suc n) f s d l h = absurd (omega arith)
  tabulate_eq (x ∷ xs) zero f s d l h = absurd (omega arith)
  tabulate_eq (x ∷ xs) (suc n) f s d l h = let a : f s ≡ x = (rw add-zero at (h 0 (omega arith))) in
      cc (tabulate_eq xs n f (suc s) d (suc_inj l) (λ i k. rw (suc-add, ← add-suc) (h (suc i) (suc-le-suc k))))

  -- a table of m + n values is one of m and one of n
  pub tabulate_add : (m n : ℕ) (f : ℕ → A) (s : ℕ) → tabulate (m + n) f s ≡ tabulate m f s ++ tabulate n f (s + m)
  unfolding tabulate
  tabulate_add zero n f s = let e : zero + n ≡ n = omega arith in rw (e, add-zero)
  tabulate_add (suc m) n f s = rw (suc-add, add-suc, ← suc-add) (ap (λ (xs : List A). f s ∷ xs) (tabulate_add m n f (suc s)))

  -- tables of functions that agree
  pub tabulate_same : (n : ℕ) (f g : ℕ → A) (s : ℕ) → ((v : ℕ) → s ≤ v → v < s + n → f v ≡ g v) → tabulate n f s ≡ tabulate n g s
  unfolding tabulate
  tabulate_same zero f g s h = refl
  tabulate_same (suc n) f g s h = cc (h s (omega arith) (omega arith), tabulate_same n f g (suc s) (λ v a b. h v (omega arith) (omega arith)))

pub map_tabulate : {A B : Type 0} (g : A → B) (n : ℕ) (f : ℕ → A) (s : ℕ) → map g (tabulate n f s) ≡ tabulate n (λ v. g (f v)) s
unfolding tabulate
map_tabulate g zero f s = refl
map_tabulate g (suc n) f s = ap (λ (xs : List _). g (f s) ∷ xs) (map_tabulate g n f (suc s))

pub length_zeros : (n : ℕ) → length (zeros n) ≡ n
length_zeros n = length-replicate n 0

pub get_or_zeros : (n i : ℕ) → get_or (zeros n) i 0 ≡ 0
get_or_zeros zero i = refl
get_or_zeros (suc n) zero = refl
get_or_zeros (suc n) (suc i) = get_or_zeros n i

-- ---- members

module _ {A : Type 0} where
  pub member_at : (xs : List A) (i : ℕ) (d : A) → i < length xs → Memᴰ (get_or xs i d) xs
  member_at [] i d h = absurd (omega arith)
  member_at (x ∷ xs) zero d h = Memᴰ.head refl
  member_at (x ∷ xs) (suc i) d h = Memᴰ.tail (member_at xs i d (le_of_suc-le-suc h))

  pub some_member : (xs : List A) → 0 < length xs → (x : A) × Memᴰ x xs
  some_member [] h = absurd (omega arith)
  some_member (x ∷ xs) h = (x, Memᴰ.head refl)

-- ---- ranges

pub range_cons : (a b : ℕ) → a < b → range a b ≡ a ∷ range (suc a) b
unfolding tabulate
range_cons a b h = let e : b - a ≡ suc (b - suc a) = omega arith in rw e

pub range_none : (a b : ℕ) → b ≤ a → range a b ≡ []
unfolding tabulate
range_none a b h = let e : b - a ≡ 0 = omega arith in rw e

pub length_range : (a b : ℕ) → length (range a b) ≡ b - a
length_range a b = length_tabulate (b - a) (λ u. u) a

tabulate_in : (m s x : ℕ) → s ≤ x → x < s + m → Memᴰ x (tabulate m (λ u. u) s)
unfolding tabulate
tabulate_in zero s x h k = absurd (omega arith)
tabulate_in (suc m) s x h k = ⊎_elim (λ e. Memᴰ.head (sym e)) (λ l. Memᴰ.tail (tabulate_in m (suc s) x l (omega arith))) (eq-or-lt_of_le h)

pub in_tabulate : (m s x : ℕ) → Memᴰ x (tabulate m (λ u. u) s) → (s ≤ x) × (x < s + m)
unfolding tabulate
in_tabulate zero s x x3 = elim x3 [ ]
in_tabulate (suc m) s x (Memᴰ.head e) = (omega arith, omega arith)
in_tabulate (suc m) s x (Memᴰ.tail k) = let r = in_tabulate m (suc s) x k in (omega arith, omega arith)

pub range_in : (a b x : ℕ) → a ≤ x → x < b → Memᴰ x (range a b)
range_in a b x h k = tabulate_in (b - a) a x h (omega arith)

pub in-range : (a b x : ℕ) → Memᴰ x (range a b) → (a ≤ x) × (x < b)
in-range a b x m = let r = in_tabulate (b - a) a x m in (omega arith, omega arith)

-- ---- scans: the first of a range that passes

module _ (t : ℕ → Bool) (a b : ℕ) where
  pub first_end : b ≤ a → first t (range a b) ≡ nowhere
  unfolding first
  first_end h = rw (range_none a b h)

  pub first_hit : a < b → t a ≡ true → first t (range a b) ≡ at a
  unfolding first
  first_hit h e = rw (range_cons a b h, e)

  pub first_pass : a < b → t a ≡ false → first t (range a b) ≡ first t (range (suc a) b)
  unfolding first
  first_pass h e = rw (range_cons a b h, e)

-- i is the lowest index from a to below b at which t is true
pub record Lowest (t : ℕ → Bool) (a b i : ℕ) : Type 0 where
  pub from : a ≤ i
  pub to : i < b
  pub passes : t i ≡ true
  pub none : (j : ℕ) → a ≤ j → j < i → t j ≡ false

-- what a scan found: a lowest index, or none
pub data Scan (t : ℕ → Bool) (a b : ℕ) (p : Place) : Type 0 where
  found : (i : ℕ) → p ≡ at i → Lowest t a b i → Scan t a b p
  missed : p ≡ nowhere → ((i : ℕ) → a ≤ i → i < b → t i ≡ false) → Scan t a b p

scan_from : (d : ℕ) (t : ℕ → Bool) (a b : ℕ) → b ≤ a + d → Scan t a b (first t (range a b))
scan_from zero t a b h = missed (first_end t a b (omega arith)) (λ i k l. absurd (omega arith))
scan_from (suc d) t a b h = go (decide (ltb a b)) (decide (t a)) (scan_from d t (suc a) b (omega arith))
  where
    here : a < b → t a ≡ true → Scan t a b (first t (range a b))
    here l e = found a (first_hit t a b l e) record { from = omega arith; to = l; passes = e; none = λ j k m. absurd (omega arith) }

    at_or_past : t a ≡ false → (i : ℕ) → ((j : ℕ) → suc a ≤ j → j < i → t j ≡ false) → (j : ℕ) → a ≤ j → j < i → t j ≡ false
    at_or_past e i f j k m = ⊎_elim (λ q. rw (← q) e) (λ l. f j l m) (eq-or-lt_of_le k)

    there : a < b → t a ≡ false → Scan t (suc a) b (first t (range (suc a) b)) → Scan t a b (first t (range a b))
    there l e (found i p w) = found i (first_pass t a b l e ∙ p) record {
      from = omega (arith, w.from);
      to = w.to;
      passes = w.passes;
      none = at_or_past e i w.none;
    }
    there l e (missed p f) = missed (first_pass t a b l e ∙ p) (at_or_past e b f)

    go : (ltb a b ≡ true) ⊎ (ltb a b ≡ false) → (t a ≡ true) ⊎ (t a ≡ false) → Scan t (suc a) b (first t (range (suc a) b)) → Scan t a b (first t (range a b))
    go (inr q) e r = missed (first_end t a b (ltb-false a b q)) (λ i k l. absurd (omega (arith, ltb-false a b q)))
    go (inl q) (inl e) r = here (ltb-true a b q) e
    go (inl q) (inr e) r = there (ltb-true a b q) e r

pub scan : (t : ℕ → Bool) (a b : ℕ) → Scan t a b (first t (range a b))
scan t a b = scan_from b t a b (omega arith)

-- the place that is found is the lowest, and only the lowest is found
pub first_lowest : (t : ℕ → Bool) (a b i : ℕ) → first t (range a b) ≡ at i → Lowest t a b i
first_lowest t a b i e = go (scan t a b)
  where
    go : Scan t a b (first t (range a b)) → Lowest t a b i
    go (found j p w) = let q : j ≡ i = cc in rw q at w
    go (missed p f) = let z : ◌≡◌ {A = ℕ} 0 1 = cc in absurd (omega arith)

pub lowest_first : (t : ℕ → Bool) (a b i : ℕ) → Lowest t a b i → first t (range a b) ≡ at i
lowest_first t a b i w = go (scan t a b)
  where
    one : (j : ℕ) → Lowest t a b j → (i < j → ⊥) × (j < i → ⊥)
    one j v = (λ l. false≢true (sym (v.none i w.from l) ∙ w.passes), λ l. false≢true (sym (w.none j v.from l) ∙ v.passes))

    go : Scan t a b (first t (range a b)) → first t (range a b) ≡ at i
    go (found j p v) = let q : j ≡ i = omega (arith, one j v) in p ∙ ap at q
    go (missed p f) = absurd (false≢true (sym (f i w.from w.to) ∙ w.passes))

pub first_nowhere : (t : ℕ → Bool) (a b : ℕ) → first t (range a b) ≡ nowhere → (i : ℕ) → a ≤ i → i < b → t i ≡ false
first_nowhere t a b e i h k = go (scan t a b)
  where
    go : Scan t a b (first t (range a b)) → t i ≡ false
    go (found j p w) = let z : ◌≡◌ {A = ℕ} 0 1 = cc in absurd (omega arith)
    go (missed p f) = f i h k

pub nowhere_first : (t : ℕ → Bool) (a b : ℕ) → ((i : ℕ) → a ≤ i → i < b → t i ≡ false) → first t (range a b) ≡ nowhere
nowhere_first t a b h = go (scan t a b)
  where
    go : Scan t a b (first t (range a b)) → first t (range a b) ≡ nowhere
    go (found j p w) = absurd (false≢true (sym (h j w.from w.to) ∙ w.passes))
    go (missed p f) = p

-- ---- weights

module _ {A : Type 0} (w : A → ℕ) where
  pub weigh_append : (t : A → Bool) (xs ys : List A) → weigh w t (xs ++ ys) ≡ weigh w t xs + weigh w t ys
  unfolding weigh
  weigh_append t [] ys = omega arith
  weigh_append t (x ∷ xs) ys = omega (arith, weigh_append t xs ys)

  pub weigh_mono : (p q : A → Bool) (xs : List A) → ((x : A) → Memᴰ x xs → p x ≡ true → q x ≡ true) → weigh w p xs ≤ weigh w q xs
  unfolding weigh
  weigh_mono p q [] h = zero-le
  weigh_mono p q (x ∷ xs) h = go (decide (p x)) (weigh_mono p q xs (λ y m. h y (Memᴰ.tail m)))
    where
      go : (p x ≡ true) ⊎ (p x ≡ false) → weigh w p xs ≤ weigh w q xs → cond (p x) (w x) 0 + weigh w p xs ≤ cond (q x) (w x) 0 + weigh w q xs
      go (inl e) k = rw (e, h x (Memᴰ.head refl) e) (omega arith)
      go (inr e) k = rw e (omega arith)

  -- what either passes, and what both pass, weigh together as much as each
  pub weigh_sum : (p q : A → Bool) (xs : List A) → weigh w p xs + weigh w q xs ≡ weigh w (λ x. p x && q x) xs + weigh w (λ x. p x || q x) xs
  unfolding weigh
  weigh_sum p q [] = refl
  weigh_sum p q (x ∷ xs) = go (p x) (q x) (weigh_sum p q xs)
    where
      go : (a b : Bool) → weigh w p xs + weigh w q xs ≡ weigh w (λ y. p y && q y) xs + weigh w (λ y. p y || q y) xs
          → (cond a (w x) 0 + weigh w p xs) + (cond b (w x) 0 + weigh w q xs) ≡ (cond (a && b) (w x) 0 + weigh w (λ y. p y && q y) xs) +
          (cond (a || b) (w x) 0 + weigh w (λ y. p y || q y) xs)
      go true true h = omega arith
      go true false h = omega arith
      go false true h = omega arith
      go false false h = omega arith

  pub weigh_none : (t : A → Bool) (xs : List A) → ((x : A) → Memᴰ x xs → t x ≡ false) → weigh w t xs ≡ 0
  unfolding weigh
  weigh_none t [] h = refl
  weigh_none t (x ∷ xs) h = rw (h x (Memᴰ.head refl)) (omega (arith, weigh_none t xs (λ y m. h y (Memᴰ.tail m))))

  pub weigh_one : (t : A → Bool) (xs : List A) (x : A) → Memᴰ x xs → t x ≡ true → w x ≤ weigh w t xs
  unfolding weigh
  weigh_one t [] x x4 e = elim x4 [ ]
  weigh_one t (y ∷ xs) x (Memᴰ.head q) e = let f : t y ≡ true = ap t (sym q) ∙ e in rw (f, q) (omega arith)
  weigh_one t (y ∷ xs) x (Memᴰ.tail m) e = omega (arith, weigh_one t xs x m e)

  -- something passes, where what passes has a weight
  pub weigh_found : (t : A → Bool) (xs : List A) → 1 ≤ weigh w t xs → (x : A) × Memᴰ x xs × (t x ≡ true)
  unfolding weigh
  weigh_found t [] h = absurd (omega arith)
  weigh_found t (x ∷ xs) h = go (decide (t x)) h (λ k. weigh_found t xs k)
    where
      go : (t x ≡ true) ⊎ (t x ≡ false) → 1 ≤ cond (t x) (w x) 0 + weigh w t xs → (1 ≤ weigh w t xs → (y : A) × Memᴰ y xs × (t y ≡ true))
          → (y : A) × Memᴰ y (x ∷ xs) × (t y ≡ true)
      go (inl e) k r = (x, Memᴰ.head refl, e)
      go (inr e) k r = let u = r (omega (arith, rw e at k)) in (u.0, Memᴰ.tail u.1, u.2)

  -- two tests that never both pass, under one that passes where either does
  pub weigh_apart : (p q t : A → Bool) (xs : List A) → ((x : A) → Memᴰ x xs → p x ≡ true → (t x ≡ true) × (q x ≡ false))
      → ((x : A) → Memᴰ x xs → q x ≡ true → t x ≡ true) → weigh w p xs + weigh w q xs ≤ weigh w t xs
  weigh_apart p q t xs f g = omega (
    arith,
    weigh_sum p q xs,
    weigh_none (λ x. p x && q x) xs (λ x m. not_yes _ (λ e. false≢true (sym (f x m (and_l (p x) (q x) e)).1 ∙ and_r (p x) (q x) e))),
    weigh_mono (λ x. p x || q x) t xs (λ x m e. ⊎_elim (λ a. (f x m a).0) (g x m) (or_cases (p x) (q x) e)),
  )

  -- a test under two others
  pub weigh_cover : (t p q : A → Bool) (xs : List A) → ((x : A) → Memᴰ x xs → t x ≡ true → p x || q x ≡ true) → weigh w t xs ≤ weigh w p xs + weigh w q xs
  weigh_cover t p q xs h = omega (arith, weigh_sum p q xs, weigh_mono t (λ x. p x || q x) xs h)

  -- PIGEONHOLE: two tests that weigh more than the whole list are passed together by one member
  pub weigh_both : (p q : A → Bool) (xs : List A) → weigh w (λ x. true) xs < weigh w p xs + weigh w q xs
      → (x : A) × Memᴰ x xs × (p x ≡ true) × (q x ≡ true)
  weigh_both p q xs h =
      let r = weigh_found (λ x. p x && q x) xs (omega (arith, weigh_sum p q xs, weigh_mono (λ x. p x || q x) (λ x. true) xs (λ x m e. refl))) in
      (r.0, r.1, and_l (p r.0) (q r.0) r.2, and_r (p r.0) (q r.0) r.2)

-- ---- counts

module _ {A : Type 0} where
  pub count_all : (t : A → Bool) (xs : List A) → ((x : A) → Memᴰ x xs → t x ≡ true) → count t xs ≡ length xs
  unfolding weigh
  count_all t [] h = refl
  count_all t (x ∷ xs) h = rw (h x (Memᴰ.head refl)) (omega (arith, count_all t xs (λ y m. h y (Memᴰ.tail m))))

  pub count_same : (p q : A → Bool) (xs : List A) → ((x : A) → Memᴰ x xs → p x ≡ q x) → count p xs ≡ count q xs
  count_same p q xs h = le_antisymm (weigh_mono (λ x. 1) p q xs (λ x m e. sym (h x m) ∙ e)) (weigh_mono (λ x. 1) q p xs (λ x m e. h x m ∙ e))

  pub count_filter : (t : A → Bool) (xs : List A) → count t xs ≡ length (filter t xs)
  unfolding weigh filter
  count_filter t [] = refl
  count_filter t (x ∷ xs) = go (t x) (count_filter t xs)
    where
      go : (b : Bool) → count t xs ≡ length (filter t xs) → cond b 1 0 + count t xs ≡ length (cond b (x ∷ filter t xs) (filter t xs))
      go true h = omega arith
      go false h = omega arith

  -- those that pass and those that do not are all
  pub count_not : (t : A → Bool) (xs : List A) → count t xs + count (λ x. not (t x)) xs ≡ length xs
  unfolding weigh
  count_not t [] = refl
  count_not t (x ∷ xs) = go (t x) (count_not t xs)
    where
      go : (b : Bool) → count t xs + count (λ y. not (t y)) xs ≡ length xs
          → (cond b 1 0 + count t xs) + (cond (not b) 1 0 + count (λ y. not (t y)) xs) ≡ length (x ∷ xs)
      go true h = omega arith
      go false h = omega arith

  pub count_tabulate : (t : A → Bool) (k : ℕ) (f : ℕ → A) (s : ℕ) → count t (tabulate k f s) ≡ count (λ v. t (f v)) (tabulate k (λ v. v) s)
  unfolding weigh tabulate
  count_tabulate t zero f s = refl
  count_tabulate t (suc k) f s = ap (λ (c : ℕ). cond (t (f s)) 1 0 + c) (count_tabulate t k f (suc s))

  pub count_le_length : (t : A → Bool) (xs : List A) → count t xs ≤ length xs
  count_le_length t xs = omega (arith, weigh_mono (λ x. 1) t (λ x. true) xs (λ x m e. refl), count_all (λ x. true) xs (λ x m. refl))

  -- where one test is under another and no less is counted, the other is under it
  pub count_tight : (p q : A → Bool) (xs : List A) → ((x : A) → Memᴰ x xs → p x ≡ true → q x ≡ true) → count q xs ≤ count p xs → (x : A)
      → Memᴰ x xs → q x ≡ true → p x ≡ true
  count_tight p q xs h e x m f = not-false (p x) (not_yes _ (λ k. absurd (omega (
    arith,
    weigh_one (λ y. 1) (λ y. q y && not (p y)) xs x m (and_both (q x) (not (p x)) f k),
    weigh_apart (λ y. 1) p (λ y. q y && not (p y)) q xs (λ y i a. (h y i a, rw a (and_false (q y)))) (λ y i a. and_l (q y) (not (p y)) a),
  ))))

  -- as many pass as there are: each does
  pub count_every : (t : A → Bool) (xs : List A) → count t xs ≡ length xs → (x : A) → Memᴰ x xs → t x ≡ true
  count_every t xs e x m = count_tight t (λ y. true) xs (λ y i f. refl) (omega (arith, count_all (λ y. true) xs (λ y i. refl))) x m refl

  -- some pass, and fewer than h do not: one of the first h passes
  pub count_early : (t : A → Bool) (xs : List A) (h : ℕ) → 1 ≤ count t xs → length xs < count t xs + h → (x : A) × Memᴰ x (take h xs) × (t x ≡ true)
  count_early t xs h a b = weigh_found (λ x. 1) t (take h xs) (omega (
    arith,
    ap (λ (ys : List A). count t ys) (take-append-drop h xs),
    weigh_append (λ x. 1) t (take h xs) (drop h xs),
    count_le_length t (drop h xs),
    length-drop h xs,
  ))

pub count_two : (t : ℕ → Bool) (xs : List ℕ) (a b : ℕ) → Memᴰ a xs → Memᴰ b xs → (a ≡ b → ⊥) → t a ≡ true → t b ≡ true → 2 ≤ count t xs
count_two t xs a b m k d e f = omega (
  arith,
  weigh_one (λ x. 1) (λ u. eqb u a) xs a m (eq-eqb a a refl),
  weigh_one (λ x. 1) (λ u. eqb u b) xs b k (eq-eqb b b refl),
  weigh_apart (λ x. 1) (λ u. eqb u a) (λ u. eqb u b) t xs
      (λ x i q. let l : x ≡ a = eqb-true x a q in (rw l e, ne_eqb x b (λ r. d (sym l ∙ r))))
      (λ x i q. rw (eqb-true x b q) f),
)

once : (m s c : ℕ) → count (λ u. eqb u c) (tabulate m (λ u. u) s) ≤ 1
unfolding weigh tabulate
once zero s c = zero-le
once (suc m) s c = go (decide (eqb s c)) (once m (suc s) c)
  where
    go : (eqb s c ≡ true) ⊎ (eqb s c ≡ false) → count (λ u. eqb u c) (tabulate m (λ u. u) (suc s)) ≤ 1
        → cond (eqb s c) 1 0 + count (λ u. eqb u c) (tabulate m (λ u. u) (suc s)) ≤ 1
    go (inl e) h = rw e (omega (
      arith,
      weigh_none (λ x. 1) (λ u. eqb u c) (tabulate m (λ u. u) (suc s))
          (λ x i. ne_eqb x c (λ q. omega (arith, (in_tabulate m (suc s) x i).0, eqb-true s c e))),
    ))
    go (inr e) h = rw e (omega arith)

-- two of a range pass: one does beside any given number
pub count_beside : (t : ℕ → Bool) (a b c : ℕ) → 2 ≤ count t (range a b) → (x : ℕ) × (a ≤ x) × (x < b) × (t x ≡ true) × (x ≡ c → ⊥)
count_beside t a b c h =
    let r = weigh_found (λ x. 1) (λ u. t u && not (eqb u c)) (range a b) (omega (
      arith,
      once (b - a) a c,
      weigh_cover (λ x. 1) t (λ u. t u && not (eqb u c)) (λ u. eqb u c) (range a b) (λ x m e. split (t x) (eqb x c) e),
    )) in
    let x : ℕ = r.0 in
    let k = in-range a b x r.1 in
    (x, k.0, k.1, and_l (t x) (not (eqb x c)) r.2, eqb-false x c (not-true (eqb x c) (and_r (t x) (not (eqb x c)) r.2)))
  where
    split : (p q : Bool) → p ≡ true → p && not q || q ≡ true
    split p true e = or_r (p && false) true refl
    split p false e = rw e

-- a stretch that begins one later
pub count_shift : (t : ℕ → Bool) (m s : ℕ) → count t (tabulate m (λ u. u) (suc s)) ≡ count (λ u. t (suc u)) (tabulate m (λ u. u) s)
unfolding weigh tabulate
count_shift t zero s = refl
count_shift t (suc m) s = rw (count_shift t m (suc s))
