-- Those of a list that pass a test: of two lists, by two tests that agree, none; and where what is gathered comes from. Assumes nothing.
use Rattle.std.specs.Prelude.{ℕ, ◌≡◌, refl, Bool, true, false, cond, length}
use Rattle.std.proofs.Common.{sym, ap, ⊎_elim, arith}
use mathlib.Core.List.Memᴰ
use mathlib.Core.List.{List, [], ◌∷◌, ◌++◌, Memᴰ}
use Rattle.trees.specs.Lists.{filter}
use Rattle.newick.specs.RowText.{gather}

pub filter_append : (t : ℕ → Bool) (xs ys : List ℕ) → filter t (xs ++ ys) ≡ filter t xs ++ filter t ys
unfolding filter
filter_append t [] ys = refl
filter_append t (x ∷ xs) ys = go (t x) (filter_append t xs ys)
  where
    go : (b : Bool) → filter t (xs ++ ys) ≡ filter t xs ++ filter t ys
        → cond b (x ∷ filter t (xs ++ ys)) (filter t (xs ++ ys)) ≡ cond b (x ∷ filter t xs) (filter t xs) ++ filter t ys
    go true e = ap (λ (zs : List ℕ). x ∷ zs) e
    go false e = e

pub filter_same : (p q : ℕ → Bool) (xs : List ℕ) → ((x : ℕ) → Memᴰ x xs → p x ≡ q x) → filter p xs ≡ filter q xs
unfolding filter
filter_same p q [] h = refl
filter_same p q (x ∷ xs) h = rw (h x (Memᴰ.head refl), filter_same p q xs (λ y m. h y (Memᴰ.tail m)))

pub filter_none : (p : ℕ → Bool) (xs : List ℕ) → ((x : ℕ) → Memᴰ x xs → p x ≡ false) → filter p xs ≡ []
unfolding filter
filter_none p [] h = refl
filter_none p (x ∷ xs) h = rw (h x (Memᴰ.head refl)) (filter_none p xs (λ y m. h y (Memᴰ.tail m)))

pub one_long : (u : ℕ) (xs : List ℕ) → length xs ≡ 1 → Memᴰ u xs → xs ≡ u ∷ []
one_long u [] l m = absurd (omega arith)
one_long u (x ∷ []) l m = ap (λ (y : ℕ). y ∷ []) (sym (Memᴰ.eq_of_singleton m))
one_long u (x ∷ y ∷ xs) l m = absurd (omega arith)

pub in_gather : (f : ℕ → List ℕ) (x : ℕ) (ys : List ℕ) → Memᴰ x (gather f ys) → (y : ℕ) × Memᴰ y ys × Memᴰ x (f y)
unfolding gather
in_gather f x [] m = absurd (Memᴰ.not-nil m)
in_gather f x (y ∷ ys) m = ⊎_elim (λ h. (y, Memᴰ.head refl, h))
    (λ h. let t = in_gather f x ys h in (t.0, Memᴰ.tail t.1, t.2)) (Memᴰ.append_cases (f y) m)
