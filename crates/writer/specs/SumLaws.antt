-- Sums over a list: term by term, and two of them swapped. Assumes nothing.
use Rattle.std.specs.Prelude.{ℕ, ◌+◌, ◌*◌, ◌≡◌, refl, ◌⊎◌, Bool, true, false, cond, eqb}
use Rattle.std.proofs.Common.{inl, inr, arith, eqb-true, eq-eqb}
use mathlib.Core.List.{List, [], ◌∷◌, Memᴰ}
use Rattle.trees.specs.Lists.{weigh, count}
use Rattle.trees.proofs.BoolLaws.{decide}

-- what all of a list weigh together
abbrev pub total : (ℕ → ℕ) → List ℕ → ℕ
total f xs = weigh f (λ x. true) xs

pub total_same : (f g : ℕ → ℕ) (xs : List ℕ) → ((x : ℕ) → Memᴰ x xs → f x ≡ g x) → total f xs ≡ total g xs
unfolding weigh
total_same f g [] h = refl
total_same f g (x ∷ xs) h = omega (arith, h x (Memᴰ.head refl), total_same f g xs (λ y m. h y (Memᴰ.tail m)))

total_add : (f g : ℕ → ℕ) (xs : List ℕ) → total (λ x. f x + g x) xs ≡ total f xs + total g xs
unfolding weigh
total_add f g [] = refl
total_add f g (x ∷ xs) = omega (arith, total_add f g xs)

-- k for each that passes
total_times : (k : ℕ) (t : ℕ → Bool) (xs : List ℕ) → total (λ x. cond (t x) k 0) xs ≡ count t xs * k
unfolding weigh
total_times k t [] = omega arith
total_times k t (x ∷ xs) = go (t x) (total_times k t xs)
  where
    go : (b : Bool) → total (λ x. cond (t x) k 0) xs ≡ count t xs * k
        → cond b k 0 + total (λ x. cond (t x) k 0) xs ≡ (cond b 1 0 + count t xs) * k
    go true e = omega (arith, e)
    go false e = omega (arith, e)

-- the weight of one number
pub weigh_at : (w : ℕ → ℕ) (v : ℕ) (xs : List ℕ) → weigh w (λ u. eqb u v) xs ≡ count (λ u. eqb u v) xs * w v
unfolding weigh
weigh_at w v [] = omega arith
weigh_at w v (u ∷ xs) = go (decide (eqb u v)) (weigh_at w v xs)
  where
    go : (eqb u v ≡ true) ⊎ (eqb u v ≡ false) → weigh w (λ x. eqb x v) xs ≡ count (λ x. eqb x v) xs * w v
        → cond (eqb u v) (w u) 0 + weigh w (λ x. eqb x v) xs ≡ (cond (eqb u v) 1 0 + count (λ x. eqb x v) xs) * w v
    go (inl e) h = rw (eqb-true u v e, eq-eqb v v refl) (omega (arith, h))
    go (inr e) h = rw e (omega (arith, h))

once_or : (i k : ℕ) (a b : Bool) → i + cond a 1 0 ≡ cond b 1 0 → i * k + cond a k 0 ≡ cond b k 0
once_or i k true true e = let z : i ≡ 0 = omega arith in rw z (omega arith)
once_or i k true false e = absurd (omega arith)
once_or i k false true e = let z : i ≡ 1 = omega arith in rw z (omega arith)
once_or i k false false e = let z : i ≡ 0 = omega arith in rw z (omega arith)

-- what passes t at each of cs, and what passes q, weighs as much as what passes p, if p is passed once by either
pub sums_swap : (w : ℕ → ℕ) (t : ℕ → ℕ → Bool) (p q : ℕ → Bool) (cs us : List ℕ)
    → ((u : ℕ) → Memᴰ u us → count (λ c. t c u) cs + cond (q u) 1 0 ≡ cond (p u) 1 0)
    → total (λ c. weigh w (t c) us) cs + weigh w q us ≡ weigh w p us
unfolding weigh
sums_swap w t p q cs [] h = omega (arith, total_times 0 (λ c. true) cs)
sums_swap w t p q cs (u ∷ us) h = omega (
  arith,
  total_add (λ c. cond (t c u) (w u) 0) (λ c. weigh w (t c) us) cs,
  total_times (w u) (λ c. t c u) cs,
  once_or (count (λ c. t c u) cs) (w u) (q u) (p u) (h u (Memᴰ.head refl)),
  sums_swap w t p q cs us (λ x m. h x (Memᴰ.tail m)),
)
