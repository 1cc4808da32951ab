-- Lists of values: tables, ranges, those that pass a test, the lowest of them, and what they weigh together.
use Rattle.std.specs.Prelude.{ℕ, zero, suc, ◌+◌, ◌-◌, List, [], ◌∷◌, Bool, cond, replicate}

-- the n values f s, f (s + 1) and so on
unfoldable pub tabulate : {A : Type 0} → ℕ → (ℕ → A) → ℕ → List A
tabulate zero f s = []
tabulate (suc n) f s = f s ∷ tabulate n f (suc s)

-- n words, each of them 0
abbrev pub zeros : ℕ → List ℕ
zeros n = replicate n 0

-- the numbers from a to below b
abbrev pub range : ℕ → ℕ → List ℕ
range a b = tabulate (b - a) (λ u. u) a

-- those that pass a test
unfoldable pub filter : {A : Type 0} → (A → Bool) → List A → List A
filter t [] = []
filter t (x ∷ xs) = cond (t x) (x ∷ filter t xs) (filter t xs)

-- a place, or none
pub data Place : Type 0 where
  nowhere : Place
  at : ℕ → Place

-- the first number of a list that passes a test: of a range, the lowest
unfoldable pub first : (ℕ → Bool) → List ℕ → Place
first t [] = nowhere
first t (x ∷ xs) = cond (t x) (at x) (first t xs)

-- what those that pass a test weigh together
unfoldable pub weigh : {A : Type 0} → (A → ℕ) → (A → Bool) → List A → ℕ
weigh w t [] = 0
weigh w t (x ∷ xs) = cond (t x) (w x) 0 + weigh w t xs

-- how many pass a test
abbrev pub count : {A : Type 0} → (A → Bool) → List A → ℕ
count t xs = weigh (λ x. 1) t xs
