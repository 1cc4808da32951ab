-- What the loops keep that put fields into a buffer. Assumes nothing.
use Prim.Native.Nat.{ℕ, suc, ◌+◌, ◌*◌, ◌≤◌, ◌<◌}
use mathlib.Core.Path.{◌≡◌}
use mathlib.Core.List.{List, [], ◌∷◌, map}
use mathlib.Core.Bool.{Bool, true, false}
use native.Mathlib.Numerals.{add-one}
use lib.ListN.{length, get_or, drop}
use Rattle.trees.specs.Lists.{range, filter}
use Rattle.ascii.specs.Decimal.{decimal}
use Rattle.put.specs.Writing.{Put}
use Rattle.put.proofs.Laws.{Left, left_put, left_end, drop_next}
use Rattle.text.specs.Lines.{space, spaced}
use Rattle.text.specs.LineLaws.{filter_yes, filter_not, filter_end}

module _ {text out₀ out : List ℕ} {at at₀ : ℕ} where
  -- a field is put, and its space in front
  pub left_field : {f out' : List ℕ} {at' : ℕ} (fs : List (List ℕ)) → Left (spaced (f ∷ fs)) out at text out₀ at₀
      → Put (space ∷ f) out at out' at' → Left (spaced fs) out' at' text out₀ at₀
  unfolding spaced
  left_field fs l p = left_put (spaced fs) l p

  pub fields_end : Left (spaced []) out at text out₀ at₀ → Put text out₀ at₀ out at
  unfolding spaced
  fields_end l = left_end l

-- numbers put one by one
pub fields_next : {text out₀ out out' : List ℕ} {at₀ at at' : ℕ} (xs : List ℕ) (i : ℕ) → i < length xs
    → Left (spaced (map decimal (drop i xs))) out at text out₀ at₀
    → Put (space ∷ decimal (get_or xs i 0)) out at out' at' → Left (spaced (map decimal (drop (i + 1) xs))) out' at' text out₀ at₀
fields_next xs i h l p = left_field (map decimal (drop (i + 1) xs)) (rw (drop_next xs i h) at l) p

-- the fields of the numbers from s to below n that pass a test
abbrev pub fields_from : (ℕ → Bool) → ℕ → ℕ → List ℕ
fields_from t s n = spaced (map decimal (filter t (range s n)))

module _ {text out₀ out : List ℕ} {at at₀ : ℕ} (t : ℕ → Bool) (s n : ℕ) (l : Left (fields_from t s n) out at text out₀ at₀) where
  pub passing_skip : s < n → t s ≡ false → Left (fields_from t (s + 1) n) out at text out₀ at₀
  passing_skip h e = rw (add-one, ← filter_not t s n h e) l

  pub passing_put : {out' : List ℕ} {at' : ℕ} → s < n → t s ≡ true → Put (space ∷ decimal s) out at out' at'
      → Left (fields_from t (s + 1) n) out' at' text out₀ at₀
  passing_put h e p = rw add-one (left_field (map decimal (filter t (range (suc s) n))) (rw (filter_yes t s n h e) at l) p)

  pub passing_end : n ≤ s → Put text out₀ at₀ out at
  passing_end h = fields_end (rw (filter_end t s n h) at l)

-- Of fields of at most `most` bytes each i are passed, and what is left puts the whole.
pub record FieldsLeft (most i : ℕ) (rest out : List ℕ) (next : ℕ) (text out₀ : List ℕ) (at : ℕ) : Type 0 where
  pub room : next ≤ at + most * i
  pub left : Left rest out next text out₀ at
