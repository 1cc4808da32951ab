-- Of two numbers one is smaller or they are equal, and a scan finds nothing exactly if nothing passes, number by number. Assumes nothing.
use Rattle.std.specs.Prelude.{ℕ, ◌+◌, ◌≤◌, ◌<◌, ◌≡◌, refl, ◌⊎◌, Bool, true, false, ltb}
use Rattle.std.proofs.Common.{sym, ap, ◌∙◌, inl, inr, ⊎_elim, add-one, arith, ltb-true, ltb-false}
use Rattle.std.proofs.lemmas.Bool.{false≢true}
use Rattle.trees.specs.Lists.{Place, nowhere, at, range, first}
use Rattle.trees.specs.Scans.{is_nowhere, never}
use Rattle.trees.proofs.BoolLaws.{true_eq, decide}
use Rattle.trees.proofs.ListLaws.{first_end, first_hit, first_pass, first_nowhere, nowhere_first}

-- ---- below or not; and of two numbers: below, equal or above

pub side : (n i : ℕ) → (i < n) ⊎ (n ≤ i)
side n i = ⊎_elim (λ e. inl (ltb-true i n e)) (λ e. inr (ltb-false i n e)) (decide (ltb i n))

pub data Tri (i j : ℕ) : Type 0 where
  less : i < j → Tri i j
  equal : i ≡ j → Tri i j
  more : j < i → Tri i j

pub tri : (i j : ℕ) → Tri i j
tri i j = go (side j i) (side i j)
  where
    go : (i < j) ⊎ (j ≤ i) → (j < i) ⊎ (i ≤ j) → Tri i j
    go (inl a) b = less a
    go (inr a) (inl b) = more b
    go (inr a) (inr b) = equal (omega arith)

-- ---- the scan that passes nothing

pub never_to : (t : ℕ → Bool) (a b : ℕ) → never t a b ≡ true → (i : ℕ) → a ≤ i → i < b → t i ≡ false
never_to t a b e = first_nowhere t a b (go (first t (range a b)) e)
  where
    go : (p : Place) → is_nowhere p ≡ true → p ≡ nowhere
    go nowhere q = refl
    go (at i) q = absurd (false≢true q)

pub never_from : (t : ℕ → Bool) (a b : ℕ) → ((i : ℕ) → a ≤ i → i < b → t i ≡ false) → never t a b ≡ true
never_from t a b h = ap is_nowhere (nowhere_first t a b h)

pub never_same : (t u : ℕ → Bool) (a b : ℕ) → ((i : ℕ) → a ≤ i → i < b → t i ≡ u i) → never t a b ≡ never u a b
never_same t u a b h = true_eq _ _ (λ e. never_from u a b (λ i j k. sym (h i j k) ∙ never_to t a b e i j k))
    (λ e. never_from t a b (λ i j k. h i j k ∙ never_to u a b e i j k))

-- the scan, number by number
module _ (t : ℕ → Bool) (a b : ℕ) where
  pub never_end : b ≤ a → never t a b ≡ true
  never_end h = ap is_nowhere (first_end t a b h)

  pub never_hit : a < b → t a ≡ true → never t a b ≡ false
  never_hit h e = ap is_nowhere (first_hit t a b h e)

  pub never_pass : a < b → t a ≡ false → never t a b ≡ never t (a + 1) b
  never_pass h e = rw add-one (ap is_nowhere (first_pass t a b h e))
