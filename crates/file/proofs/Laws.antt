-- What the loop keeps that puts words into a row. Assumes nothing.
use Prim.Native.Nat.{ℕ, ◌+◌, ◌≤◌, ◌<◌}
use mathlib.Core.Path.{◌≡◌, refl, sym, ◌∙◌}
use mathlib.Core.List.{List}
use native.Mathlib.Omega.{arith}
use native.Mathlib.Numerals.{add-one}
use lib.ListN.{length, get_or, take, set, length-set}
use lib.Seq.{take_all, take-suc, take-suc-set}

-- The first i words of a row are those that belong there.
pub record Filled (target : List ℕ) (i : ℕ) (row : List ℕ) : Type 0 where
  pub long : length row ≡ length target
  pub front : take i row ≡ take i target

pub filled_start : {target row : List ℕ} → length row ≡ length target → Filled target 0 row
filled_start e = record { long = e; front = refl }

module _ (target row : List ℕ) (i : ℕ) (l : Filled target i row) where
  pub filled_next : (x : ℕ) → i < length target → x ≡ get_or target i 0 → Filled target (i + 1) (set row i x)
  filled_next x h e = record {
    long = length-set row i x ∙ l.long;
    front = rw (add-one, take-suc-set row i x (omega (arith, l.long)), take-suc target i 0 h, l.front, e);
  }

  pub filled_end : length target ≤ i → row ≡ target
  filled_end h = sym (take_all i row (omega (arith, l.long))) ∙ l.front ∙ take_all i target h
