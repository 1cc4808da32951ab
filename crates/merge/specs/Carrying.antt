-- What kept nodes have in a table, carried to their numbers in another.
use Rattle.std.specs.Prelude.{ℕ, ◌≤◌, ◌<◌, ◌≡◌, List, Bool, true, length}
use Rattle.trees.specs.Rows.{nodes}
use Rattle.trees.specs.Numbering.{row_of}
use Rattle.trees.specs.Tables.{table_words, entry}
use Rattle.trees.specs.Merging.{flagged, merged}
use Rattle.merge.specs.Settling.{Settled}

-- the kept nodes from n to below m have different numbers, each the place of a word in a table
pub record Apart (n m : ℕ) (keep : List Bool) (num : List ℕ) : Type 0 where
  pub fits : (v : ℕ) → n ≤ v → v < m → flagged keep v ≡ true → entry num v < table_words
  pub one : (v w : ℕ) → n ≤ v → v < m → flagged keep v ≡ true → n ≤ w → w < m → flagged keep w ≡ true
      → entry num v ≡ entry num w → v ≡ w

-- t once what the kept nodes before v have in `from` stands at their numbers, and all else is as in old
pub record Carried (n : ℕ) (keep : List Bool) (num from old : List ℕ) (v : ℕ) (t : List ℕ) : Type 0 where
  pub words : length t ≡ table_words
  pub given : (u : ℕ) → n ≤ u → u < v → flagged keep u ≡ true → entry t (entry num u) ≡ entry from u
  pub rest : (x : ℕ) → ((u : ℕ) → n ≤ u → u < v → flagged keep u ≡ true → entry num u ≡ x → ⊥) → entry t x ≡ entry old x

-- out has the kept groups of the rows a and b, and what the kept nodes of a have in `from` stands in t where they have
-- come; all else is as in old
pub record CarriedOver (n : ℕ) (a : List ℕ) (keep_a : List Bool) (b : List ℕ) (keep_b : List Bool) (from old t out : List ℕ)
    : Type 0 where
  pub row : out ≡ row_of n (merged n a keep_a b keep_b)
  pub num : List ℕ
  pub settled : Settled n a keep_a num out
  pub carried : Carried n keep_a num from old (nodes a) t
