-- What line 18 of reading asks of a tree (RULES 7.5), and what is read (RULES 14.9).
use Rattle.std.specs.Prelude.{ℕ, ◌≤◌, ◌<◌, ◌≡◌, List, cond, ltb, length}
use Rattle.trees.specs.Checks.{fewest_samples, most_samples, row_words}
use Rattle.newick.specs.Tree.{Tree}
use Rattle.newick.specs.Meaning.{samples, times}

-- n is in range, and the output has 2n words
pub record Sized (n : ℕ) (out : List ℕ) : Type 0 where
  pub least : fewest_samples ≤ n
  pub most : n ≤ most_samples
  pub words : length out ≡ row_words n

-- p is the lowest number of which P holds
pub record LowestWith (P : ℕ → Type 0) (p : ℕ) : Type 0 where
  pub holds : P p
  pub none : (x : ℕ) → x < p → P x → ⊥

-- x stands in the tree as often as it should: once if it is below n, and else not at all
abbrev pub Stands : ℕ → Tree → ℕ → Type 0
Stands n t x = times x (samples t) ≡ cond (ltb x n) 1 0

-- A tree that is read over n samples: each sample below n stands once, and no other number does. How many subtrees a pair
-- holds is not asked.
abbrev pub Readable : ℕ → Tree → Type 0
Readable n t = (x : ℕ) → Stands n t x
