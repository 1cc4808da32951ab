-- How often a word stands in a stretch of words, for all words at once.
use Rattle.std.specs.Prelude.{ℕ, ◌<◌, ◌≡◌, List, Bool, eqb, length, get_or}
use Rattle.trees.specs.Lists.{range, count}
use Rattle.trees.specs.Tables.{table_words}
use Rattle.trees.proofs.ScanLaws.{CountLeft}

-- whether word u is z
abbrev pub is_word : List ℕ → ℕ → ℕ → Bool
is_word ws z u = eqb (get_or ws u 0) z

-- how many of the words from a to below b are z
abbrev pub standing : List ℕ → ℕ → ℕ → ℕ → ℕ
standing ws a b z = count (is_word ws z) (range a b)

-- the words from a to below u are counted, each at its own entry
pub record Tallying (ws : List ℕ) (a b u : ℕ) (t : List ℕ) : Type 0 where
  pub words : length t ≡ table_words
  pub counted : (z : ℕ) → z < table_words → CountLeft (is_word ws z) a b (get_or t z 0) u
