-- When a study is well formed (RULES 6.7): the test, and what it means.
use Rattle.std.specs.Prelude.{ℕ, ◌≤◌, ◌<◌, ◌≡◌, Bool, true, false, ◌&&◌, not, eqb, leb, length, take, drop}
use mathlib.Core.List.{List, [], ◌∷◌, Memᴰ}
use Rattle.trees.specs.Checks.{fewest_samples, most_samples, outside}
use Rattle.trees.specs.Valid.{Standard, standard}
use Rattle.trees.specs.Reporting.{Run}
use Rattle.runs.specs.Runs.{every, rising}
use Rattle.runs.specs.Words.{header, samples, in_force, header_words, slot_start, runs, encode, most_identifier, capacity}

-- whether two lists of words are equal
unfoldable pub same_words : List ℕ → List ℕ → Bool
same_words [] [] = true
same_words [] (y ∷ ys) = false
same_words (x ∷ xs) [] = false
same_words (x ∷ xs) (y ∷ ys) = eqb x y && same_words xs ys

-- mark, version, n, k and two zeros (RULES 6.1, 6.2)
abbrev pub headed : List ℕ → Bool
headed w = same_words (take header_words w) (header (samples w) (in_force w))

-- n is in range, and the capacity neither 0 nor below k (RULES 6.7): so k is at most 1,024 (`capacity_most`)
abbrev pub sized : List ℕ → Bool
sized w = not (outside fewest_samples most_samples (samples w)) && leb 1 (capacity (length w) (samples w)) && leb (in_force w) (capacity (length w) (samples w))

-- the identifier is in range (RULES 1.3; that it is not 0 is in `rising`), and the row in standard numbering (RULES 6.3)
abbrev pub is_stored : ℕ → Run → Bool
is_stored n run = leb run.identifier most_identifier && standard n run.row

-- whether every word from p on is 0 (RULES 6.5)
abbrev pub zero_from : ℕ → List ℕ → Bool
zero_from p w = every (λ x. eqb x 0) (drop p w)

-- The test: header, sizes, identifiers in order, rows as they are stored, and 0 after the last slot (RULES 6.7).
unfoldable pub well_formed : List ℕ → Bool
well_formed w = headed w && sized w && rising 0 (runs w) && every (is_stored (samples w)) (runs w) && zero_from (slot_start (samples w) (in_force w)) w

-- each identifier above the one before it, the first above b (RULES 6.4)
abbrev pub Rising : ℕ → List Run → Type 0
Rising b [] = Unit {0}
Rising b (r ∷ rs) = (b < r.identifier) × Rising r.identifier rs

-- a run as it is stored (RULES 1.3, 6.3)
pub record Stored (n : ℕ) (run : Run) : Type 0 where
  pub word : run.identifier ≤ most_identifier
  pub standard : Standard n run.row

-- A well-formed study (RULES 6.7, `formed_to`, `formed_from`): its words are those of its runs, and no others.
pub record Formed (w : List ℕ) : Type 0 where
  pub least : fewest_samples ≤ samples w
  pub most : samples w ≤ most_samples
  pub one : 1 ≤ capacity (length w) (samples w)
  pub fits : in_force w ≤ capacity (length w) (samples w)
  pub rises : Rising 0 (runs w)
  pub stored : (run : Run) → Memᴰ run (runs w) → Stored (samples w) run
  pub exact : w ≡ encode (length w) (samples w) (runs w)

-- a study that has become v is well formed, and has kept its length and n
pub record Kept (len n : ℕ) (v : List ℕ) : Type 0 where
  pub formed : Formed v
  pub size : length v ≡ len
  pub same : samples v ≡ n
