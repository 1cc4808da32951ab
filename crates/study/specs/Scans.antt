-- A well-formed study, looked over in order: its sizes, then slot by slot.
use Rattle.std.specs.Prelude.{ℕ, List, Bool, ◌&&◌, not, ltb, leb}
use Rattle.trees.specs.Checks.{fewest_samples, most_samples, outside}
use Rattle.trees.specs.Reporting.{Run}
use Rattle.runs.specs.Runs.{every, rising}
use Rattle.runs.specs.Words.{capacity}
use Rattle.runs.specs.Formed.{is_stored}

-- n is in range, and the capacity neither 0 nor below k (RULES 6.7), of numbers that were read
abbrev pub sizes_fit : ℕ → ℕ → ℕ → Bool
sizes_fit len n k = not (outside fewest_samples most_samples n) && leb 1 (capacity len n) && leb k (capacity len n)

-- a run with an identifier above b, as it is stored
abbrev pub follows : ℕ → ℕ → Run → Bool
follows n b run = ltb b run.identifier && is_stored n run

-- runs with identifiers rising from above b, each as it is stored
abbrev pub stored_from : ℕ → ℕ → List Run → Bool
stored_from n b rs = rising b rs && every (is_stored n) rs
