-- Whether a row is in standard numbering, by one linear look at it (`linear_standard`).
use Rattle.std.specs.Prelude.{ℕ, suc, ◌+◌, ◌-◌, List, Bool, ◌&&◌, not, eqb, ltb, leb, get_or}
use Rattle.trees.specs.Rows.{nodes}
use Rattle.trees.specs.Checks.{row_words}
use Rattle.trees.specs.Scans.{never}
use Rattle.trees.specs.Falls.{falling}
use Rattle.trees.specs.Tables.{size_at, rank_at}

-- m nodes are neither too few nor too many (RULES 1.2)
abbrev pub spans : ℕ → ℕ → Bool
spans n m = ltb n m && ltb m (row_words n)

-- every word of the filler is 0 (RULES 2.3)
abbrev pub littered : List ℕ → ℕ → Bool
littered r w = not (eqb (get_or r w 0) 0)

abbrev pub filler_zero : ℕ → List ℕ → Bool
filler_zero n r = never (littered r) (nodes r + 1) (row_words n)

-- each rank from a to below b is less than the next
abbrev pub falters : (ℕ → ℕ) → ℕ → Bool
falters rank v = leb (rank (suc v)) (rank v)

abbrev pub rising : (ℕ → ℕ) → ℕ → ℕ → Bool
rising rank a b = never (falters rank) a b

-- the ranks of the inner nodes rise, and the last of them has two samples
abbrev pub ranked : ℕ → List ℕ → Bool
ranked n r = leb 2 (size_at n r (nodes r - 1)) && rising (rank_at n r) n (nodes r - 1)

unfoldable pub linear : ℕ → List ℕ → Bool
linear n r = spans n (nodes r) && (falling n r && (filler_zero n r && ranked n r))
