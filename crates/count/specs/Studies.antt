-- A study as a count reads it.
use Rattle.std.specs.Prelude.{ℕ, ◌≡◌, List}
use Rattle.runs.specs.Words.{samples, in_force, run_at}
use Rattle.runs.specs.Formed.{Formed}

-- w is a well-formed study over n samples with k runs in force
pub record Study (w : List ℕ) (n k : ℕ) : Type 0 where
  pub formed : Formed w
  pub over : n ≡ samples w
  pub force : k ≡ in_force w

-- the row of run j
abbrev pub row_at : ℕ → List ℕ → ℕ → List ℕ
row_at n w j = (run_at n w j).row
