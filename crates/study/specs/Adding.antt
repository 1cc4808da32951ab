-- Adding to a well-formed study in two steps: the identifier and the row are checked, then the study's slots.
use Rattle.std.specs.Prelude.{ℕ, List, [], ◌∷◌, length}
use Rattle.trees.specs.Checks.{Check, check3, row_checks}
use Rattle.runs.specs.Words.{samples, encode}
use Rattle.trees.specs.Outcomes.{Outcome, outcome}
use Rattle.runs.specs.Calls.{check4, check11, check12, runs_with}

-- the checks of the identifier and the row: 3, 4 and 5 to 10 (RULES 7.5)
abbrev pub given_checks : ℕ → ℕ → List ℕ → List Check
given_checks n i row = check3 n row ∷ check4 i ∷ row_checks n row

-- what is left of adding once these have passed
abbrev pub added_valid : List ℕ → ℕ → List ℕ → Outcome
added_valid w i row = outcome (check11 w i ∷ check12 w ∷ []) w (encode (length w) (samples w) (runs_with w i row))
