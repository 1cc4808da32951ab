-- What opening, adding and withdrawing answer, and the words they leave (RULES 6 and 7).
use Rattle.std.specs.Prelude.{ℕ, List, [], ◌∷◌, ◌++◌, not, eqb, ltb, length}
use Rattle.trees.specs.Checks.{Check, line, check1, check3, row_checks}
use Rattle.trees.specs.Numbering.{renumbered}
use Rattle.trees.specs.Reporting.{Run}
use Rattle.trees.specs.Outcomes.{Outcome, outcome}
use Rattle.runs.specs.Runs.{present, insert_run, delete_run}
use Rattle.runs.specs.Words.{samples, runs, encode, capacity, full}
use Rattle.runs.specs.Formed.{well_formed}

-- check 2: the study is not well formed (RULES 7.5)
abbrev pub check2 : List ℕ → Check
check2 w = line 2 (not (well_formed w))

-- check 3, of opening: there is no room for a run (RULES 7.5)
abbrev pub check3_open : ℕ → List ℕ → Check
check3_open n w = line 3 (ltb (capacity (length w) n) 1)

-- check 4: the identifier is 0 (RULES 7.5)
abbrev pub check4 : ℕ → Check
check4 i = line 4 (eqb i 0)

-- check 11, of adding: the identifier is in force (RULES 7.5)
abbrev pub check11 : List ℕ → ℕ → Check
check11 w i = line 11 (present i (runs w))

-- check 12, of adding: there is no room for one run more (RULES 7.5)
abbrev pub check12 : List ℕ → Check
check12 w = line 12 (full w)

-- check 13, of withdrawing: there is no run of that identifier (RULES 7.5)
abbrev pub check13 : List ℕ → ℕ → Check
check13 w i = line 13 (not (present i (runs w)))

-- the checks of opening (RULES 7.2)
unfoldable pub open_checks : ℕ → List ℕ → List Check
open_checks n w = check1 n ∷ check3_open n w ∷ []

-- what opening answers, and the words after it: a study with no runs (RULES 6.8), whatever they were before
unfoldable pub opened : ℕ → List ℕ → Outcome
opened n w = outcome (open_checks n w) w (encode (length w) n [])

-- the checks of adding to a study that is known to be well formed, and to any (RULES 7.2)
unfoldable pub add_formed_checks : List ℕ → ℕ → List ℕ → List Check
add_formed_checks w i row = check3 (samples w) row ∷ check4 i ∷ (row_checks (samples w) row ++ (check11 w i ∷ check12 w ∷ []))

unfoldable pub add_checks : List ℕ → ℕ → List ℕ → List Check
add_checks w i row = check2 w ∷ add_formed_checks w i row

-- a run as it is stored: its row in standard numbering (RULES 4.4)
abbrev pub stores : ℕ → ℕ → List ℕ → Run
stores n i row = record { identifier = i; row = renumbered n row }

-- the runs in force after an accepted add, sorted by identifier (RULES 6.4)
abbrev pub runs_with : List ℕ → ℕ → List ℕ → List Run
runs_with w i row = insert_run (stores (samples w) i row) (runs w)

-- what adding answers, and the study's words after it (RULES 6)
unfoldable pub added : List ℕ → ℕ → List ℕ → Outcome
added w i row = outcome (add_checks w i row) w (encode (length w) (samples w) (runs_with w i row))

-- the checks of withdrawing from a study that is known to be well formed, and from any (RULES 7.2)
unfoldable pub withdraw_formed_checks : List ℕ → ℕ → List Check
withdraw_formed_checks w i = check4 i ∷ check13 w i ∷ []

unfoldable pub withdraw_checks : List ℕ → ℕ → List Check
withdraw_checks w i = check2 w ∷ withdraw_formed_checks w i

-- what withdrawing answers, and the study's words after it, the freed ones 0 (RULES 6.5)
unfoldable pub withdrawn : List ℕ → ℕ → Outcome
withdrawn w i = outcome (withdraw_checks w i) w (encode (length w) (samples w) (delete_run i (runs w)))
