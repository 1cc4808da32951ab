-- The slots of a file by themselves: what each is refused for, and the runs that the study holds once some are taken.
use Rattle.std.specs.Prelude.{ℕ, zero, suc, List, [], ◌∷◌, ◌++◌, Bool, false, ◌||◌, eqb}
use Rattle.trees.specs.Checks.{Check, line, row_checks}
use Rattle.trees.specs.Reporting.{Run}
use Rattle.runs.specs.Runs.{insert_run}
use Rattle.runs.specs.Calls.{check4, stores}
use Rattle.file.specs.Files.{slot_identifier, slot_row}

-- whether one of the first j slots has identifier i
unfoldable pub named : List ℕ → ℕ → ℕ → ℕ → Bool
named bytes n i zero = false
named bytes n i (suc j) = eqb i (slot_identifier bytes n j) || named bytes n i j

-- Lines 4 to 12 of RULES 7.5 for slot j, once the slots before it are taken. In force is then what they name, and the study has
-- room for every slot of a file but for RULES 1.4: slot 1,024 is one too many.
unfoldable pub slot_checks : List ℕ → ℕ → ℕ → List Check
slot_checks bytes n j =
    check4 (slot_identifier bytes n j)
    ∷ (row_checks n (slot_row bytes n j) ++ (line 11 (named bytes n (slot_identifier bytes n j) j) ∷ line 12 (eqb j 1024) ∷ []))

-- the runs in force once the first j slots are taken: each in standard numbering, by rising identifier
unfoldable pub slot_runs : List ℕ → ℕ → ℕ → List Run
slot_runs bytes n zero = []
slot_runs bytes n (suc j) = insert_run (stores n (slot_identifier bytes n j) (slot_row bytes n j)) (slot_runs bytes n j)
