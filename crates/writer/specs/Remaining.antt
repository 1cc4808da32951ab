-- What writing answers and leaves where only some of its checks remain.
use Rattle.std.specs.Prelude.{ℕ, List, [], ◌∷◌, ◌++◌, cond, length}
use Rattle.trees.specs.Checks.{accepted, wrote, Check, ◌⊳◌, row_checks}
use Rattle.trees.specs.Valid.{is_accepted}
use Rattle.trees.specs.Outcomes.{Outcome}
use Rattle.newick.specs.RowText.{check_room, filled}
use Rattle.writer.specs.Lengths.{text_of}

-- checks, and where they pass, these bytes at the front of the text
abbrev pub outcome_of : List Check → List ℕ → List ℕ → Outcome
outcome_of checks bytes text = record {
  verdict = checks ⊳ wrote (length bytes);
  words = cond (is_accepted (checks ⊳ accepted)) (filled bytes text) text;
}

-- of the last check alone
abbrev pub room_outcome : List ℕ → List ℕ → Outcome
room_outcome bytes text = outcome_of (check_room bytes text ∷ []) bytes text

-- of checks 5 to 10, and the last
abbrev pub row_outcome : ℕ → List ℕ → List ℕ → List ℕ → Outcome
row_outcome n r ws text = outcome_of (row_checks n r ++ (check_room (text_of n r ws) text ∷ [])) (text_of n r ws) text
