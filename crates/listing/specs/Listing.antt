-- What the listing program writes for a file (RULES 9).
use Rattle.std.specs.Prelude.{ℕ, suc, Option, None, Some}
use mathlib.Core.List.{List, [], ◌∷◌, flatten}
use Rattle.trees.specs.Lists.{tabulate, zeros}
use Rattle.trees.specs.Checks.{Verdict, accepted, refused, counted, wrote, row_words}
use Rattle.runs.specs.Calls.{opened}
use Rattle.runs.specs.Histories.{Call, add, answers, after}
use Rattle.runs.specs.Reports.{reported}
use Rattle.file.specs.Files.{file_of, slot_identifier, slot_row}
use Rattle.file.specs.declared.Sizes.{Sizes}
use Rattle.text.specs.Lines.{refusal_line, tree_lines}

-- how many words the study has (RULES 9.2)
abbrev pub study_words : ℕ
study_words = 32768

-- What a file comes to: a refusal, with its number, the slot that it was, or 0, and its place (RULES 9.7); or the agreed tree.
pub data Listed : Type 0 where
  refusal : (number slot place : ℕ) → Listed
  tree : (n k : ℕ) (row support : List ℕ) → Listed

-- what comes next, unless a call for a slot is refused (RULES 9.7)
abbrev pub unless : Verdict → ℕ → Listed → Listed
unless accepted slot next = next
unless (refused number place) slot next = refusal number slot place
unless (counted a b c) slot next = next
unless (wrote k) slot next = next

-- the first of the slots' calls that is refused, from a slot on (RULES 9.7)
unfoldable pub first_refused : List Verdict → ℕ → Listed → Listed
first_refused [] slot next = next
first_refused (v ∷ vs) slot next = unless v slot (first_refused vs (suc slot) next)

-- the add of slot j (RULES 9.2)
abbrev pub slot_call : List ℕ → ℕ → ℕ → Call
slot_call bytes n j = add (slot_identifier bytes n j) (slot_row bytes n j)

-- what the report of a study comes to; no threshold is named (RULES 9.2)
unfoldable pub reports : ℕ → ℕ → List ℕ → Listed
reports n k w =
    let r = reported w 0 (zeros (row_words n)) (zeros (row_words n)) in
    unless r.verdict 0 (tree n k r.agreed_row r.support_row)

-- what becomes of a study that gets some calls, the first of them that of a slot, and is then reported (RULES 9.2)
unfoldable pub adds_and_reports : ℕ → ℕ → List ℕ → List Call → ℕ → Listed
adds_and_reports n k w calls slot = first_refused (answers w calls) slot (reports n k (after w calls))

-- what a good file comes to: a study is opened, gets slot after slot, and is reported (RULES 9.2)
unfoldable pub listed_file : List ℕ → ℕ → ℕ → Listed
listed_file bytes n k =
    let o = opened n (zeros study_words) in
    unless o.verdict 0 (adds_and_reports n k o.words (tabulate k (slot_call bytes n) 0) 0)

-- what any file comes to: a bad one is refused with 15 before all else (RULES 9.3)
abbrev pub listed_of : List ℕ → Option Sizes → Listed
listed_of bytes None = refusal 15 0 0
listed_of bytes (Some s) = listed_file bytes s.samples s.runs

unfoldable pub listed : List ℕ → Listed
listed bytes = listed_of bytes (file_of bytes)

-- the lines: one, if anything was refused (RULES 9.7), or those of the tree (RULES 9.4, 9.5)
abbrev pub lines_of : Listed → List (List ℕ)
lines_of (refusal number slot place) = refusal_line number slot place ∷ []
lines_of (tree n k row support) = tree_lines n k row support

-- all that the program writes (RULES 9.4 to 9.7)
abbrev pub listing : List ℕ → List ℕ
listing bytes = flatten (lines_of (listed bytes))
