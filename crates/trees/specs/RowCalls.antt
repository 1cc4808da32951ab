-- What renumbering and comparing answer and leave (RULES 7 and 8).
use Rattle.std.specs.Prelude.{ℕ, ◌+◌, List, ◌∷◌, ◌++◌, map, ◌||◌, not, eqb, length}
use Rattle.trees.specs.Lists.{Place, nowhere, at}
use Rattle.trees.specs.Checks.{Verdict, Check, line, ◌⊳◌, row_words, check1, row_checks}
use Rattle.trees.specs.Numbering.{renumbered}
use Rattle.trees.specs.Comparing.{compared}
use Rattle.trees.specs.Outcomes.{Outcome, outcome}

-- check 3, of two buffers: one of them is not as long as a row (RULES 7.5)
abbrev pub check3_both : ℕ → List ℕ → List ℕ → Check
check3_both n r q = line 3 (not (eqb (length r) (row_words n)) || not (eqb (length q) (row_words n)))

-- the checks of renumbering, check 3 being of its row and of its output (RULES 7.5)
unfoldable pub renumber_checks : ℕ → List ℕ → List ℕ → List Check
renumber_checks n r out = check1 n ∷ check3_both n r out ∷ row_checks n r

-- what renumbering answers, and the buffer that it writes; the other is only read (RULES 7.6)
unfoldable pub renumbering : ℕ → List ℕ → List ℕ → Outcome
renumbering n r out = outcome (renumber_checks n r out) out (renumbered n r)

-- a check with d added to its place (RULES 7.7)
abbrev pub moved_place : ℕ → Place → Place
moved_place d nowhere = nowhere
moved_place d (at p) = at (p + d)

abbrev pub moved : ℕ → Check → Check
moved d c = record { number = c.number; fault = moved_place d c.fault }

-- the checks of comparing: 1, 3 of both rows, those of the first row, and those of the second with 2n added to the place (RULES 7.7)
unfoldable pub compare_checks : ℕ → List ℕ → List ℕ → List Check
compare_checks n r q = check1 n ∷ check3_both n r q ∷ (row_checks n r ++ map (moved (row_words n)) (row_checks n q))

-- what comparing answers: a refusal, or its three counts (RULES 7.1)
unfoldable pub comparing : ℕ → List ℕ → List ℕ → Verdict
comparing n r q = compare_checks n r q ⊳ compared n r q
