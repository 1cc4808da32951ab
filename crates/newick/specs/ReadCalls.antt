-- What reading a Newick text answers and leaves (RULES 7.9, 14.9).
use Rattle.std.specs.Prelude.{ℕ, max, List, [], ◌∷◌}
use Rattle.trees.specs.Lists.{Place, nowhere, at, range}
use Rattle.trees.specs.Checks.{Check, line_at, check1, check3}
use Rattle.trees.specs.Numbering.{ordered, branching, row_of}
use Rattle.trees.specs.Outcomes.{Outcome, outcome}
use Rattle.newick.specs.Tree.{Tree}
use Rattle.newick.specs.Tree.Tree.{leaf}
use Rattle.newick.specs.Walk.{Parse, parsed}
use Rattle.newick.specs.Walk.Parse.{reads, stops}
use Rattle.newick.specs.Meaning.{samples, groups_of, above, amiss}

-- the place at which a text stops being of the form, if it does
abbrev pub stop_place : Parse → Place
stop_place (reads t) = nowhere
stop_place (stops p) = at p

-- the tree that a text comes to; of a text that comes to none any will do
abbrev pub tree_in : Parse → Tree
tree_in (reads t) = t
tree_in (stops p) = leaf 0

-- check 17: the text is not of the form (RULES 7.5); its place: `stop_exactly`
abbrev pub check17 : Parse → Check
check17 o = record { number = 17; fault = stop_place o }

-- check 18: the lowest number that is amiss (RULES 7.5); no number from `above` on stands in the text
abbrev pub check18 : ℕ → Tree → Check
check18 n t = line_at 18 (amiss n (samples t)) (range 0 (max n (above (samples t))))

-- the row in standard numbering that has the groups of a tree (RULES 14.9)
unfoldable pub row_in : ℕ → Tree → List ℕ
row_in n t = row_of n (branching (ordered (groups_of n t)))

-- 17 and 18 of what a text comes to
unfoldable pub text_checks : ℕ → Parse → List Check
text_checks n o = check17 o ∷ check18 n (tree_in o) ∷ []

-- the checks of reading (RULES 7.9)
unfoldable pub read_checks : ℕ → Parse → List ℕ → List Check
read_checks n o out = check1 n ∷ check3 n out ∷ text_checks n o

-- what reading answers, and the buffer that it writes; the text is only read (RULES 7.6, 14.9)
unfoldable pub reading : ℕ → List ℕ → List ℕ → Outcome
reading n text out = outcome (read_checks n (parsed text) out) out (row_in n (tree_in (parsed text)))
