-- The lines of the listing (RULES 9.4 to 9.7).
use Rattle.std.specs.Prelude.{ℕ, suc, ◌-◌, List, [], ◌∷◌, ◌++◌, map, cond, eqb, get_or}
use Rattle.trees.specs.Lists.{tabulate, range, filter}
use Rattle.trees.specs.Groups.{Group, has}
use Rattle.trees.specs.Rows.{nodes, parent, root_mark, group_at}
use Rattle.ascii.specs.Ascii.{ascii}
use Rattle.ascii.specs.Decimal.{decimal}

-- what stands between fields, and what ends a line (RULES 9.6)
abbrev pub space : ℕ
space = 32

abbrev pub line_feed : ℕ
line_feed = 10

-- fields, a space before each (RULES 9.6)
unfoldable pub spaced : List (List ℕ) → List ℕ
spaced [] = []
spaced (f ∷ fs) = space ∷ (f ++ spaced fs)

-- a line: fields with a space between them, and a line feed (RULES 9.6)
unfoldable pub line_of : List ℕ → List (List ℕ) → List ℕ
line_of f fs = f ++ spaced fs ++ (line_feed ∷ [])

-- the first line (RULES 9.4)
unfoldable pub head_line : ℕ → ℕ → List ℕ
head_line n k = line_of (ascii "ARB") (decimal 1 ∷ decimal n ∷ decimal k ∷ [])

-- the parent of a node, or `-` if it is the root (RULES 9.5)
unfoldable pub parent_field : ℕ → List ℕ
parent_field p = cond (eqb p root_mark) (ascii "-") (decimal p)

-- the samples of a group from the lowest up (RULES 9.5)
unfoldable pub samples_of : ℕ → Group → List ℕ
samples_of n g = filter (has g) (range 0 n)

-- the line of an inner node: its number, its parent, its support as the support row has it (RULES 5.5), and its samples (RULES 9.5)
unfoldable pub node_line : ℕ → List ℕ → List ℕ → ℕ → List ℕ
node_line n row support v = line_of (decimal v) (parent_field (parent row v) ∷ decimal (get_or support (suc v) 0) ∷ map decimal (samples_of n (group_at n row v)))

-- the line of a refusal, `refused R J P`: its number, which slot it was, and its place (RULES 9.7)
unfoldable pub refusal_line : ℕ → ℕ → ℕ → List ℕ
refusal_line number slot place = line_of (ascii "refused") (decimal number ∷ decimal slot ∷ decimal place ∷ [])

-- the first line, then one for each inner node, the lowest first (RULES 9.5)
unfoldable pub tree_lines : ℕ → ℕ → List ℕ → List ℕ → List (List ℕ)
tree_lines n k row support = head_line n k ∷ tabulate (nodes row - n) (node_line n row support) n
