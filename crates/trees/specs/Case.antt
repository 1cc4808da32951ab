-- Rows of RULES 10: three runs over five samples, their agreed row and support row; rows with single branches, and without them.
use Rattle.std.specs.Prelude.{ℕ, List, [], ◌∷◌}

-- run 1, with {0,1,2} and {0,1} beside the trivial groups (RULES 10)
abbrev pub row1 : List ℕ
row1 = 8 ∷ 7 ∷ 7 ∷ 6 ∷ 5 ∷ 5 ∷ 65535 ∷ 5 ∷ 6 ∷ 0 ∷ []

-- run 2, with {0,1,2} and {3,4} (RULES 10)
abbrev pub row2 : List ℕ
row2 = 8 ∷ 6 ∷ 6 ∷ 6 ∷ 7 ∷ 7 ∷ 65535 ∷ 5 ∷ 5 ∷ 0 ∷ []

-- run 3, with {0,1,3,4}, {0,1} and {3,4} (RULES 10)
abbrev pub row3 : List ℕ
row3 = 9 ∷ 7 ∷ 7 ∷ 5 ∷ 8 ∷ 8 ∷ 65535 ∷ 5 ∷ 6 ∷ 6 ∷ []

-- their agreed row (RULES 10.1)
abbrev pub agreed_row : List ℕ
agreed_row = 9 ∷ 7 ∷ 7 ∷ 6 ∷ 8 ∷ 8 ∷ 65535 ∷ 5 ∷ 6 ∷ 5 ∷ []

-- their support row (RULES 10.1)
abbrev pub support_row : List ℕ
support_row = 3 ∷ 3 ∷ 3 ∷ 3 ∷ 3 ∷ 3 ∷ 3 ∷ 2 ∷ 2 ∷ 2 ∷ []

-- the tree of three samples that has trivial groups alone (RULES 10.15)
abbrev pub bare_of3 : List ℕ
bare_of3 = 4 ∷ 3 ∷ 3 ∷ 3 ∷ 65535 ∷ 0 ∷ []

-- it once more with a node above one sample, and with a chain at the root (RULES 10.15)
abbrev pub over_one : List ℕ
over_one = 5 ∷ 4 ∷ 3 ∷ 3 ∷ 65535 ∷ 3 ∷ []

abbrev pub chain_at_root : List ℕ
chain_at_root = 5 ∷ 4 ∷ 4 ∷ 4 ∷ 65535 ∷ 3 ∷ []

-- four samples with the group {0,1}, of one node and of a chain (RULES 10.15)
abbrev pub pair_of4 : List ℕ
pair_of4 = 6 ∷ 5 ∷ 5 ∷ 4 ∷ 4 ∷ 65535 ∷ 4 ∷ 0 ∷ []

abbrev pub chain_inside : List ℕ
chain_inside = 7 ∷ 6 ∷ 6 ∷ 4 ∷ 4 ∷ 65535 ∷ 4 ∷ 5 ∷ []
