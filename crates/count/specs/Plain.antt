-- The plain count: the row that it starts with, and the row of what it has accepted.
use Rattle.std.specs.Prelude.{ℕ, List, [], ◌∷◌, Bool, true, replicate}
use Rattle.trees.specs.Groups.{whole}
use Rattle.trees.specs.Numbering.{row_of}
use Rattle.trees.specs.Tables.{table_words}
use Rattle.trees.specs.Majority.{majority}
use Rattle.trees.specs.Counting.{so_far}
use Rattle.runs.specs.Words.{runs}

-- the row whose one inner group is the whole
abbrev pub bare_row : ℕ → List ℕ
bare_row n = row_of n (whole n ∷ [])

-- the row of what is accepted at threshold t once the first i runs of a study have been tried
abbrev pub accepted : ℕ → ℕ → List ℕ → ℕ → List ℕ
accepted t n w i = row_of n (so_far (majority t) n (runs w) i)

-- flags that keep all nodes
abbrev pub all : List Bool
all = replicate table_words true
