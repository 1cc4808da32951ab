-- A row's ways: the places of its nodes, and which of them are below others on one path.
use Rattle.std.specs.Prelude.{ℕ}
use Rattle.trees.specs.Tables.{entry}
use Rattle.conflict.specs.declared.ways.Ways.{Ways}
use Rattle.conflict.specs.Paths.{Onward}

-- the first and the last place of a node
abbrev pub first_of : Ways → ℕ → ℕ
first_of w = entry w.ends.now.first

abbrev pub last_of : Ways → ℕ → ℕ
last_of w = entry w.ends.now.last

-- node y is below node x on one path
abbrev pub Below : Ways → ℕ → ℕ → Type 0
Below w x y = Onward w.row.n w.row.row.now w.trails.now.next x y
