-- What checks 9 and 10 may take for granted.
use Rattle.std.specs.Prelude.{ℕ, ◌<◌, List, length}
use Rattle.trees.specs.Rows.{nodes}
use Rattle.trees.specs.Tables.{table_words}
use Rattle.trees.specs.Rows.{Closed}

-- once checks 5 to 8 have passed, a row's nodes fit its words and a table, and each node but the root has its parent among them
pub record LaidOut (r : List ℕ) : Type 0 where
  pub words : nodes r < length r
  pub fits : nodes r < table_words
  pub closed : Closed (nodes r) r
