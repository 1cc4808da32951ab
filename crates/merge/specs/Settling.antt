-- Where the kept nodes of a row have come in a row that has their groups.
use Rattle.std.specs.Prelude.{ℕ, ◌≤◌, ◌<◌, ◌≡◌, List, Bool, true}
use Rattle.trees.specs.Rows.{nodes, group_at}
use Rattle.trees.specs.Tables.{entry}
use Rattle.trees.specs.Merging.{flagged}

-- each kept node of row a has its group at the inner node of row out that `num` gives it
pub record Settled (n : ℕ) (a : List ℕ) (keep : List Bool) (num out : List ℕ) : Type 0 where
  pub low : (v : ℕ) → n ≤ v → v < nodes a → flagged keep v ≡ true → n ≤ entry num v
  pub high : (v : ℕ) → n ≤ v → v < nodes a → flagged keep v ≡ true → entry num v < nodes out
  pub same : (v : ℕ) → n ≤ v → v < nodes a → flagged keep v ≡ true → group_at n out (entry num v) ≡ group_at n a v
