-- Marks of the inner nodes at or below a node.
use Rattle.std.specs.Prelude.{ℕ, ◌≤◌, ◌<◌, ◌≡◌, List, Bool, false, get_or}
use Rattle.trees.specs.Rows.{nodes, parent, meets}

-- The marks say of each inner node with a number below u whether it is at or below v.
pub record Marked (n : ℕ) (row : List ℕ) (v u : ℕ) (marks : List Bool) : Type 0 where
  pub right : (w : ℕ) → n ≤ w → w < u → get_or marks w false ≡ meets (nodes row) row v w

-- whether a node's parent is marked
abbrev pub parent_marked : List Bool → List ℕ → ℕ → Bool
parent_marked marks row s = get_or marks (parent row s) false

-- a mark for each node: there are at most 512 samples (RULES 1.1), and fewer than twice as many nodes (RULES 1.2)
abbrev pub mark_count : ℕ
mark_count = 1024
