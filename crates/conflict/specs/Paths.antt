-- The paths of a row's inner nodes: each node begins one, or goes on with its parent's as the first inner child.
use Rattle.std.specs.Prelude.{ℕ, ◌<◌, ◌≡◌, List, length}
use Rattle.trees.specs.Rows.{nodes, parent}
use Rattle.trees.specs.Tables.{table_words, entry}
use Rattle.trees.proofs.RowLaws.{Above}

-- by the node at which the path of each begins, and the child with which it goes on: v begins a path, where a sibling
-- of a smaller number goes on with their parent's, or v itself goes on
pub data Goes (r head next : List ℕ) (v : ℕ) : Type 0 where
  begins : entry head v ≡ v → 0 < entry next (parent r v) → entry next (parent r v) < v → Goes r head next v
  goes_on : entry head v ≡ entry head (parent r v) → entry next (parent r v) ≡ v → Goes r head next v

-- so do the inner nodes below m; no child with which to go on is marked by 0
pub record Paths (n : ℕ) (r : List ℕ) (m : ℕ) (head next : List ℕ) : Type 0 where
  pub head_words : length head ≡ table_words
  pub next_words : length next ≡ table_words
  pub top : entry head n ≡ n
  pub goes : (v : ℕ) → n < v → v < m → Goes r head next v
  pub child : (p : ℕ) → 0 < entry next p → (n < entry next p) × (entry next p < m) × (parent r (entry next p) ≡ p)

-- the child with which the path of x goes on is at or above y
pub record Onward (n : ℕ) (r next : List ℕ) (x y : ℕ) : Type 0 where
  pub above : Above r (entry next x) y
  pub up : parent r (entry next x) ≡ x
  pub low : n < entry next x
  pub high : entry next x < nodes r
