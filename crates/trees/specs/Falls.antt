-- Rows whose parents have smaller numbers, and the order in which one pass visits their nodes.
use Rattle.std.specs.Prelude.{ℕ, ◌+◌, ◌-◌, ◌≤◌, ◌<◌, ◌≡◌, List, Bool, not, cond, eqb, ltb, length}
use Rattle.trees.specs.Rows.{nodes, parent, root_mark}
use Rattle.trees.specs.Scans.{never}
use Rattle.trees.specs.Checks.{most_samples, row_words, is_inner}

-- Parents are in range and have smaller numbers, and the first inner node is the root. The row need not be valid: an inner node may have one child, or none.
pub record Falls (n : ℕ) (r : List ℕ) : Type 0 where
  pub most : n ≤ most_samples
  pub words : length r ≡ row_words n
  pub low : n < nodes r
  pub high : nodes r < row_words n
  pub leaf : (s : ℕ) → s < n → (n ≤ parent r s) × (parent r s < nodes r)
  pub root : parent r n ≡ root_mark
  pub down : (v : ℕ) → n < v → v < nodes r → (n ≤ parent r v) × (parent r v < v)

-- whether p may be the parent of node v: the mark at n, any inner node at a leaf, an inner node of a smaller number at any other
unfoldable pub rightful : ℕ → ℕ → ℕ → ℕ → Bool
rightful n m v p = cond (eqb v n) (eqb p root_mark) (is_inner n (cond (ltb v n) m v) p)

-- Falls, as a test of the parents (`falls_to`, `falls_from`)
abbrev pub misplaced : ℕ → List ℕ → ℕ → Bool
misplaced n r v = not (rightful n (nodes r) v (parent r v))

abbrev pub falling : ℕ → List ℕ → Bool
falling n r = never (misplaced n r) 0 (nodes r)

-- the node that is done at step i: the samples rising, then the inner nodes falling, so that each comes before its parent
unfoldable pub turn : ℕ → ℕ → ℕ → ℕ
turn n m i = cond (ltb i n) i (m + n - 1 - i)

-- when node u is done
abbrev pub due : ℕ → List ℕ → ℕ → ℕ
due n r u = turn n (nodes r) u
