-- Rows in which every way up ends: what valid rows and falling rows have in common, so that the laws of the way up stand once (`valid_rooted`, `falls_rooted`).
use Rattle.std.specs.Prelude.{ℕ, ◌≤◌, ◌<◌, ◌≡◌, List, true, false}
use Rattle.trees.specs.Rows.{nodes, parent, root_mark, child_of, ends}
use Rattle.trees.specs.Checks.{most_samples, row_words}

-- Parents are inner nodes, but for the roots', no leaf is a root, and each node comes to a root.
pub record Rooted (n : ℕ) (r : List ℕ) : Type 0 where
  pub most : n ≤ most_samples
  pub low : n < nodes r
  pub high : nodes r < row_words n
  pub leaf : (s : ℕ) → s < n → (n ≤ parent r s) × (parent r s < nodes r)
  pub inside : (v : ℕ) → v < nodes r → child_of r root_mark v ≡ false → (n ≤ parent r v) × (parent r v < nodes r)
  pub reach : (v : ℕ) → v < nodes r → ends (nodes r) r v ≡ true
