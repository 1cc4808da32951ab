-- What a row that is known to be standard says at once, for goals on places and lengths. Assumes nothing.
use Prim.Native.Nat.{ℕ, ◌<◌, ◌≤◌}
use mathlib.Core.Path.{◌≡◌}
use mathlib.Core.List.{List}
use mathlib.Core.Bool.{true}
use native.Mathlib.Omega.{arith}
use lib.ListN.{length}
use Rattle.trees.specs.Rows.{nodes}
use Rattle.trees.specs.Checks.{most_samples, row_words}
use Rattle.trees.specs.Valid.{standard}
use Rattle.trees.proofs.StandardLaws.{standard_to}
use Rattle.text.specs.Marks.{mark_count}

module _ (n : ℕ) (r : List ℕ) (s : standard n r ≡ true) where
  -- it has a word for each node, and a first one
  pub standard_long : nodes r < length r
  standard_long = let ok = (standard_to n r s).valid in omega (arith, ok.high, ok.words)

  -- it has fewer nodes than there are words for n samples, and than there are marks
  pub standard_high : nodes r < row_words n
  standard_high = (standard_to n r s).valid.high

  pub standard_few : nodes r < mark_count
  standard_few = let ok = (standard_to n r s).valid in omega (arith, ok.high, ok.most)

  pub standard_most : n ≤ most_samples
  standard_most = (standard_to n r s).valid.most
