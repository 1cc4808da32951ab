-- What a row that is known to be standard says at once, for goals on places and lengths. Assumes nothing.
use Prim.Native.Nat.{ℕ, ◌<◌, ◌≤◌}
use mathlib.Core.Path.{◌≡◌}
use mathlib.Core.List.{List}
use mathlib.Core.Bool.{true}
use native.Mathlib.Omega.{arith}
use lib.ListN.{length}
use Rattle.trees.specs.Rows.{nodes}
use Rattle.trees.specs.Checks.{most_samples}
use Rattle.trees.specs.Valid.{Standard, standard}
use Rattle.trees.specs.Tables.{table_words}
use Rattle.trees.proofs.FallsLaws.{standard_falls, few}
use Rattle.trees.proofs.StandardLaws.{standard_to}

module _ (n : ℕ) (r : List ℕ) (s : standard n r ≡ true) where
  -- it has a first word
  pub standard_long : 0 < length r
  standard_long = let ok = (standard_to n r s).valid in omega (arith, ok.least, ok.words)

  -- it has fewer nodes than a table has words
  pub standard_few : nodes r < table_words
  standard_few = few n r (standard_falls n r (standard_to n r s))

  pub standard_most : n ≤ most_samples
  standard_most = (standard_to n r s).valid.most

-- for `using`: a function that holds such a row then needs no answers for its first word and its places in tables
pub ruleset standard_rows = (standard_long, standard_few, standard_most)

module _ (n : ℕ) (r : List ℕ) (s : standard n r ≡ true) where
  -- it has an inner node
  pub standard_inner : n < nodes r
  standard_inner = (standard_to n r s).valid.low

  -- it has a word for each node after the first
  pub standard_words : nodes r < length r
  standard_words = let ok = (standard_to n r s).valid in omega (arith, ok.words, ok.high)

  -- it has no more words than a table
  pub standard_room : length r ≤ table_words
  standard_room = let ok = (standard_to n r s).valid in omega (arith, ok.words, ok.most)

-- the same for a function that reads the words of its nodes
pub ruleset standard_nodes = (standard_rows, standard_inner, standard_words, standard_room)

-- a row that is standard over its own samples, which are n
pub standard_over : {n k : ℕ} {r : List ℕ} → standard k r ≡ true → k ≡ n → Standard n r
standard_over {n} {k} {r} s e = rw e at (standard_to k r s)
