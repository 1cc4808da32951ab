-- What a row that is known to be valid says at once, for goals on places and lengths. Assumes nothing.
use Prim.Native.Nat.{ℕ, ◌<◌, ◌≤◌}
use mathlib.Core.Path.{◌≡◌}
use mathlib.Core.List.{List}
use mathlib.Core.Bool.{true}
use native.Mathlib.Omega.{arith}
use lib.ListN.{length}
use Rattle.trees.specs.Rows.{nodes}
use Rattle.trees.specs.Checks.{most_samples, row_words, judged}
use Rattle.trees.specs.Valid.{is_accepted}
use Rattle.trees.specs.Tables.{table_words}
use Rattle.judge.proofs.KnownRows.{known_valid}

module _ (n : ℕ) (r : List ℕ) (e : is_accepted (judged n r) ≡ true) where
  pub valid_words : length r ≡ row_words n
  valid_words = (known_valid n r e).words

  -- it has a word for each node, and a first one
  pub valid_long : nodes r < length r
  valid_long = let ok = known_valid n r e in omega (arith, ok.high, ok.words)

  -- it has fewer nodes than a table has words
  pub valid_few : nodes r < table_words
  valid_few = let ok = known_valid n r e in omega (arith, ok.high, ok.most)

  -- each sample is one of its nodes
  pub valid_low : n < nodes r
  valid_low = (known_valid n r e).low

  pub valid_most : n ≤ most_samples
  valid_most = (known_valid n r e).most
