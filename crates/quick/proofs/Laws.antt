-- What checks 5 to 8 leave to 9 and 10. Assumes nothing.
use Prim.Native.Nat.{ℕ, ◌≤◌}
use mathlib.Core.Path.{◌≡◌}
use mathlib.Core.List.{List}
use native.Mathlib.Omega.{arith}
use lib.ListN.{length}
use Rattle.trees.specs.Checks.{accepted, ◌⊳◌, fewest_samples, most_samples, row_words, word_checks}
use Rattle.judge.proofs.Laws.{words_nodes, words_closed}
use Rattle.quick.specs.Layout.{LaidOut}

pub laid_out : (n : ℕ) (row : List ℕ) → accepted ≡ word_checks n row ⊳ accepted → fewest_samples ≤ n → n ≤ most_samples → length row ≡ row_words n
    → LaidOut row
laid_out n row e h k l =
    let w = words_nodes n row e h l in
    record { words = w; fits = omega arith; closed = words_closed n row e }
