-- What it means that a text is put into a buffer, and that a line is written.
use Rattle.std.specs.Prelude.{ℕ, ◌+◌, ◌≡◌, List, length, take, drop}
use Rattle.std.proofs.lemmas.List.Edits.{sets}

-- A text stands in a buffer from a place on, nothing else of it has changed, and r is the place after the text.
pub record Put (text before : List ℕ) (at : ℕ) (after : List ℕ) (r : ℕ) : Type 0 where
  pub bytes : after ≡ sets before at text
  pub place : r ≡ at + length text

-- A line is the first r bytes of a buffer, and after it nothing has changed.
pub record Written (line before after : List ℕ) (r : ℕ) : Type 0 where
  pub long : r ≡ length line
  pub front : take r after ≡ line
  pub rest : drop r after ≡ drop r before
