-- Where an identifier stands among the slots, and the words with a slot put in or closed up.
use Rattle.std.specs.Prelude.{ℕ, suc, ◌+◌, ◌-◌, ◌≤◌, ◌<◌, ◌≡◌, List, ◌++◌, length, get_or, take, drop, set}
use Rattle.std.proofs.Math.Seq.{slice}
use Rattle.trees.specs.Lists.{zeros}
use Rattle.runs.specs.Words.{samples, in_force, in_force_at, slot_words, slot_start}

-- the identifier in slot i
abbrev pub identifier_at : List ℕ → ℕ → ℕ
identifier_at w i = get_or w (slot_start (samples w) i) 0

-- slot i has the identifier d
pub record StandsAt (w : List ℕ) (d i : ℕ) : Type 0 where
  pub slot : i < in_force w
  pub here : identifier_at w i ≡ d

-- the slots before i have smaller identifiers than d, and slot i, if there is one, a higher
pub record GoesBefore (w : List ℕ) (d i : ℕ) : Type 0 where
  pub slot : i ≤ in_force w
  pub lower : (j : ℕ) → j < i → identifier_at w j < d
  pub higher : i < in_force w → d < identifier_at w i

-- words put in at f; those from there up to t moved up by as many places
abbrev pub put_at : List ℕ → ℕ → ℕ → List ℕ → List ℕ
put_at w f t new = take f w ++ (new ++ (slice f t w ++ drop (t + length new) w))

-- s words at f taken out; those after them up to t moved down, then s zeros
abbrev pub close_at : List ℕ → ℕ → ℕ → ℕ → List ℕ
close_at w f t s = take f w ++ (slice (f + s) t w ++ (zeros s ++ drop t w))

-- a slot put in before slot i, and the count
abbrev pub slot_put : List ℕ → ℕ → List ℕ → List ℕ
slot_put w i new = set (put_at w (slot_start (samples w) i) (slot_start (samples w) (in_force w)) new) in_force_at (suc (in_force w))

-- slot i closed up, and the count
abbrev pub slot_closed : List ℕ → ℕ → List ℕ
slot_closed w i = set (close_at w (slot_start (samples w) i) (slot_start (samples w) (in_force w)) (slot_words (samples w))) in_force_at (in_force w - 1)
