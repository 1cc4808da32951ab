-- What the search for a slot answers.
use Rattle.std.specs.Prelude.{ℕ, List, Bool, true, false, Result, Ok, Err}
use Rattle.runs.specs.Moves.{StandsAt, GoesBefore}

-- identifier d stands in slot i, or goes before it
abbrev pub Spotted : List ℕ → ℕ → ℕ → Bool → Type 0
Spotted w d i true = StandsAt w d i
Spotted w d i false = GoesBefore w d i

-- the slot in which identifier d stands, or, as an error, the slot before which it goes
abbrev pub Found : List ℕ → ℕ → Result ℕ ℕ → Type 0
Found w d (Ok i) = Spotted w d i true
Found w d (Err i) = Spotted w d i false
