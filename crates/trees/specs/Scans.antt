-- A scan that is to find nothing.
use Rattle.std.specs.Prelude.{ℕ, Bool, true, false}
use Rattle.trees.specs.Lists.{Place, nowhere, at, range, first}

abbrev pub is_nowhere : Place → Bool
is_nowhere nowhere = true
is_nowhere (at p) = false

-- whether no number from a to below b passes a test
abbrev pub never : (ℕ → Bool) → ℕ → ℕ → Bool
never t a b = is_nowhere (first t (range a b))
