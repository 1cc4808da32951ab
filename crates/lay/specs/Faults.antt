-- Check 18 of a text (RULES 14), as what a reading keeps tells it.
use Rattle.std.specs.Prelude.{ℕ, Bool, cond, not, List, eqb, ltb, get_or, Option, None, Some}
use Rattle.trees.specs.Lists.{Place, nowhere, at, range, first}
use Rattle.trees.specs.Checks.{Check, most_samples}
use Rattle.lay.specs.declared.tables.Standing.{Standing}
use Rattle.lay.specs.declared.tables.Standing.TheVariants.{Never, Once, Repeated}

-- the first place, or else another
abbrev pub or_at : Place → Place → Place
or_at nowhere q = q
or_at (at p) q = at p

-- a number, where there is one
abbrev pub place_of : Option ℕ → Place
place_of None = nowhere
place_of (Some m) = at m

-- how often a number has to stand, of n samples
abbrev pub due : ℕ → ℕ → ℕ
due n x = cond (ltb x n) 1 0

-- how often a number stands, as its mark tells it: 2 for more than once
abbrev pub told_by : Standing → ℕ
told_by Never = 0
told_by Once = 1
told_by Repeated = 2

-- whether the mark of a number tells otherwise
abbrev pub bad_mark : ℕ → List Standing → ℕ → Bool
bad_mark n marks x = not (eqb (told_by (get_or marks x Never)) (due n x))

-- check 18: the lowest number whose mark is bad, or else the lowest that is too large to have a mark
abbrev pub mark_check : ℕ → List Standing → Option ℕ → Check
mark_check n marks large =
    record { number = 18; fault = or_at (first (bad_mark n marks) (range 0 most_samples)) (place_of large) }
