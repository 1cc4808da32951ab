-- A number in decimal.
use Rattle.std.specs.Prelude.{ℕ, zero, suc, ◌+◌, ◌-◌, ◌*◌, ◌/◌, ◌%◌, List, [], ◌∷◌, ◌++◌, cond, ltb}

-- the byte of a digit, in ASCII
abbrev pub digit : ℕ → ℕ
digit d = 48 + d

-- the digits of x, of which there are at most f
unfoldable pub digits : ℕ → ℕ → List ℕ
digits zero x = []
digits (suc f) x = cond (ltb x 10) (digit x ∷ []) (digits f (x / 10) ++ (digit (x % 10) ∷ []))

-- a number in decimal, with no zeros in front (`decimal_front`): of x there are at most x + 1 digits
unfoldable pub decimal : ℕ → List ℕ
decimal x = digits (suc x) x

-- the number that digits stand for, after those of a
unfoldable pub value_after : ℕ → List ℕ → ℕ
value_after a [] = a
value_after a (d ∷ ds) = value_after (a * 10 + (d - digit 0)) ds

-- the number that digits stand for: that of `decimal x` is x (`value_decimal`)
abbrev pub value : List ℕ → ℕ
value ds = value_after 0 ds
