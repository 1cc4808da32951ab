-- The bytes of a Newick text, and their kinds (RULES 14.2 to 14.5).
use Rattle.std.specs.Prelude.{ℕ, ◌-◌, Bool, true, false, ◌&&◌, ◌||◌, eqb, leb}

-- the bytes by name, in ASCII: ( ) , ; : . and the digits 0 to 9
abbrev pub opening_byte : ℕ
opening_byte = 40

abbrev pub closing_byte : ℕ
closing_byte = 41

abbrev pub comma_byte : ℕ
comma_byte = 44

abbrev pub semicolon_byte : ℕ
semicolon_byte = 59

abbrev pub colon_byte : ℕ
colon_byte = 58

abbrev pub point_byte : ℕ
point_byte = 46

abbrev pub nought_byte : ℕ
nought_byte = 48

abbrev pub nine_byte : ℕ
nine_byte = 57

pub data Kind : Type 0 where
  blank left right comma semicolon colon dot other : Kind
  digit : ℕ → Kind

-- a space, a tab, a carriage return or a line feed (RULES 14.5)
abbrev pub is_blank : ℕ → Bool
is_blank b = eqb b 32 || eqb b 9 || eqb b 13 || eqb b 10

abbrev pub is_digit : ℕ → Bool
is_digit b = leb nought_byte b && leb b nine_byte

abbrev pub either : Bool → Kind → Kind → Kind
either true a b = a
either false a b = b

-- the kind of a byte; no text of the form has a byte of the kind `other`
unfoldable pub kind_of : ℕ → Kind
kind_of b =
    either (is_blank b) blank
    (either (is_digit b) (digit (b - nought_byte))
    (either (eqb b opening_byte) left
    (either (eqb b closing_byte) right
    (either (eqb b comma_byte) comma
    (either (eqb b semicolon_byte) semicolon
    (either (eqb b colon_byte) colon
    (either (eqb b point_byte) dot other)))))))
