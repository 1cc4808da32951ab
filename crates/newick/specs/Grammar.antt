-- Which texts are of the form, rule by rule (RULES 14.2 to 14.6), and the tree that each means (RULES 14.8). There is
-- no reading in it.
use Rattle.std.specs.Prelude.{ℕ, suc, ◌-◌, ◌≤◌, ◌≡◌, Bool, true, List, [], ◌∷◌, ◌++◌, length}
use Rattle.ascii.specs.Decimal.{value_after}
use Rattle.newick.specs.Tree.{Mark, Tree, Forest}
use Rattle.newick.specs.Tree.Mark.{unmarked, marked}
use Rattle.newick.specs.Tree.Tree.{leaf, pair}
use Rattle.newick.specs.Tree.Forest.{only, more}
use Rattle.newick.specs.Bytes.{opening_byte, closing_byte, comma_byte, semicolon_byte, colon_byte, point_byte, nought_byte}
use Rattle.newick.specs.Bytes.{is_blank, is_digit}

-- every byte passes the test
pub data All (t : ℕ → Bool) : List ℕ → Type 0 where
  none : All t []
  and : (b : ℕ) (l : List ℕ) → t b ≡ true → All t l → All t (b ∷ l)

-- blanks (RULES 14.5); digits, one or more
abbrev pub Blanks : List ℕ → Type 0
Blanks l = All is_blank l

pub data Digits : List ℕ → Type 0 where
  digits : (b : ℕ) (l : List ℕ) → is_digit b ≡ true → All is_digit l → Digits (b ∷ l)

-- a sample: 0, or one to five digits of which the first is not 0 (RULES 14.3)
abbrev pub most_digits : ℕ
most_digits = 5

pub data Sample : List ℕ → ℕ → Type 0 where
  nought : Sample (nought_byte ∷ []) 0
  numeral : (b : ℕ) (l : List ℕ) → is_digit b ≡ true → (b ≡ nought_byte → ⊥) → All is_digit l → length l ≤ most_digits - 1
      → Sample (b ∷ l) (value_after (b - nought_byte) l)

-- one more than the largest sample that can be written (`samples_small`)
abbrev pub sample_bound : ℕ
sample_bound = 100000

-- a length: digits, or digits on both sides of a point (RULES 14.4)
pub data Number : List ℕ → Type 0 where
  plain : (l : List ℕ) → Digits l → Number l
  pointed : (l m : List ℕ) → Digits l → Digits m → Number (l ++ (point_byte ∷ m))

-- what may stand behind a closing bracket: blanks, and a run of digits (RULES 14.4)
pub data Support : List ℕ → Mark → Type 0 where
  unsupported : (a : List ℕ) → Blanks a → Support a unmarked
  supported : (a : List ℕ) (b : ℕ) (l : List ℕ) → Blanks a → is_digit b ≡ true → All is_digit l
      → Support (a ++ (b ∷ l)) (marked (value_after (b - nought_byte) l))

-- what may stand behind a subtree: blanks, and a colon and a length with blanks around both (RULES 14.4)
pub data Length : List ℕ → Type 0 where
  lengthless : (a : List ℕ) → Blanks a → Length a
  lengthed : (a b c l : List ℕ) → Blanks a → Blanks b → Number l → Blanks c → Length (a ++ (colon_byte ∷ (b ++ (l ++ c))))

-- The bytes of a subtree, with at most d brackets open at once, and its tree; those of the subtrees of a pair, with a
-- comma between each two (RULES 14.2).
mutual
  pub data Subtree : ℕ → List ℕ → Tree → Type 0 where
    a_sample : (d : ℕ) (w a l m : List ℕ) (x : ℕ) → w ≡ a ++ (l ++ m) → Blanks a → Sample l x → Length m
        → Subtree d w (leaf x)
    a_pair : (d : ℕ) (w a l s m : List ℕ) (f : Forest) (μ : Mark)
        → w ≡ a ++ (opening_byte ∷ (l ++ (closing_byte ∷ (s ++ m))))
        → Blanks a → Subtrees d l f → Support s μ → Length m → Subtree (suc d) w (pair f μ)

  pub data Subtrees : ℕ → List ℕ → Forest → Type 0 where
    one : (d : ℕ) (l : List ℕ) (t : Tree) → Subtree d l t → Subtrees d l (only t)
    parted : (d : ℕ) (w l m : List ℕ) (f : Forest) (t : Tree) → w ≡ l ++ (comma_byte ∷ m)
        → Subtrees d l f → Subtree d m t → Subtrees d w (more f t)

-- how many brackets are open at once, at most (RULES 14.6)
abbrev pub most_open : ℕ
most_open = 511

-- A text of the form, and its tree: one subtree and a semicolon, with blanks behind it (RULES 14.2).
pub data Text : List ℕ → Tree → Type 0 where
  a_text : (l a : List ℕ) (t : Tree) → Subtree most_open l t → Blanks a → Text (l ++ (semicolon_byte ∷ a)) t

-- a text of the form, whatever its tree is
abbrev pub OfForm : List ℕ → Type 0
OfForm l = (t : Tree) × Text l t
