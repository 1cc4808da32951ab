-- Laws of the kinds of bytes. Assumes nothing.
use Rattle.std.specs.Prelude.{ℕ, zero, suc, ◌-◌, ◌≤◌, ◌≡◌, refl, Bool, true, false, eqb, leb}
use Rattle.std.proofs.Common.{arith, eqb-true, leb-true, ne_eqb}
use Rattle.trees.proofs.BoolLaws.{and_l, and_r}
use Rattle.newick.specs.Tree.{Stack}
use Rattle.newick.specs.Bytes.{closing_byte, colon_byte, comma_byte, nine_byte, nought_byte, opening_byte, point_byte, semicolon_byte}
use Rattle.newick.specs.Bytes.{Kind, kind_of, either, is_blank, is_digit}
use Rattle.newick.specs.Bytes.Kind.{blank, left, right, comma, semicolon, colon, dot, other, digit}
use Rattle.newick.specs.Grammar.{most_digits}
use Rattle.newick.specs.Walk.{begun}
use Rattle.newick.specs.Walk.State.{sample}

-- what is true of each kind of byte, where its test holds, is true of the byte's kind
either_elim : (q : Kind → Type 0) (x : Bool) (a c : Kind) → (x ≡ true → q a) → (x ≡ false → q c) → q (either x a c)
either_elim q true a c f g = f refl
either_elim q false a c f g = g refl

pub kind_all : (q : Kind → Type 0) (b : ℕ) → (is_blank b ≡ true → q blank) → (is_digit b ≡ true → q (digit (b - nought_byte)))
    → (b ≡ opening_byte → q left)
    → (b ≡ closing_byte → q right)
    → (b ≡ comma_byte → q comma) → (b ≡ semicolon_byte → q semicolon) → (b ≡ colon_byte → q colon) → (b ≡ point_byte → q dot) → q other
    → q (kind_of b)
unfolding kind_of
kind_all q b f1 f2 f3 f4 f5 f6 f7 f8 f9 =
    either_elim q (is_blank b) _ _ f1 (λ n1. either_elim q (is_digit b) _ _ f2
    (λ n2. either_elim q (eqb b opening_byte) _ _ (λ e. f3 (eqb-true b opening_byte e))
    (λ n3. either_elim q (eqb b closing_byte) _ _ (λ e. f4 (eqb-true b closing_byte e))
    (λ n4. either_elim q (eqb b comma_byte) _ _ (λ e. f5 (eqb-true b comma_byte e))
    (λ n5. either_elim q (eqb b semicolon_byte) _ _ (λ e. f6 (eqb-true b semicolon_byte e))
    (λ n6. either_elim q (eqb b colon_byte) _ _ (λ e. f7 (eqb-true b colon_byte e))
    (λ n7. either_elim q (eqb b point_byte) _ _ (λ e. f8 (eqb-true b point_byte e)) (λ n8. f9))))))))

pub kind_blank : (b : ℕ) → is_blank b ≡ true → kind_of b ≡ blank
unfolding kind_of
kind_blank b e = rw e

-- a digit's value
pub digit_range : (b : ℕ) → is_digit b ≡ true → (nought_byte ≤ b) × (b ≤ nine_byte)
digit_range b e = (
  leb-true nought_byte b (and_l (leb nought_byte b) (leb b nine_byte) e),
  leb-true b nine_byte (and_r (leb nought_byte b) (leb b nine_byte) e),
)

-- a digit is no blank
pub digit_no_blank : (b : ℕ) → is_digit b ≡ true → is_blank b ≡ false
digit_no_blank b e =
    let h = (digit_range b e).0 in
    rw (ne_eqb b 32 (λ d. omega arith), ne_eqb b 9 (λ d. omega arith), ne_eqb b 13 (λ d. omega arith), ne_eqb b 10 (λ d. omega arith))

pub kind_digit : (b : ℕ) → is_digit b ≡ true → kind_of b ≡ digit (b - nought_byte)
unfolding kind_of
kind_digit b e = rw (digit_no_blank b e, e)

pub begun_zero : (k : Stack) → begun k 0 ≡ sample k 0 0
unfolding begun
begun_zero k = refl

pub begun_other : (f : ℕ) (k : Stack) → (f ≡ 0 → ⊥) → begun k f ≡ sample k f (most_digits - 1)
unfolding begun
begun_other zero k n = absurd (n refl)
begun_other (suc f) k n = refl
