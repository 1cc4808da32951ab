-- A decimal is a sample of the form, and a run of digits with its number. Assumes nothing.
use Rattle.std.specs.Prelude.{ℕ, suc, ◌+◌, ◌-◌, ◌*◌, ◌%◌, ◌≤◌, ◌<◌, ◌≡◌, refl, ◌⊎◌, List, [], ◌∷◌, ◌++◌, Bool, true, false, eqb, leb, length}
use Rattle.std.proofs.Common.{ap, subst, ◌∙◌, inl, inr, arith, le-leb, eqb-true}
use Rattle.std.proofs.lemmas.Bool.{eqb-false}
use Rattle.trees.proofs.BoolLaws.{decide, and_both}
use Rattle.ascii.specs.Decimal.{digit, decimal, value_after}
use Rattle.ascii.specs.DecimalLaws.{by_tenths, decimal_small, decimal_step, value_decimal, decimal_full, decimal_front, decimal_long}
use Rattle.newick.specs.Tree.Mark.{marked}
use Rattle.newick.specs.Bytes.{nine_byte, nought_byte}
use Rattle.newick.specs.Bytes.{is_digit}
use Rattle.newick.specs.Grammar.{All, Sample, Support}
use Rattle.newick.specs.Grammar.All.{none, and}

is_digit_lem : (d : ℕ) → d < 10 → is_digit (digit d) ≡ true
is_digit_lem d h = and_both (leb nought_byte (nought_byte + d)) (leb (nought_byte + d) nine_byte)
    (le-leb nought_byte (nought_byte + d) (omega arith)) (le-leb (nought_byte + d) nine_byte (omega arith))

pub all_snoc : (t : ℕ → Bool) {l : List ℕ} (b : ℕ) → t b ≡ true → All t l → All t (l ++ (b ∷ []))
all_snoc t b e none = and b [] e none
all_snoc t b e (and c l d a) = and c (l ++ (b ∷ [])) d (all_snoc t b e a)

decimal_all : (x : ℕ) → All is_digit (decimal x)
decimal_all x = by_tenths (λ y. All is_digit (decimal y))
    (λ y h. rw (decimal_small y h) (and (digit y) [] (is_digit_lem y h) none))
    (λ y h a. rw (decimal_step y h) (all_snoc is_digit (digit (y % 10)) (is_digit_lem (y % 10) (omega arith)) a))
    (suc x) x (omega arith)

-- the digits of x: one or more, of value x
pub record Numeral (ds : List ℕ) (x : ℕ) : Type 0 where
  pub head : ℕ
  pub rest : List ℕ
  pub split : ds ≡ head ∷ rest
  pub one : is_digit head ≡ true
  pub all : All is_digit rest
  pub worth : value_after (head - nought_byte) rest ≡ x

numeral_of : (ds : List ℕ) (x : ℕ) → All is_digit ds → 1 ≤ length ds → value_after 0 ds ≡ x → Numeral ds x
unfolding value_after
numeral_of ds x none h e = absurd (omega arith)
numeral_of ds x (and b l d a) h e = record {
  head = b;
  rest = l;
  split = refl;
  one = d;
  all = a;
  worth =
      ap (λ (z : ℕ). value_after z l) (let z : b - nought_byte ≡ 10 * 0 + (b - nought_byte) = omega arith in z) ∙ e;
}

pub decimal_numeral : (x : ℕ) → Numeral (decimal x) x
decimal_numeral x = numeral_of (decimal x) x (decimal_all x) (decimal_full x) (value_decimal x)

-- a decimal after a closing bracket
pub decimal_support : (x : ℕ) → Support (decimal x) (marked x)
decimal_support x =
    let d = decimal_numeral x in
    subst (λ (y : ℕ). Support (decimal x) (marked y)) d.worth
    (rw d.split (Support.supported [] d.head d.rest none d.one d.all))

-- a decimal of five digits at most is a sample
pub decimal_sample : (x : ℕ) → x < 100000 → Sample (decimal x) x
decimal_sample x h = go (decide (eqb x 0))
  where
    go : (eqb x 0 ≡ true) ⊎ (eqb x 0 ≡ false) → Sample (decimal x) x
    go (inl e) = rw (eqb-true x 0 e, decimal_small 0 (omega arith)) Sample.nought
    go (inr e) =
        let d = decimal_numeral x in
        let l = rw d.split at (decimal_long 4 x (omega arith)) in
        let f : d.head ≡ nought_byte → ⊥ = λ q. decimal_front x (omega (arith, eqb-false x 0 e)) (rw d.split q) in
        subst (λ (y : ℕ). Sample (decimal x) y) d.worth (rw d.split
        (Sample.numeral d.head d.rest d.one f d.all (omega arith)))
