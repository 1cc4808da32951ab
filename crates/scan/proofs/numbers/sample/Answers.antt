-- `scan::numbers::sample` has read the digits up to i, and as many more may come as places are left. Assumes nothing.
use Rattle.std.specs.Prelude.{ℕ, ◌-◌, ◌≡◌, true}
use Rattle.std.proofs.Common.{sym, ap, ◌∙◌, arith}
use Rattle.newick.specs.Bytes.{nought_byte, is_digit}
use Rattle.newick.proofs.ByteLaws.{digit_range}
use Rattle.scan.specs.ScanningLaws.{sample_nought, sample_first, sampling_small, sampling_on, sampling_ends, sampling_full}
use Rattle.scan.proofs.numbers.sample.Goals.{Else-not-is_ascii_digit}
use Rattle.scan.proofs.numbers.sample.Goals as goal

-- the byte that the loop looks at is a digit
is_one : (c : Else-not-is_ascii_digit) → is_digit c.look-b.result ≡ true
is_one c = sym c.if-not-is_ascii_digit.ensures.value

pub returns-then-value-eq0 : goal.returns-then-value-eq0
returns-then-value-eq0 c =
    sample_nought _ _ _ c.requires.0 c.requires.1 (c.digit-value.ensures ∙ ap (λ (b : ℕ). b - nought_byte) c.look.ensures) c.if-value-eq0.true

pub loop-i-init : goal.loop-i-init
loop-i-init c =
    sample_first _ _ _ c.requires.0 c.requires.1 (c.digit-value.ensures ∙ ap (λ (b : ℕ). b - nought_byte) c.look.ensures) _ (omega arith)
    c.if-value-eq0.false

pub returns-then-not-is_ascii_digit : goal.returns-then-not-is_ascii_digit
returns-then-not-is_ascii_digit c =
    sampling_ends _ _ _ _ _ c.loop-i.invariant (ap is_digit (sym c.look-b.ensures) ∙ sym c.if-not-is_ascii_digit.ensures.value)

pub overflow_mul-value : goal.overflow_mul-value
overflow_mul-value c = omega (arith, sampling_small _ _ _ _ _ c.loop-i.invariant)

pub overflow_add-value : goal.overflow_add-value
overflow_add-value c =
    omega (
      arith,
      sampling_small _ _ _ _ _ c.loop-i.invariant,
      digit_range c.look-b.result (is_one (goal.at.overflow_add-value c).Else-not-is_ascii_digit),
    )

pub loop-i-preserved : goal.loop-i-preserved
loop-i-preserved c =
    sampling_on _ _ _ _ _ c.loop-i.invariant _ _ _ (omega arith) (omega arith)
    (ap is_digit (sym c.look-b.ensures) ∙ is_one (goal.at.loop-i-preserved c).Else-not-is_ascii_digit)
    (c.digit.ensures ∙ ap (λ (b : ℕ). b - nought_byte) c.look-b.ensures)

pub returns : goal.returns
returns c = sampling_full _ _ _ _ _ c.loop-i.invariant _ (omega arith) (omega arith)
