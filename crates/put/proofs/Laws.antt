-- What the loops keep that put a text or a number into a buffer. Assumes nothing.
use Prim.Native.Nat.{ℕ, ◌+◌, ◌-◌, ◌/◌, ◌%◌, ◌≤◌, ◌<◌}
use mathlib.Core.Path.{◌≡◌, refl, sym, ap, ◌∙◌}
use mathlib.Core.Logic.{⊎_elim}
use mathlib.Core.List.{List, [], ◌∷◌, ◌++◌}
use native.Mathlib.Omega.{arith}
use native.Mathlib.Numerals.{add-one}
use lib.ListN.{length, get_or, drop, set}
use lib.Seq.{sets, sets-eq, drop-cons, drop-drop}
use Rattle.std.proofs.Common.{append_assoc}
use Rattle.std.proofs.lemmas.Bool.{cases_lt}
use borrow.Rule.Slice.PartMut.{put_mid}
use Rattle.ascii.specs.Decimal.{digit, decimal}
use Rattle.ascii.specs.DecimalLaws.{decimal_small, decimal_step, decimal_longer, decimal_full}
use Rattle.put.specs.Writing.{Put}
use Rattle.put.specs.WritingLaws.{sets_append, sets_set, put_none, put_then, put_length}

-- What is left of a text, put from here on, puts the whole of it from where it began.
pub record Left (rest out : List ℕ) (at : ℕ) (text out₀ : List ℕ) (at₀ : ℕ) : Type 0 where
  pub puts : (m : List ℕ) (r : ℕ) → Put rest out at m r → Put text out₀ at₀ m r
  pub long : length out ≡ length out₀

pub left_start : {text out : List ℕ} {at : ℕ} → Left text out at text out at
left_start = record { puts = λ m r p. p; long = refl }

module _ {text out₀ out : List ℕ} {at at₀ : ℕ} where
  pub left_put : {a out' : List ℕ} {at' : ℕ} (rest : List ℕ) → Left (a ++ rest) out at text out₀ at₀ → Put a out at out' at' → Left rest out' at' text out₀ at₀
  left_put rest l p = record { puts = λ m r q. l.puts m r (put_then p q); long = put_length p ∙ l.long }

  pub left_end : Left [] out at text out₀ at₀ → Put text out₀ at₀ out at
  left_end l = l.puts out at put_none

pub drop_next : (xs : List ℕ) (i : ℕ) → i < length xs → drop i xs ≡ get_or xs i 0 ∷ drop (i + 1) xs
drop_next xs i h = drop-cons xs i 0 h ∙ ap (λ (j : ℕ). get_or xs i 0 ∷ drop j xs) (sym (add-one i))

-- a text copied over as many bytes
pub put_copied : (text out part : List ℕ) (at : ℕ) → at + length text ≤ length out → part ≡ text
    → Put text out at (put_mid at (at + length text - at) out part) (at + length text)
put_copied text out part at h e =
    let l : at + length text - at ≡ length text = omega arith in
    record { bytes = rw (e, l, sets-eq text out at h, drop-drop, append_assoc); place = refl }

-- The digits of the rest, stored from at on, make the digits of x; the last of them belongs before i.
pub record DigitsLeft (x at : ℕ) (out₀ : List ℕ) (i rest : ℕ) (out : List ℕ) : Type 0 where
  pub whole : sets out at (decimal rest) ≡ sets out₀ at (decimal x)
  pub place : i ≡ at + length (decimal rest)
  pub inside : i ≤ at + length (decimal x)

-- Until the first digit is stored some are left; then all of them are.
pub record DigitsFrom (x at : ℕ) (out₀ : List ℕ) (i rest : ℕ) (out : List ℕ) : Type 0 where
  pub low : at ≤ i
  pub left : at < i → DigitsLeft x at out₀ i rest out
  pub all : i ≡ at → out ≡ sets out₀ at (decimal x)

pub digits_start : {x at i : ℕ} {out : List ℕ} → i ≡ at + length (decimal x) → DigitsFrom x at out i x out
digits_start {x} e = record {
  low = omega arith;
  left = λ h. record { whole = refl; place = e; inside = omega arith };
  all = λ q. absurd (omega (arith, decimal_full x));
}

module _ {x at i rest : ℕ} {out₀ out : List ℕ} (from : DigitsFrom x at out₀ i rest out) (h : at < i) where
  -- a digit in front of which there are more
  digits_more : 10 ≤ rest → DigitsFrom x at out₀ (i - 1) (rest / 10) (set out (i - 1) (digit (rest % 10)))
  digits_more k =
      let l = from.left h in
      let ds : List ℕ = decimal (rest / 10) in
      let e : decimal rest ≡ ds ++ (digit (rest % 10) ∷ []) = decimal_step rest k in
      let p : i - 1 ≡ at + length ds = omega (arith, l.place, decimal_longer rest k) in
      record {
        low = omega arith;
        left = λ _. record {
          whole = sets_set out at ds (i - 1) (digit (rest % 10)) (omega arith)
              ∙ ap (λ (j : ℕ). set (sets out at ds) j (digit (rest % 10))) p ∙ sym (sets_append out at ds (digit (rest % 10) ∷ []))
              ∙ (rw e at l.whole);
          place = p;
          inside = omega (arith, l.inside);
        };
        all = λ q. absurd (omega (arith, decimal_full (rest / 10)));
      }

  -- the first digit
  digits_last : rest < 10 → DigitsFrom x at out₀ (i - 1) (rest / 10) (set out (i - 1) (digit (rest % 10)))
  digits_last k =
      let l = from.left h in
      let e : decimal rest ≡ (digit rest ∷ []) = decimal_small rest k in
      let p : i - 1 ≡ at = omega (arith, l.place, ap length e) in
      let d : rest % 10 ≡ rest = omega arith in
      record {
        low = omega arith;
        left = λ q. absurd (omega arith);
        all = λ _. rw (p, d) (rw e at l.whole);
      }

  pub digits_next : DigitsFrom x at out₀ (i - 1) (rest / 10) (set out (i - 1) (digit (rest % 10)))
  digits_next = ⊎_elim (λ k. digits_last k) (λ k. digits_more k) (cases_lt rest 10)
