-- A decimal is read back as its number, has no zero in front, and how long it is. Assumes nothing.
use Rattle.std.specs.Prelude.{ℕ, zero, suc, ◌+◌, ◌-◌, ◌*◌, ◌/◌, ◌%◌, ◌^◌, ◌≤◌, ◌<◌, ◌≡◌, refl, ◌⊎◌, List, [], ◌∷◌, ◌++◌, true, false, ltb, length, get_or}
use Rattle.std.proofs.Common.{sym, ap, ◌∙◌, inl, inr, pow-suc, arith, length-append, lt-ltb, le-ltb, ltb-true, ltb-false}
use Rattle.std.proofs.Math.ListN.{get_or-append}
use Rattle.trees.proofs.BoolLaws.{decide}
use Rattle.ascii.specs.Decimal.{digit, digits, decimal, value_after, value}

-- ---- one digit, or those of the tenth and one more

digits_small : (f x : ℕ) → x < 10 → digits (suc f) x ≡ (digit x ∷ [])
unfolding digits
digits_small f x h = rw (lt-ltb x 10 h)

digits_step : (f x : ℕ) → 10 ≤ x → digits (suc f) x ≡ digits f (x / 10) ++ (digit (x % 10) ∷ [])
unfolding digits
digits_step f x h = rw (le-ltb x 10 h)

digits_enough : (f g x : ℕ) → x < f → x < g → digits f x ≡ digits g x
digits_enough zero g x h k = absurd (omega arith)
digits_enough (suc f) zero x h k = absurd (omega arith)
digits_enough (suc f) (suc g) x h k = go (decide (ltb x 10)) (λ l. digits_enough f g (x / 10) (omega arith) (omega arith))
  where
    go : (ltb x 10 ≡ true) ⊎ (ltb x 10 ≡ false) → (10 ≤ x → digits f (x / 10) ≡ digits g (x / 10)) → digits (suc f) x ≡ digits (suc g) x
    go (inl e) k = digits_small f x (ltb-true x 10 e) ∙ sym (digits_small g x (ltb-true x 10 e))
    go (inr e) k = let l : 10 ≤ x = ltb-false x 10 e in digits_step f x l ∙ ap (λ (ds : List ℕ). ds ++ (digit (x % 10) ∷ [])) (k l) ∙ sym (digits_step g x l)

pub decimal_small : (x : ℕ) → x < 10 → decimal x ≡ (digit x ∷ [])
unfolding decimal
decimal_small x h = digits_small x x h

pub decimal_step : (x : ℕ) → 10 ≤ x → decimal x ≡ decimal (x / 10) ++ (digit (x % 10) ∷ [])
unfolding decimal
decimal_step x h = digits_step x x h ∙ ap (λ (ds : List ℕ). ds ++ (digit (x % 10) ∷ [])) (digits_enough x (suc (x / 10)) (x / 10) (omega arith) (omega arith))

module _ (P : ℕ → Type 0) (small : (x : ℕ) → x < 10 → P x) (step : (x : ℕ) → 10 ≤ x → P (x / 10) → P x) where
  pub by_tenths : (f x : ℕ) → x < f → P x
  by_tenths zero x h = absurd (omega arith)
  by_tenths (suc f) x h = go (decide (ltb x 10)) (λ l. by_tenths f (x / 10) (omega arith))
    where
      go : (ltb x 10 ≡ true) ⊎ (ltb x 10 ≡ false) → (10 ≤ x → P (x / 10)) → P x
      go (inl e) k = small x (ltb-true x 10 e)
      go (inr e) k = step x (ltb-false x 10 e) (k (ltb-false x 10 e))

-- ---- one reading

value_snoc : (a : ℕ) (ds : List ℕ) (d : ℕ) → value_after a (ds ++ (d ∷ [])) ≡ value_after a ds * 10 + (d - digit 0)
unfolding value_after
value_snoc a [] d = refl
value_snoc a (e ∷ ds) d = value_snoc (a * 10 + (e - digit 0)) ds d

-- the decimal of a number is read back as the number
pub value_decimal : (x : ℕ) → value (decimal x) ≡ x
unfolding value_after
value_decimal x = by_tenths (λ y. value (decimal y) ≡ y)
    (λ y h. rw (decimal_small y h) (omega arith))
    (λ y h e. rw (decimal_step y h, value_snoc 0 (decimal (y / 10)), e) (omega arith))
    (suc x) x (omega arith)

-- two numbers with one decimal are the same
pub decimal_injective : (x y : ℕ) → decimal x ≡ decimal y → x ≡ y
decimal_injective x y e = sym (value_decimal x) ∙ ap value e ∙ value_decimal y

-- ---- length, and the digit in front

pub decimal_full : (x : ℕ) → 1 ≤ length (decimal x)
decimal_full x = by_tenths (λ y. 1 ≤ length (decimal y))
    (λ y h. rw (decimal_small y h) (omega arith))
    (λ y h e. rw (decimal_step y h, length-append) (omega arith))
    (suc x) x (omega arith)

-- one digit more than its tenth
pub decimal_longer : (x : ℕ) → 10 ≤ x → length (decimal x) ≡ length (decimal (x / 10)) + 1
decimal_longer x h = ap length (decimal_step x h) ∙ length-append (decimal (x / 10)) (digit (x % 10) ∷ [])

-- no zero in front, but of 0
pub decimal_front : (x : ℕ) → 1 ≤ x → get_or (decimal x) 0 0 ≡ digit 0 → ⊥
decimal_front x = by_tenths (λ y. 1 ≤ y → get_or (decimal y) 0 0 ≡ digit 0 → ⊥)
    (λ y h k q. omega (arith, rw (decimal_small y h) at q))
    (λ y h e k q. e (omega arith) (rw (decimal_step y h, get_or-append (decimal (y / 10)) (digit (y % 10) ∷ []) 0 0 (decimal_full (y / 10))) at q))
    (suc x) x (omega arith)

-- a number below 10 to the k has at most k digits
pub decimal_long : (k x : ℕ) → x < 10 ^ suc k → length (decimal x) ≤ suc k
decimal_long zero x h = rw (decimal_small x (omega (arith, rw pow-suc at h))) (omega arith)
decimal_long (suc k) x h = go (decide (ltb x 10)) (decimal_long k (x / 10))
  where
    go : (ltb x 10 ≡ true) ⊎ (ltb x 10 ≡ false) → (x / 10 < 10 ^ suc k → length (decimal (x / 10)) ≤ suc k) → length (decimal x) ≤ suc (suc k)
    go (inl e) r = rw (decimal_small x (ltb-true x 10 e)) (omega arith)
    go (inr e) r = rw (decimal_step x (ltb-false x 10 e), length-append) (omega (arith, r (omega (arith, pow-suc 10 (suc k)))))

-- of 64 bits
pub decimal_short : (x : ℕ) → x < 2 ^ 64 → length (decimal x) ≤ 20
decimal_short x h = decimal_long 19 x (omega arith)
