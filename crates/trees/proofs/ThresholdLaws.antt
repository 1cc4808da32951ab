-- What a threshold stands for: 0 for the default, any other number for itself; and which are in range. Assumes nothing.
use Rattle.std.specs.Prelude.{ℕ, zero, suc, ◌≤◌, ◌<◌, ◌≡◌, refl, ◌↔◌, ◌⊎◌}
use Rattle.std.proofs.Common.{sym, ap, ◌∙◌, inl, inr, arith, ne_eqb}
use Rattle.trees.specs.Thresholds.{InRange, threshold}

-- 0 stands for 50 (RULES 5.8)
pub threshold_default : threshold 0 ≡ 50
unfolding threshold
threshold_default = omega arith

-- and every other number for itself
pub threshold_named : (p : ℕ) → 0 < p → threshold p ≡ p
unfolding threshold
threshold_named p h = rw (ne_eqb p 0 (λ e. omega arith))

-- what is stood for is above 0, so it stands for itself
pub threshold_again : (p : ℕ) → threshold (threshold p) ≡ threshold p
threshold_again zero = ap threshold threshold_default ∙ threshold_named 50 (omega arith) ∙ sym threshold_default
threshold_again (suc p) = ap threshold (threshold_named (suc p) (omega arith))

-- the default is in range
pub threshold_fits : InRange (threshold 0)
threshold_fits = rw threshold_default (omega arith, omega arith)

-- 0 and 50 to 100 stand for thresholds in range, and nothing else does (RULES 5.7)
pub threshold_range : (p : ℕ) → InRange (threshold p) ↔ ((p ≡ 0) ⊎ ((50 ≤ p) × (p ≤ 100)))
threshold_range p = (to p, from p)
  where
    to : (q : ℕ) → InRange (threshold q) → (q ≡ 0) ⊎ ((50 ≤ q) × (q ≤ 100))
    to zero h = inl refl
    to (suc q) h = let t = rw (threshold_named (suc q) (omega arith)) at h in inr (omega (arith, t.0), omega (arith, t.1))

    from : (q : ℕ) → (q ≡ 0) ⊎ ((50 ≤ q) × (q ≤ 100)) → InRange (threshold q)
    from q (inl e) = rw e threshold_fits
    from q (inr h) = rw (threshold_named q (omega (arith, h.0))) (omega (arith, h.0), omega (arith, h.1))
