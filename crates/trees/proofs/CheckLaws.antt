-- The tests behind the checks, taken apart, and the order of the checks. Assumes nothing.
use Rattle.std.specs.Prelude.{ℕ, ◌≤◌, ◌<◌, ◌≡◌, ◌↔◌, ◌⊎◌, List, [], ◌∷◌, true, false, ◌&&◌, eqb, ltb, leb}
use Rattle.std.proofs.Common.{zero-le, inl, inr, ⊎_elim, arith, eqb-true, ltb-true, ltb-false, leb-true, lt-ltb, le-ltb, le-leb}
use Rattle.std.proofs.Math.Path.{refl}
use Rattle.std.proofs.lemmas.Bool.{eqb-false, not-false}
use Rattle.trees.specs.Lists.{nowhere}
use Rattle.trees.specs.Rows.{nodes, parent, root_mark}
use Rattle.trees.specs.Checks.{fewest_samples, most_samples, outside, is_inner, stray, check1, check6, row_checks, judge_checks}
use Rattle.trees.proofs.BoolLaws.{and_l, and_r, or_cases, or_none}
use Rattle.trees.proofs.ListLaws.{first_nowhere}
use Rattle.trees.proofs.ChainLaws.{numbers, line_passes, line_pass}
use Rattle.trees.specs.Rows.{Closed}

-- ---- the order of the checks

module _ (n : ℕ) (r : List ℕ) where
  pub judged_numbers : numbers (judge_checks n r) ≡ (1 ∷ 3 ∷ 5 ∷ 6 ∷ 7 ∷ 8 ∷ 9 ∷ 10 ∷ [])
  unfolding judge_checks row_checks
  judged_numbers = refl

-- ---- the tests behind the checks

pub outside_not : (a b x : ℕ) → outside a b x ≡ false → (a ≤ x) × (x ≤ b)
outside_not a b x e = let t = or_none (ltb x a) (ltb b x) e in (ltb-false x a t.0, ltb-false b x t.1)

pub not_outside : (a b x : ℕ) → a ≤ x → x ≤ b → outside a b x ≡ false
not_outside a b x h k = rw (le-ltb x a h, le-ltb b x k)

-- check 1 in its own figures (RULES 1.1)
pub samples_exactly : (n : ℕ) → ((check1 n).fault ≡ nowhere) ↔ ((2 ≤ n) × (n ≤ 512))
samples_exactly n = (
  λ e. let t = outside_not fewest_samples most_samples n (line_passes 1 (outside fewest_samples most_samples n) e) in (omega (arith, t.0), omega (arith, t.1)),
  λ t. line_pass 1 (outside fewest_samples most_samples n) (not_outside fewest_samples most_samples n (omega (arith, t.0)) (omega (arith, t.1))),
)

pub inner_to : (n m p : ℕ) → is_inner n m p ≡ true → (n ≤ p) × (p < m)
inner_to n m p e = (leb-true n p (and_l (leb n p) (ltb p m) e), ltb-true p m (and_r (leb n p) (ltb p m) e))

pub inner_from : (n m p : ℕ) → n ≤ p → p < m → is_inner n m p ≡ true
inner_from n m p h k = rw (le-leb n p h, lt-ltb p m k)

-- what a node's parent is, where it is not wrong
pub stray_not : (n m v p : ℕ) → stray n m v p ≡ false → ((n ≤ p) × (p < m)) ⊎ ((n ≤ v) × (p ≡ root_mark))
stray_not n m v p e = ⊎_elim (λ a. inl (inner_to n m p a))
    (λ b. inr (leb-true n v (and_l (leb n v) (eqb p root_mark) b), eqb-true p root_mark (and_r (leb n v) (eqb p root_mark) b)))
    (or_cases (is_inner n m p) (leb n v && eqb p root_mark) (not-false _ e))

-- once check 6 is passed the parents of nodes are nodes
pub check6_closed : (n : ℕ) (r : List ℕ) → (check6 n r).fault ≡ nowhere → Closed (nodes r) r
check6_closed n r e v h q = ⊎_elim (λ a. a.1) (λ b. absurd (eqb-false (parent r v) root_mark q b.1))
    (stray_not n (nodes r) v (parent r v) (first_nowhere _ 0 (nodes r) e v zero-le h))
