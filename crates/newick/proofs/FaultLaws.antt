-- Check 18 of reading applies at the lowest number that is amiss, and the samples of a text have at most five digits. Assumes nothing.
use Rattle.std.specs.Prelude.{ℕ, suc, ◌+◌, ◌-◌, ◌≤◌, ◌<◌, max, ◌≡◌, ◌⊎◌, ◌↔◌, List, [], ◌∷◌, ◌++◌, true, false, cond, eqb, ltb, leb, length}
use Rattle.std.proofs.Common.{zero-le, inl, inr, ⊎_elim, arith, ltb-true, ltb-false, le-ltb, leb-true, leb-false, eqb-true, eq-eqb, ne_eqb}
use Rattle.std.proofs.Math.Nat.{le-max_left, le-max_right}
use Rattle.std.proofs.lemmas.Bool.{eqb-false, not-false, not-true}
use Rattle.trees.specs.Lists.{nowhere, at, weigh}
use Rattle.trees.proofs.BoolLaws.{decide}
use Rattle.trees.proofs.ListLaws.{first_lowest, lowest_first, first_nowhere, nowhere_first, weigh_append}
use Rattle.ascii.specs.Decimal.{value_after}
use Rattle.newick.specs.Tree.{Tree, Forest}
use Rattle.newick.specs.Bytes.{nought_byte, is_digit}
use Rattle.newick.specs.Grammar.{All, sample_bound, Sample, Subtree, Subtrees, Text}
use Rattle.newick.specs.Grammar.All.{none, and}
use Rattle.newick.proofs.ByteLaws.{digit_range}
use Rattle.newick.specs.Meaning.{samples, samples_in, times, amiss, above}
use Rattle.newick.specs.ReadCalls.{check18}
use Rattle.newick.specs.Faults.{LowestWith, Stands}

times_append : (x : ℕ) (xs ys : List ℕ) → times x (xs ++ ys) ≡ times x xs + times x ys
times_append x xs ys = weigh_append (λ y. 1) (eqb x) xs ys

-- ---- line 18

-- what stands in a list is below `above`
pub above_more : (xs : List ℕ) (x : ℕ) → 1 ≤ times x xs → x < above xs
unfolding weigh above
above_more [] x h = absurd (omega arith)
above_more (y ∷ xs) x h = go (decide (eqb x y)) (λ k. above_more xs x k)
  where
    go : (eqb x y ≡ true) ⊎ (eqb x y ≡ false) → (1 ≤ times x xs → x < above xs) → x < max (suc y) (above xs)
    go (inl e) f = omega (arith, eqb-true x y e, le-max_left (suc y) (above xs))
    go (inr e) f = omega (arith, f (omega (arith, rw e at h)), le-max_right (suc y) (above xs))

module _ (n : ℕ) (t : Tree) where
  abbrev end : ℕ
  end = max n (above (samples t))

  amiss_to : (x : ℕ) → amiss n (samples t) x ≡ true → Stands n t x → ⊥
  amiss_to x e = eqb-false (times x (samples t)) (cond (ltb x n) 1 0) (not-true _ e)

  amiss_from : (x : ℕ) → (Stands n t x → ⊥) → amiss n (samples t) x ≡ true
  amiss_from x h = rw (ne_eqb (times x (samples t)) (cond (ltb x n) 1 0) h)

  stands_from : (x : ℕ) → amiss n (samples t) x ≡ false → Stands n t x
  stands_from x e = eqb-true _ _ (not-false _ e)

  stands_to : (x : ℕ) → Stands n t x → amiss n (samples t) x ≡ false
  stands_to x e = rw (eq-eqb (times x (samples t)) (cond (ltb x n) 1 0) e)

  -- from the end on nothing is amiss
  stands_far : (x : ℕ) → end ≤ x → Stands n t x
  stands_far x i = rw (le-ltb x n (omega (arith, i, le-max_left n (above (samples t))))) (⊎_elim
      (λ w. absurd (omega (arith, above_more (samples t) x (leb-true 1 (times x (samples t)) w), i, le-max_right n (above (samples t)))))
      (λ w. omega (arith, leb-false 1 (times x (samples t)) w)) (decide (leb 1 (times x (samples t)))))

  amiss_near : (x : ℕ) → (Stands n t x → ⊥) → x < end
  amiss_near x h = ⊎_elim (λ w. ltb-true x end w) (λ w. absurd (h (stands_far x (ltb-false x end w)))) (decide (ltb x end))

  -- check 18 applies at the lowest number that is amiss, of all numbers there are (RULES 7.5)
  pub amiss_exactly : (p : ℕ) → ((check18 n t).fault ≡ at p) ↔ LowestWith (λ x. Stands n t x → ⊥) p
  amiss_exactly p = (
    λ e. let l = first_lowest (amiss n (samples t)) 0 end p e in
        record { holds = amiss_to p l.passes; none = λ x h k. k (stands_from x (l.none x zero-le h)) },
    λ l. lowest_first (amiss n (samples t)) 0 end p (record {
      from = zero-le;
      to = amiss_near p l.holds;
      passes = amiss_from p l.holds;
      none = λ x a h. ⊎_elim (λ w. absurd (l.none x h (amiss_to x w))) (λ w. w) (decide (amiss n (samples t) x));
    }),
  )

  -- it passes exactly if nothing is amiss
  pub stands_exactly : ((check18 n t).fault ≡ nowhere) ↔ ((x : ℕ) → Stands n t x)
  stands_exactly = (
    λ e x. ⊎_elim (λ w. stands_from x (first_nowhere (amiss n (samples t)) 0 end e x zero-le (ltb-true x end w)))
        (λ w. stands_far x (ltb-false x end w)) (decide (ltb x end)),
    λ h. nowhere_first (amiss n (samples t)) 0 end (λ x a b. stands_to x (h x)),
  )

-- ---- the samples of a text are below 100,000

value_small : (x : ℕ) → x < 10 → (l : List ℕ) → All is_digit l → length l ≤ 4 → value_after x l < sample_bound
unfolding value_after
value_small x h [] a k = omega arith
value_small x h (b ∷ []) (and b₁ l₁ d none) k = omega (arith, digit_range b d)
value_small x h (b ∷ c ∷ []) (and b₁ l₁ d (and c₁ l₂ e none)) k = omega (arith, digit_range b d, digit_range c e)
value_small x h (b ∷ c ∷ f ∷ []) (and b₁ l₁ d (and c₁ l₂ e (and f₁ l₃ g none))) k =
    omega (arith, digit_range b d, digit_range c e, digit_range f g)
value_small x h (b ∷ c ∷ f ∷ i ∷ []) (and b₁ l₁ d (and c₁ l₂ e (and f₁ l₃ g (and i₁ l₄ j none)))) k =
    omega (arith, digit_range b d, digit_range c e, digit_range f g, digit_range i j)
value_small x h (b ∷ c ∷ f ∷ i ∷ m ∷ l) a k = absurd (omega arith)

sample_small : {l : List ℕ} {x : ℕ} → Sample l x → x < sample_bound
sample_small Sample.nought = omega arith
sample_small (Sample.numeral b l d z a k) = value_small (b - nought_byte) (omega (arith, digit_range b d)) l a (omega arith)

mutual
  unfolding samples samples_in weigh

  sub_small : {d : ℕ} {w : List ℕ} {t : Tree} → Subtree d w t → (x : ℕ) → 1 ≤ times x (samples t) → x < sample_bound
  sub_small (Subtree.a_sample d w a l m y e b s g) x h =
      ⊎_elim (λ z. omega (arith, eqb-true x y z, sample_small s)) (λ z. absurd (omega (arith, rw z at h))) (decide (eqb x y))
  sub_small (Subtree.a_pair d w a l s m f μ e b g u v) x h = subs_small g x h

  subs_small : {d : ℕ} {w : List ℕ} {f : Forest} → Subtrees d w f → (x : ℕ) → 1 ≤ times x (samples_in f) → x < sample_bound
  subs_small (Subtrees.one d l t s) x h = sub_small s x h
  subs_small (Subtrees.parted d w l m f t e g s) x h =
      let c = times_append x (samples_in f) (samples t) in
      ⊎_elim (λ z. subs_small g x (leb-true 1 (times x (samples_in f)) z))
      (λ z. sub_small s x (omega (arith, c, leb-false 1 (times x (samples_in f)) z))) (decide (leb 1 (times x (samples_in f))))

pub samples_small : {l : List ℕ} {t : Tree} → Text l t → (x : ℕ) → 1 ≤ times x (samples t) → x < sample_bound
samples_small (Text.a_text l a t s b) x h = sub_small s x h
