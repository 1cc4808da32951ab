-- The marks and the lowest number that a reading keeps decide check 18; where it passes, the row that is laid renumbers to the row of the
-- text. Assumes nothing.
use Rattle.std.specs.Prelude.{ℕ, zero, suc, ◌+◌, ◌≤◌, ◌<◌, min, max, ◌≡◌, refl, ◌⊎◌, List, [], ◌∷◌, Bool, true, false, not, cond, eqb, ltb, leb, length, get_or, set, replicate, Option, None, Some}
use Rattle.std.proofs.Common.{zero-le, sym, ap, subst, ◌∙◌, inl, inr, ⊎_elim, arith, length-set, get_or-set_same, get_or-set_other, ltb-true, ltb-false, le-ltb, leb-true, leb-false, eqb-true, eq-eqb, ne_eqb}
use Rattle.std.proofs.lemmas.List.{length-replicate, get_or-replicate}
use Rattle.std.proofs.lemmas.Bool.{false≢true, eqb-false}
use Rattle.std.proofs.Math.Nat.{le-max_left, le-max_right}
use Rattle.trees.specs.Lists.{nowhere, range, first, weigh}
use Rattle.trees.proofs.BoolLaws.{decide}
use Rattle.trees.proofs.ListLaws.{Lowest, Scan, scan, found, missed, lowest_first, nowhere_first}
use Rattle.trees.specs.Numbering.{renumbered}
use Rattle.trees.specs.Checks.{most_samples}
use Rattle.newick.specs.Tree.{Tree}
use Rattle.newick.specs.Meaning.{samples, times, amiss, above}
use Rattle.newick.specs.ReadCalls.{check18, row_in}
use Rattle.newick.proofs.FaultLaws.{above_more, stands_exactly}
use Rattle.newick.proofs.RoundTrip.{row-in}
use Rattle.lay.specs.declared.tables.Standing.{Standing}
use Rattle.lay.specs.declared.tables.Standing.TheVariants.{Never, Repeated}
use Rattle.lay.specs.Laying.{once_more, tally, lower, least, grow, laid_row}
use Rattle.lay.specs.Faults.{or_at, place_of, due, told_by, bad_mark}
use Rattle.lay.proofs.LaidRow.{laid_groups}

-- ---- the lowest number

-- a number before another, where there is one
abbrev Before : Option ℕ → ℕ → Type 0
Before None j = Unit {0}
Before (Some m) j = j < m

pub record Least (n : ℕ) (xs : List ℕ) (b m : Option ℕ) : Type 0 where
  pub most : (j : ℕ) → Before m j → Before b j
  pub none : (j : ℕ) → n ≤ j → Before m j → times j xs ≡ 0
  pub some : (m ≡ b) ⊎ ((k : ℕ) × (m ≡ Some k) × (n ≤ k) × (1 ≤ times k xs))

pub least_finds : (n : ℕ) (xs : List ℕ) (b : Option ℕ) → Least n xs b (least n xs b)
unfolding least weigh
least_finds n [] b = record { most = λ j u. u; none = λ j h u. refl; some = inl refl }
least_finds n (x ∷ xs) b = go (decide (ltb x n)) b (λ b'. least_finds n xs b')
  where
    off : (j : ℕ) → (j ≡ x → ⊥) → times j xs ≡ 0 → cond (eqb j x) 1 0 + times j xs ≡ 0
    off j d e = rw (ne_eqb j x d) (omega (arith, e))

    this : (k : ℕ) → k ≡ x → 1 ≤ cond (eqb k x) 1 0 + times k xs
    this k q = rw (eq-eqb k x q) (omega arith)

    later : {m b : Option ℕ} → (k : ℕ) × (m ≡ Some k) × (n ≤ k) × (1 ≤ times k xs)
        → (m ≡ b) ⊎ ((k : ℕ) × (m ≡ Some k) × (n ≤ k) × (1 ≤ cond (eqb k x) 1 0 + times k xs))
    later q = inr (q.0, q.1, q.2, omega (arith, q.3))

    go : (ltb x n ≡ true) ⊎ (ltb x n ≡ false) → (b : Option ℕ) → ((b' : Option ℕ) → Least n xs b' (least n xs b'))
        → Least n (x ∷ xs) b (least n xs (cond (ltb x n) b (lower b x)))
    go (inl e) b f = let h = f b in rw e (record {
      most = h.most;
      none = λ j i u. off j (λ q. omega (arith, ltb-true x n e)) (h.none j i u);
      some = ⊎_elim (λ q. inl q) later h.some;
    })
    go (inr e) None f = let h = f (Some x) in rw e (record {
      most = λ j u. tt;
      none = λ j i u. off j (λ q. omega (arith, h.most j u)) (h.none j i u);
      some = ⊎_elim (λ q. inr (x, q, ltb-false x n e, this x refl)) later h.some;
    })
    go (inr e) (Some b) f = let h = f (Some (min b x)) in rw e (record {
      most = λ j u. omega (arith, h.most j u);
      none = λ j i u. off j (λ q. omega (arith, h.most j u)) (h.none j i u);
      some = ⊎_elim (λ q. ⊎_elim
          (λ d. let z : min b x ≡ x = omega (arith, ltb-true x b d) in inr (x, q ∙ ap Some z, ltb-false x n e, this x refl))
          (λ d. let z : min b x ≡ b = omega (arith, ltb-false x b d) in inl (q ∙ ap Some z)) (decide (ltb x b))) later h.some;
    })

-- ---- the marks

many : ℕ → Standing → Standing
many zero v = v
many (suc k) v = many k (once_more v)

many_two : (k : ℕ) → many k Repeated ≡ Repeated
unfolding many
many_two zero = refl
many_two (suc k) = many_two k

-- counted so, a number comes to 0 or 1 exactly where it stands never or once
many_is : (k c : ℕ) → c ≤ 1 → eqb (told_by (many k Never)) c ≡ eqb k c
unfolding many
many_is zero c h = refl
many_is (suc zero) c h = refl
many_is (suc (suc k)) c h = rw (many_two k) (ne_eqb 2 c (λ e. omega arith) ∙ sym (ne_eqb (suc (suc k)) c (λ e. omega (arith, e))))

tally_many : (xs : List ℕ) (marks : List Standing) (x : ℕ) → x < length marks
    → get_or (tally xs marks) x Never ≡ many (times x xs) (get_or marks x Never)
unfolding tally weigh many
tally_many [] marks x h = refl
tally_many (y ∷ xs) marks x h = tally_many xs (set marks y (once_more (get_or marks y Never))) x
    (omega (arith, h, length-set marks y (once_more (get_or marks y Never)))) ∙ go (decide (eqb x y))
  where
    go : (eqb x y ≡ true) ⊎ (eqb x y ≡ false)
        → many (times x xs) (get_or (set marks y (once_more (get_or marks y Never))) x Never) ≡ many (cond (eqb x y) 1 0 + times x xs) (get_or marks x Never)
    go (inl e) = let q = eqb-true x y e in
        ap (λ (v : Standing). many (times x xs) v)
        (ap (λ (z : ℕ). get_or (set marks z (once_more (get_or marks z Never))) x Never) (sym q)
        ∙ get_or-set_same marks x (once_more (get_or marks x Never)) Never h)
        ∙ ap (λ (k : ℕ). many k (get_or marks x Never)) (let z : suc (times x xs) ≡ cond (eqb x y) 1 0 + times x xs = rw e (omega arith) in z)
    go (inr e) = ap (λ (v : Standing). many (times x xs) v) (get_or-set_other marks y x (once_more (get_or marks y Never)) Never (eqb-false x y e))
        ∙ ap (λ (k : ℕ). many k (get_or marks x Never)) (let z : times x xs ≡ cond (eqb x y) 1 0 + times x xs = rw e (omega arith) in z)

-- ---- 18

due_most : (n x : ℕ) → due n x ≤ 1
due_most n x = go (ltb x n)
  where
    go : (b : Bool) → cond b 1 0 ≤ 1
    go true = omega arith
    go false = omega arith

module _ (n : ℕ) (most : n ≤ most_samples) (t : Tree) (marks : List Standing) (e : marks ≡ tally (samples t) (replicate most_samples Never)) where
  abbrev xs : List ℕ
  xs = samples t

  abbrev m : Option ℕ
  m = least most_samples (samples t) None

  L : Least most_samples xs None m
  L = least_finds most_samples xs None

  -- a mark tells whether a sample is amiss; a number that has none is amiss if it stands
  mark_tells : (x : ℕ) → x < most_samples → bad_mark n marks x ≡ amiss n xs x
  mark_tells x i = ap (λ (v : Standing). not (eqb (told_by v) (due n x)))
      (ap (λ (w : List Standing). get_or w x Never) e
      ∙ tally_many xs (replicate most_samples Never) x (omega (arith, i, length-replicate most_samples Never))
      ∙ ap (many (times x xs)) (get_or-replicate most_samples x Never Never i))
      ∙ ap not (many_is (times x xs) (due n x) (due_most n x))

  far : (x : ℕ) → most_samples ≤ x → times x xs ≡ 0 → amiss n xs x ≡ false
  far x i q = rw (q, le-ltb x n (omega arith)) refl

  amiss_far : (x : ℕ) → most_samples ≤ x → 1 ≤ times x xs → amiss n xs x ≡ true
  amiss_far x i q = rw (le-ltb x n (omega arith), ne_eqb (times x xs) 0 (λ z. omega arith)) refl

  -- what is amiss is below n or stands
  amiss_within : (x : ℕ) → amiss n xs x ≡ true → x < max n (above xs)
  amiss_within x a = go (decide (ltb x n)) (decide (leb 1 (times x xs)))
    where
      go : (ltb x n ≡ true) ⊎ (ltb x n ≡ false) → (leb 1 (times x xs) ≡ true) ⊎ (leb 1 (times x xs) ≡ false) → x < max n (above xs)
      go (inl d) w = omega (arith, ltb-true x n d, le-max_left n (above xs))
      go (inr d) (inl w) = omega (arith, above_more xs x (leb-true 1 (times x xs) w), le-max_right n (above xs))
      go (inr d) (inr w) = absurd (let z : times x xs ≡ 0 = omega (arith, leb-false 1 (times x xs) w) in
          false≢true (sym (let q : amiss n xs x ≡ false = rw (z, d) refl in q) ∙ a))

  -- a number without a mark stands nowhere before m
  none : (z : Option ℕ) → m ≡ z → (j : ℕ) → most_samples ≤ j → Before z j → times j xs ≡ 0
  none z q j i u = L.none j i (subst (λ (o : Option ℕ). Before o j) (sym q) u)

  -- what is found where no mark is bad: m, if there is one
  unmarked : (z : Option ℕ) → m ≡ z → ((j : ℕ) → 0 ≤ j → j < most_samples → bad_mark n marks j ≡ false) → (check18 n t).fault ≡ place_of z
  unmarked None q f = nowhere_first (amiss n xs) 0 (max n (above xs))
      (λ j a b. ⊎_elim (λ w. sym (mark_tells j (ltb-true j most_samples w)) ∙ f j a (ltb-true j most_samples w))
      (λ w. far j (ltb-false j most_samples w) (none None q j (ltb-false j most_samples w) tt)) (decide (ltb j most_samples)))
  unmarked (Some k) q f = lowest_first (amiss n xs) 0 (max n (above xs)) k (⊎_elim (λ (z : m ≡ None). cc) hit L.some)
    where
      hit : (i : ℕ) × (m ≡ Some i) × (most_samples ≤ i) × (1 ≤ times i xs) → Lowest (amiss n xs) 0 (max n (above xs)) k
      hit z = let e : z.0 ≡ k = cc in let w = rw e at (amiss_far z.0 z.2 z.3) in record {
        from = zero-le;
        to = amiss_within k w;
        passes = w;
        none = λ j a b. ⊎_elim (λ u. sym (mark_tells j (ltb-true j most_samples u)) ∙ f j a (ltb-true j most_samples u))
            (λ u. far j (ltb-false j most_samples u) (none (Some k) q j (ltb-false j most_samples u) b)) (decide (ltb j most_samples));
      }

  pub place18 : (check18 n t).fault ≡ or_at (first (bad_mark n marks) (range 0 most_samples)) (place_of m)
  place18 = go (scan (bad_mark n marks) 0 most_samples)
    where
      go : Scan (bad_mark n marks) 0 most_samples (first (bad_mark n marks) (range 0 most_samples))
          → (check18 n t).fault ≡ or_at (first (bad_mark n marks) (range 0 most_samples)) (place_of m)
      go (found i q l) =
          let w = sym (mark_tells i l.to) ∙ l.passes in rw q (lowest_first (amiss n xs) 0 (max n (above xs)) i (record {
            from = l.from;
            to = amiss_within i w;
            passes = w;
            none = λ j a b. sym (mark_tells j (omega (arith, l.to))) ∙ l.none j a b;
          }))
      go (missed q f) = rw q (unmarked m refl f)

-- ---- where 18 passes, each sample stands once, and what was laid is the row of the tree

pub laid_row_in : (n : ℕ) (t : Tree) → 2 ≤ n → n ≤ 512 → (check18 n t).fault ≡ nowhere → renumbered n (laid_row n (grow t n)) ≡ row_in n t
laid_row_in n t h k e = sym (row-in n (laid_row n (grow t n)) t (λ g. sym (laid_groups n t h k ((stands_exactly n t).0 e) g)))
