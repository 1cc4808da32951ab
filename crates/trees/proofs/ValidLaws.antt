-- Judging accepts a row exactly if it is valid, and what its refusals mean. Assumes nothing.
use Prim.Native.Nat.{ℕ, zero, suc, ◌+◌, ◌-◌, ◌≤◌, ◌<◌, zero-le}
use Rattle.std.specs.Prelude.{◌≡◌, ◌↔◌, ◌⊎◌, List, [], ◌∷◌, Bool, true, ◌&&◌, not, eqb, ltb, leb, length, get_or}
use Rattle.std.proofs.Math.Path.{refl}
use Rattle.std.proofs.Common.{sym, ap, ◌∙◌, arith, ext_get_or}
use Rattle.std.proofs.Math.Logic.{inl, inr, ⊎_elim}
use Rattle.std.proofs.Math.Bool.{false}
use Rattle.std.proofs.lemmas.Bool.{false≢true}
use borrow.Author.Tests.{eqb-true, ltb-true, ltb-false, eq-eqb, le-leb, not-true, not-false, le-ltb}
use Rattle.trees.specs.Lists.{nowhere, at, tabulate, weigh, range, count}
use Rattle.trees.specs.Rows.{nodes, parent, root_mark, child_of, ends}
use Rattle.trees.specs.Checks.{Verdict, accepted, refused, counted, wrote, fewest_samples, most_samples, row_words, outside, is_inner}
use Rattle.trees.specs.Checks.{stray, children, fewest_children, check1, check3, check5, check6, check7, check8, check9, check10, row_checks, judge_checks, judged, ◌⊳◌}
use Rattle.trees.specs.Valid.{Valid, is_accepted}
use Rattle.trees.proofs.BoolLaws.{and_both, or_r, not_yes, decide}
use Rattle.trees.proofs.ListLaws.{first_lowest, first_nowhere, nowhere_first, Lowest}
use Rattle.trees.proofs.ChainLaws.{Passed, passed_chain, chain_passed, Exactly, chain_given, accepted_other, refused_exactly, lacks, given_alone, line_passes}
use Rattle.trees.proofs.CheckLaws.{samples_exactly, outside_not, not_outside, inner_from, stray_not, check6_closed}
use Rattle.trees.proofs.WayLaws.{ends_enough}
use Rattle.trees.specs.Rows.{Closed}

pub accepted_to : (v : Verdict) → is_accepted v ≡ true → v ≡ accepted
accepted_to accepted e = refl
accepted_to (refused k p) e = absurd (false≢true e)
accepted_to (counted a b c) e = absurd (false≢true e)
accepted_to (wrote k) e = absurd (false≢true e)

-- ---- acceptance is validity

module _ (n : ℕ) (r : List ℕ) where
  pub passed_valid : Passed (judge_checks n r) → Valid n r
  unfolding judge_checks row_checks
  passed_valid h =
      let b = (samples_exactly n).0 h.0 in
      let w = eqb-true (length r) (row_words n) (not-false _ (line_passes 3 (not (eqb (length r) (row_words n))) h.1.0)) in
      let m = outside_not (n + 1) (row_words n - 1) (nodes r) (line_passes 5 (outside (n + 1) (row_words n - 1) (nodes r)) h.1.1.0) in
      let p : (v : ℕ) → v < nodes r → ((n ≤ parent r v) × (parent r v < nodes r)) ⊎ ((n ≤ v) × (parent r v ≡ root_mark)) = λ v l. stray_not n
      (nodes r) v (parent r v) (first_nowhere _ 0 (nodes r) h.1.1.1.0 v zero-le l) in
      record {
        least = b.0;
        most = b.1;
        words = w;
        low = omega arith;
        high = omega arith;
        leaf = λ s l. ⊎_elim (λ a. a) (λ a. absurd (omega arith)) (p s (omega arith));
        up = λ v a l. ⊎_elim (λ q. inr q) (λ q. inl q.1) (p v l);
        one = eqb-true _ _ (not-false _ (line_passes 7 (not (eqb (count (child_of r root_mark) (range n (nodes r))) 1)) h.1.1.1.1.0));
        filler = λ i a l. eqb-true _ _ (not-false _ (first_nowhere _ (nodes r + 1) (row_words n) h.1.1.1.1.1.0 i (omega arith) l));
        reach = λ v l. not-false _ (first_nowhere _ 0 (nodes r) h.1.1.1.1.1.1.0 v zero-le l);
        child = λ v a l. ltb-false _ _ (first_nowhere _ n (nodes r) h.1.1.1.1.1.1.1.0 v a l);
      }

  pub valid_passed : Valid n r → Passed (judge_checks n r)
  unfolding judge_checks row_checks
  valid_passed ok = (
    (samples_exactly n).1 (ok.least, ok.most),
    (
      rw (eq-eqb (length r) (row_words n) ok.words),
      (
        rw (not_outside (n + 1) (row_words n - 1) (nodes r) (omega (arith, ok.low)) (omega (arith, ok.high))),
        (
          nowhere_first _ 0 (nodes r) (λ v a l. node v l (decide (ltb v n))),
          (
            rw (eq-eqb (count (child_of r root_mark) (range n (nodes r))) 1 ok.one),
            (
              nowhere_first _ (nodes r + 1) (row_words n) (λ w a l. rw (eq-eqb (get_or r w 0) 0 (ok.filler w (omega arith) l))),
              (
                nowhere_first _ 0 (nodes r) (λ v a l. rw (ok.reach v l)),
                (nowhere_first _ n (nodes r) (λ v a l. le-ltb (children r v) fewest_children (ok.child v a l)), tt),
              ),
            ),
          ),
        ),
      ),
    ),
  )
    where
      inside : (v : ℕ) → (n ≤ parent r v) × (parent r v < nodes r) → stray n (nodes r) v (parent r v) ≡ false
      inside v t = rw (inner_from n (nodes r) (parent r v) t.0 t.1)

      node : (v : ℕ) → v < nodes r → (ltb v n ≡ true) ⊎ (ltb v n ≡ false) → stray n (nodes r) v (parent r v) ≡ false
      node v l (inl e) = inside v (ok.leaf v (ltb-true v n e))
      node v l (inr e) = ⊎_elim (λ q. root v (ltb-false v n e) q) (inside v) (ok.up v (ltb-false v n e) l)
        where
          root : (u : ℕ) → n ≤ u → parent r u ≡ root_mark → stray n (nodes r) u (parent r u) ≡ false
          root u a q = ap not (or_r (is_inner n (nodes r) (parent r u)) (leb n u && eqb (parent r u) root_mark) (and_both _ _ (le-leb n u a) (eq-eqb _ _ q)))

  pub judged_valid : judged n r ≡ accepted → Valid n r
  unfolding judged
  judged_valid e = passed_valid (chain_passed (judge_checks n r) e)

  pub valid_judged : Valid n r → judged n r ≡ accepted
  unfolding judged
  valid_judged ok = passed_chain (judge_checks n r) accepted (valid_passed ok)

  -- a valid row passes checks 5 to 10, and what comes after them decides
  pub valid_row : Valid n r → (v : Verdict) → row_checks n r ⊳ v ≡ v
  unfolding judge_checks
  valid_row ok v = passed_chain (row_checks n r) v (valid_passed ok).1.1

  -- ---- DEMAND 1 of judging (RULES D1)

  pub judged_exactly : (k p : ℕ) → (judged n r ≡ refused k p) ↔ Exactly k p (judge_checks n r)
  unfolding judged
  judged_exactly = refused_exactly (judge_checks n r) accepted accepted_other

  -- where judging refuses with 9, check 9 applies and check 6 passes
  given9 : (p : ℕ) → judged n r ≡ refused 9 p → ((check6 n r).fault ≡ nowhere) × ((check9 n r).fault ≡ at p)
  unfolding judged judge_checks row_checks lacks
  given9 p e =
      let t = given_alone (check1 n ∷ check3 n r ∷ check5 n r ∷ check6 n r ∷ check7 n r ∷ check8 n r ∷ []) (check9 n r) (check10 n r ∷ []) 9 p refl refl
      (chain_given (judge_checks n r) accepted 9 p (accepted_other 9 p) e) in
      (t.0.1.1.1.0, t.1)

  -- ---- check 9: never means in no number of steps, and every node below the place does come to the root (RULES 7.5)

  pub judged_never : (p : ℕ) → judged n r ≡ refused 9 p → ((f : ℕ) → ends f r p ≡ false) × ((u : ℕ) → u < p → ends (nodes r) r u ≡ true)
  judged_never p e = (
    λ f. not_yes _ (λ q. false≢true (sym (not-true _ low.passes) ∙ ends_enough r (nodes r) closed f p low.to q)),
    λ u h. not-false _ (low.none u zero-le h),
  )
    where
      low : Lowest (λ v. not (ends (nodes r) r v)) 0 (nodes r) p
      low = first_lowest _ 0 (nodes r) p (given9 p e).1

      closed : Closed (nodes r) r
      closed = check6_closed n r (given9 p e).0

-- ---- specimens that no computation shows

-- two samples have one tree (RULES 10.2)
pub only_two : (r : List ℕ) → judged 2 r ≡ accepted → r ≡ (3 ∷ 2 ∷ 2 ∷ 65535 ∷ [])
unfolding nodes parent weigh tabulate
only_two r e = words r (judged_valid 2 r e)
  where
    words : (q : List ℕ) → Valid 2 q → q ≡ (3 ∷ 2 ∷ 2 ∷ root_mark ∷ [])
    words q ok = ext_get_or 0 q (3 ∷ 2 ∷ 2 ∷ root_mark ∷ []) ok.words at_word
      where
        m : nodes q ≡ 3
        m = omega (arith, ok.low, ok.high)

        leaf : (s : ℕ) → s < 2 → parent q s ≡ 2
        leaf s h = omega (arith, ok.leaf s h, m)

        root : (b : Bool) → child_of q root_mark 2 ≡ b → parent q 2 ≡ root_mark
        root true p = eqb-true (parent q 2) root_mark p
        root false p = absurd (omega (arith, rw (m, p) at ok.one))

        at_word : (i : ℕ) → i < length q → get_or q i 0 ≡ get_or (3 ∷ 2 ∷ 2 ∷ root_mark ∷ []) i 0
        at_word zero h = m
        at_word (suc zero) h = leaf 0 (omega arith)
        at_word (suc (suc zero)) h = leaf 1 (omega arith)
        at_word (suc (suc (suc zero))) h = root (child_of q root_mark 2) refl
        at_word (suc (suc (suc (suc i)))) h = absurd (omega (arith, ok.words))

-- an m out of range is refused whatever the other words are (RULES 10.4)
pub nodes_refused : (n m : ℕ) (ws : List ℕ) → fewest_samples ≤ n → n ≤ most_samples → length (m ∷ ws) ≡ row_words n
    → outside (n + 1) (row_words n - 1) m ≡ true → judged n (m ∷ ws) ≡ refused 5 0
unfolding judged judge_checks row_checks ◌⊳◌ nodes
nodes_refused n m ws a b l e = rw (not_outside fewest_samples most_samples n a b, eq-eqb (length (m ∷ ws)) (row_words n) l, e)
