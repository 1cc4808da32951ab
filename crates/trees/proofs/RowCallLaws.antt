-- Demand 1 for renumbering and comparing, what an accepted renumbering leaves, and what the counts of comparing say. Assumes nothing.
use Rattle.std.specs.Prelude.{ℕ, ◌+◌, ◌≤◌, ◌≡◌, ◌↔◌, List, [], ◌∷◌, map, not, eqb, length}
use Rattle.std.proofs.Math.Path.{refl, sym}
use Rattle.std.proofs.Common.{ap, ◌∙◌, arith, eqb-true, eq-eqb}
use Rattle.std.proofs.lemmas.Bool.{not-false}
use Rattle.trees.specs.Lists.{Place, nowhere, at}
use Rattle.trees.specs.Groups.{Group, member}
use Rattle.trees.specs.Rows.{groups, holds}
use Rattle.trees.specs.Checks.{Verdict, accepted, refused, counted, wrote, Check, or_else, ◌⊳◌, row_words}
use Rattle.trees.specs.Checks.{check3, row_checks, judge_checks}
use Rattle.trees.specs.Valid.{Valid, Standard}
use Rattle.trees.specs.Numbering.{group_set, renumbered}
use Rattle.trees.specs.Comparing.{shared, alone, distance, nontrivial, compared}
use Rattle.trees.specs.RowCalls.{check3_both, renumber_checks, renumbering, moved_place, moved, compare_checks, comparing}
use Rattle.trees.proofs.BoolLaws.{or_none}
use Rattle.trees.proofs.ChainLaws.{Passed, passed_chain, chain_passed, Unrefused, accepted_other, counted_other, unrefused_passed}
use Rattle.trees.proofs.ChainLaws.{Exactly, refused_exactly, numbers, line_passes, passed_append, passed_split}
use Rattle.trees.proofs.ValidLaws.{passed_valid, valid_passed}
use Rattle.trees.proofs.NumberingLaws.{set_strict, renumbered_standard, renumbered_groups, renumbered_same}
use Rattle.trees.proofs.ComparingLaws.{distance_triangle, compared_swapped, compared_distance, compared_same}
use Rattle.trees.proofs.OutcomeLaws.{outcome_refused, outcome_accepted}

-- ---- the lengths of two buffers

pub both_lengths : (n : ℕ) (r q : List ℕ) → (check3_both n r q).fault ≡ nowhere → (length r ≡ row_words n) × (length q ≡ row_words n)
both_lengths n r q e =
    let t = or_none (not (eqb (length r) (row_words n))) (not (eqb (length q) (row_words n))) (line_passes 3 _ e) in
    (eqb-true _ _ (not-false _ t.0), eqb-true _ _ (not-false _ t.1))

one_fits : (n : ℕ) (r : List ℕ) → length r ≡ row_words n → (check3 n r).fault ≡ nowhere
one_fits n r e = rw (eq-eqb (length r) (row_words n) e)

pub both_fit : (n : ℕ) (r q : List ℕ) → length r ≡ row_words n → length q ≡ row_words n → (check3_both n r q).fault ≡ nowhere
both_fit n r q d e = rw (eq-eqb (length r) (row_words n) d, eq-eqb (length q) (row_words n) e)

-- ---- renumbering

module _ (n : ℕ) (r out : List ℕ) where
  -- the order of its checks
  pub renumbering_numbers : numbers (renumber_checks n r out) ≡ (1 ∷ 3 ∷ 5 ∷ 6 ∷ 7 ∷ 8 ∷ 9 ∷ 10 ∷ [])
  unfolding renumber_checks row_checks
  renumbering_numbers = refl

  -- DEMAND 1 of renumbering (RULES D1)
  pub renumbering_exactly : (k p : ℕ) → ((renumbering n r out).verdict ≡ refused k p) ↔ Exactly k p (renumber_checks n r out)
  unfolding renumbering
  renumbering_exactly = refused_exactly (renumber_checks n r out) accepted accepted_other

  -- and no word of `out` differs then
  pub renumbering_refused : (k p : ℕ) → (renumbering n r out).verdict ≡ refused k p → (renumbering n r out).words ≡ out
  unfolding renumbering
  renumbering_refused k p e = outcome_refused (renumber_checks n r out) out (renumbered n r) k p e

  -- it is accepted exactly if the row is valid and the output has 2n words
  pub renumbering_accepts : ((renumbering n r out).verdict ≡ accepted) ↔ (Valid n r × (length out ≡ row_words n))
  unfolding renumbering renumber_checks judge_checks
  renumbering_accepts = (
    to,
    λ t. let h = valid_passed n r t.0 in
        passed_chain (renumber_checks n r out) accepted (h.0, (both_fit n r out t.0.words t.1, h.1.1)),
  )
    where
      to : renumber_checks n r out ⊳ accepted ≡ accepted → Valid n r × (length out ≡ row_words n)
      to e =
          let h = chain_passed (renumber_checks n r out) e in
          let l = both_lengths n r out h.1.0 in
          (passed_valid n r (h.0, (one_fits n r l.0, h.1.1)), l.1)

  pub renumbering_valid : (renumbering n r out).verdict ≡ accepted → Valid n r
  renumbering_valid e = (renumbering_accepts.0 e).0

  renumbering_words : (renumbering n r out).verdict ≡ accepted → (renumbering n r out).words ≡ renumbered n r
  unfolding renumbering
  renumbering_words e = outcome_accepted (renumber_checks n r out) out (renumbered n r) e

  -- what an accepted renumbering writes is standard, and has exactly the groups of the row
  pub renumbering_standard : (renumbering n r out).verdict ≡ accepted → Standard n (renumbering n r out).words
  renumbering_standard e = rw (renumbering_words e) (renumbered_standard n r (renumbering_valid e))

  pub renumbering_groups : (renumbering n r out).verdict ≡ accepted → (x : Group) → member x (groups n (renumbering n r out).words) ≡ member x (groups n r)
  renumbering_groups e x = rw (renumbering_words e) (renumbered_groups n r (renumbering_valid e) x)

-- two rows with equal groups renumber to equal words
pub renumbering_same : (n : ℕ) (r q a b : List ℕ) → (renumbering n r a).verdict ≡ accepted → (renumbering n q b).verdict ≡ accepted
    → ((x : Group) → member x (groups n r) ≡ member x (groups n q)) → (renumbering n r a).words ≡ (renumbering n q b).words
renumbering_same n r q a b e f h = renumbering_words n r a e ∙ renumbered_same n r q h ∙ sym (renumbering_words n q b f)

-- ---- comparing

pub moved_nowhere : (d : ℕ) (f : Place) → moved_place d f ≡ nowhere → f ≡ nowhere
moved_nowhere d nowhere e = refl
moved_nowhere d (at p) e = let z : ◌≡◌ {A = ℕ} 0 1 = cc in absurd (omega arith)

-- checks pass exactly if they pass with their places moved
pub moved_passed : (d : ℕ) (cs : List Check) → Passed (map (moved d) cs) ↔ Passed cs
moved_passed d [] = (λ h. tt, λ h. tt)
moved_passed d (c ∷ cs) = (
  λ h. (moved_nowhere d c.fault h.0, (moved_passed d cs).0 h.1),
  λ h. (ap (moved_place d) h.0, (moved_passed d cs).1 h.1),
)

module _ (n : ℕ) (r q : List ℕ) where
  -- the order of its checks: those of the first row, then those of the second
  pub comparing_numbers : numbers (compare_checks n r q) ≡ (1 ∷ 3 ∷ 5 ∷ 6 ∷ 7 ∷ 8 ∷ 9 ∷ 10 ∷ 5 ∷ 6 ∷ 7 ∷ 8 ∷ 9 ∷ 10 ∷ [])
  unfolding compare_checks row_checks
  comparing_numbers = refl

  compared_other : Unrefused (compared n r q)
  unfolding compared
  compared_other = let a = nontrivial n r in let b = nontrivial n q in counted_other (shared a b) (alone a b) (alone b a)

  -- DEMAND 1 of comparing (RULES D1)
  pub comparing_exactly : (k p : ℕ) → (comparing n r q ≡ refused k p) ↔ Exactly k p (compare_checks n r q)
  unfolding comparing
  comparing_exactly = refused_exactly (compare_checks n r q) (compared n r q) compared_other

  -- it answers its counts exactly if both rows are valid
  pub comparing_accepts : (comparing n r q ≡ compared n r q) ↔ (Valid n r × Valid n q)
  unfolding comparing compare_checks judge_checks
  comparing_accepts = (to, from)
    where
      to : compare_checks n r q ⊳ compared n r q ≡ compared n r q → Valid n r × Valid n q
      to e =
          let h = unrefused_passed (compare_checks n r q) (compared n r q) (λ k p d. compared_other k p (sym e ∙ d)) in
          let l = both_lengths n r q h.1.0 in
          let s = passed_split (row_checks n r) (map (moved (row_words n)) (row_checks n q)) h.1.1 in (
            passed_valid n r (h.0, (one_fits n r l.0, s.0)),
            passed_valid n q (h.0, (one_fits n q l.1, (moved_passed (row_words n) (row_checks n q)).0 s.1)),
          )

      from : Valid n r × Valid n q → compare_checks n r q ⊳ compared n r q ≡ compared n r q
      from t =
          let h = valid_passed n r t.0 in
          let k = valid_passed n q t.1 in
          passed_chain (compare_checks n r q) (compared n r q) (
            h.0,
            (
              both_fit n r q t.0.words t.1.words,
              passed_append (row_checks n r) (map (moved (row_words n)) (row_checks n q)) h.1.1 ((moved_passed (row_words n) (row_checks n q)).1 k.1.1),
            ),
          )

  -- the counts that it answers are those of valid rows
  pub comparing_counts : (a b c : ℕ) → (comparing n r q ≡ counted a b c) ↔ (Valid n r × Valid n q × (compared n r q ≡ counted a b c))
  unfolding comparing
  comparing_counts a b c = (to, λ t. comparing_accepts.1 (t.0, t.1) ∙ t.2)
    where
      to : compare_checks n r q ⊳ compared n r q ≡ counted a b c → Valid n r × Valid n q × (compared n r q ≡ counted a b c)
      to e =
          let h = passed_chain (compare_checks n r q) (compared n r q)
          (unrefused_passed (compare_checks n r q) (compared n r q) (λ k p d. counted_other a b c k p (sym e ∙ d))) in
          let t = comparing_accepts.0 h in (t.0, t.1, sym h ∙ e)

-- ---- what the counts that it answers say (RULES 8.3 to 8.5)

module _ (n : ℕ) (r q : List ℕ) where
  -- the rows exchanged
  pub comparing_swapped : (a b c : ℕ) → comparing n r q ≡ counted a b c → comparing n q r ≡ counted a c b
  comparing_swapped a b c e = let t = (comparing_counts n r q a b c).0 e in
      (comparing_counts n q r a c b).1 (t.1, t.0, compared_swapped n r q a b c t.2)

  -- both last counts are 0 for two trees with the same groups, and for no others
  pub comparing_same : ((a : ℕ) × (comparing n r q ≡ counted a 0 0)) ↔ (Valid n r × Valid n q × ((x : Group) → holds n x r ≡ holds n x q))
  comparing_same = (
    λ w. let t = (comparing_counts n r q w.0 0 0).0 w.1 in (t.0, t.1, (compared_same n r q t.0 t.1).0 (w.0, t.2)),
    λ t. let w = (compared_same n r q t.0 t.1).1 t.2 in (w.0, (comparing_counts n r q w.0 0 0).1 (t.0, t.1, w.1)),
  )

  -- together they are the distance of the two trees
  pub comparing_distance : (a b c : ℕ) → comparing n r q ≡ counted a b c → b + c ≡ distance (group_set n r) (group_set n q)
  comparing_distance a b c e = let t = (comparing_counts n r q a b c).0 e in compared_distance n r q t.0 t.1 a b c t.2

-- and by way of a third tree it is no shorter
pub comparing_triangle : (n : ℕ) (r q s : List ℕ) (a b c d e f g h i : ℕ) → comparing n r q ≡ counted a b c → comparing n q s ≡ counted d e f
    → comparing n r s ≡ counted g h i → h + i ≤ (b + c) + (e + f)
comparing_triangle n r q s a b c d e f g h i x y z = omega (
  arith,
  comparing_distance n r q a b c x,
  comparing_distance n q s d e f y,
  comparing_distance n r s g h i z,
  distance_triangle (group_set n r) (group_set n q) (group_set n s) (set_strict n r) (set_strict n q) (set_strict n s),
)

-- ---- the second row's checks

-- a verdict with d added to its place
abbrev pub moved_verdict : ℕ → Verdict → Verdict
moved_verdict d accepted = accepted
moved_verdict d (refused k p) = refused k (p + d)
moved_verdict d (counted a b c) = counted a b c
moved_verdict d (wrote k) = wrote k

-- the second row's checks answer as those of a row alone, with the places moved
pub chain_moved : (d : ℕ) (cs : List Check) → map (moved d) cs ⊳ accepted ≡ moved_verdict d (cs ⊳ accepted)
unfolding ◌⊳◌
chain_moved d [] = refl
chain_moved d (c ∷ cs) = go c.fault (chain_moved d cs)
  where
    go : (f : Place) → map (moved d) cs ⊳ accepted ≡ moved_verdict d (cs ⊳ accepted)
        → or_else c.number (moved_place d f) (map (moved d) cs ⊳ accepted) ≡ moved_verdict d (or_else c.number f (cs ⊳ accepted))
    go nowhere e = e
    go (at p) e = refl
