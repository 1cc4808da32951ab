-- Demand 1 for reading, over the grammar: when a text is accepted, and when each refusal is given, with its place. Assumes nothing.
use Rattle.std.specs.Prelude.{ℕ, ◌≤◌, ◌<◌, ◌≡◌, ◌↔◌, not, eqb, ltb, leb, length}
use Rattle.std.proofs.Math.Path.{refl}
use Rattle.std.proofs.Common.{sym, ap, subst, ⊎_elim, arith, eqb-true, eq-eqb, ltb-true, ltb-false, le-ltb, leb-true, leb-false}
use mathlib.Core.List.{List, [], ◌∷◌}
use Rattle.std.proofs.lemmas.Bool.{not-false}
use Rattle.trees.specs.Lists.{nowhere, at}
use Rattle.trees.specs.Checks.{accepted, refused, Check, fewest_samples, most_samples, row_words, outside, check1, check3}
use Rattle.trees.proofs.BoolLaws.{decide}
use Rattle.trees.proofs.ChainLaws.{Passed, passed_chain, chain_passed, accepted_other, Given, here, later, chain_given, given_chain}
use Rattle.trees.proofs.ChainLaws.{Exactly, refused_exactly, numbers, lacks, given_alone, line_passes}
use Rattle.trees.proofs.CheckLaws.{samples_exactly}
use Rattle.trees.proofs.PlacedLaws.{Placed, placed_none, placed_line}
use Rattle.trees.proofs.OutcomeLaws.{outcome_refused}
use Rattle.newick.specs.Tree.{Tree}
use Rattle.newick.specs.Grammar.{sample_bound, Text}
use Rattle.newick.specs.Walk.{Parse, parsed}
use Rattle.newick.specs.Walk.Parse.{reads, stops}
use Rattle.newick.specs.Stops.{FirstStop}
use Rattle.newick.specs.Meaning.{samples, times}
use Rattle.newick.specs.Faults.{Sized, LowestWith, Stands, Readable}
use Rattle.newick.specs.ReadCalls.{stop_place, tree_in, check17, check18, text_checks, read_checks, row_in, reading}
use Rattle.newick.proofs.Complete.{complete}
use Rattle.newick.proofs.Sound.{sound}
use Rattle.newick.proofs.StopLaws.{stop_exactly}
use Rattle.newick.proofs.FaultLaws.{amiss_exactly, stands_exactly, samples_small}

-- ---- what comes of a text

stopped : (o : Parse) (p : ℕ) → stop_place o ≡ at p → o ≡ stops p
stopped (reads t) p e = absurd (let z : ◌≡◌ {A = ℕ} 0 1 = cc in omega arith)
stopped (stops q) p e = let z : q ≡ p = cc in ap stops z

read_through : (o : Parse) → stop_place o ≡ nowhere → o ≡ reads (tree_in o)
read_through (reads t) e = refl
read_through (stops p) e = absurd (let z : ◌≡◌ {A = ℕ} 0 1 = cc in omega arith)

-- ---- reading

module _ (n : ℕ) (out : List ℕ) where
  abbrev sizes : List Check
  sizes = check1 n ∷ check3 n out ∷ []

  sized_to : Passed sizes → Sized n out
  sized_to h = let t = (samples_exactly n).0 h.0 in
      record {
        least = t.0;
        most = t.1;
        words = eqb-true _ _ (not-false _
            (line_passes 3 (not (eqb (length out) (row_words n))) h.1.0));
      }

  sized_from : Sized n out → Passed sizes
  sized_from s = ((samples_exactly n).1 (s.least, s.most), (rw (eq-eqb (length out) (row_words n) s.words), tt))

module _ (n : ℕ) (l out : List ℕ) where
  abbrev checks : List Check
  checks = read_checks n (parsed l) out

  abbrev tree : Tree
  tree = tree_in (parsed l)

  -- the order of its checks (RULES 7.9)
  pub reading_numbers : numbers (read_checks n (parsed l) out) ≡ (1 ∷ 3 ∷ 17 ∷ 18 ∷ [])
  unfolding read_checks text_checks
  reading_numbers = refl

  -- DEMAND 1 of reading (RULES D1)
  pub reading_exactly : (k p : ℕ) → ((reading n l out).verdict ≡ refused k p) ↔ Exactly k p (read_checks n (parsed l) out)
  unfolding reading
  reading_exactly = refused_exactly (read_checks n (parsed l) out) accepted accepted_other

  -- and no word of `out` differs then
  pub reading_refused : (k p : ℕ) → (reading n l out).verdict ≡ refused k p → (reading n l out).words ≡ out
  unfolding reading
  reading_refused k p e = outcome_refused (read_checks n (parsed l) out) out (row_in n (tree_in (parsed l))) k p e

  given : (k p : ℕ) → (reading n l out).verdict ≡ refused k p → Given k p checks
  unfolding reading
  given k p e = chain_given checks accepted k p (accepted_other k p) e

  gives : (k p : ℕ) → Given k p checks → (reading n l out).verdict ≡ refused k p
  unfolding reading
  gives k p g = given_chain checks accepted k p g

  -- a text that check 17 lets through is of the form, and comes to its tree; and the other way round
  formed : (check17 (parsed l)).fault ≡ nowhere → Text l tree
  formed e = sound l tree (read_through (parsed l) e)

  tree_of : {t : Tree} → Text l t → ((check17 (parsed l)).fault ≡ nowhere) × (tree ≡ t)
  tree_of s = (ap stop_place (complete s), ap tree_in (complete s))

  -- 17 is given for a text that is not of the form, at the place where it stops being so
  pub reading_17 : (p : ℕ) → ((reading n l out).verdict ≡ refused 17 p) ↔ (Sized n out × FirstStop l p)
  unfolding read_checks text_checks lacks
  reading_17 p = (
    λ e. let g = given_alone (sizes n out) (check17 (parsed l)) (check18 n tree ∷ []) 17 p refl refl (given 17 p e) in
        (sized_to n out g.0, (stop_exactly l p).0 (stopped (parsed l) p g.1)),
    λ h. let s = sized_from n out h.0 in
        gives 17 p (later s.0 (later s.1.0 (here refl (ap stop_place ((stop_exactly l p).1 h.1))))),
  )

  -- 18 is given for a text of the form, at the lowest number that does not stand in it as it should
  pub reading_18 : (p : ℕ) → ((reading n l out).verdict ≡ refused 18 p)
      ↔ (Sized n out × ((t : Tree) × Text l t × LowestWith (λ x. Stands n t x → ⊥) p))
  unfolding read_checks text_checks lacks
  reading_18 p = (
    λ e. let g = given_alone (check1 n ∷ check3 n out ∷ check17 (parsed l) ∷ []) (check18 n tree) [] 18 p refl refl (given 18 p e) in
        (sized_to n out (g.0.0, (g.0.1.0, tt)), (tree, formed g.0.1.1.0, (amiss_exactly n tree p).0 g.1)),
    λ h. let s = sized_from n out h.0 in let t = tree_of h.1.1 in
        gives 18 p (later s.0 (later s.1.0 (later t.0 (here refl
        (subst (λ (u : Tree). (check18 n u).fault ≡ at p) (sym t.1) ((amiss_exactly n h.1.0 p).1 h.1.2)))))),
  )

  -- a text is accepted exactly if it is of the form and has each sample below n once and no other (RULES 14.9)
  pub reading_accepts : ((reading n l out).verdict ≡ accepted) ↔ (Sized n out × ((t : Tree) × Text l t × Readable n t))
  unfolding reading read_checks text_checks
  reading_accepts = (
    λ e. let h = chain_passed checks e in
        (sized_to n out (h.0, (h.1.0, tt)), (tree, formed h.1.1.0, (stands_exactly n tree).0 h.1.1.1.0)),
    λ h. let s = sized_from n out h.0 in let t = tree_of h.1.1 in
        passed_chain checks accepted (
          s.0,
          (
            s.1.0,
            (
              t.0,
              (subst (λ (u : Tree). (check18 n u).fault ≡ nowhere) (sym t.1) ((stands_exactly n h.1.0).1 h.1.2), tt),
            ),
          ),
        ),
  )

-- ---- how far a place can be

-- the place of a refusal is a byte of the text or its length, or a number below 100,000: below any bound above these
module _ (n : ℕ) (l out : List ℕ) (b : ℕ) (short : length l < b) (far : sample_bound ≤ b) where
  placed_18 : (check17 (parsed l)).fault ≡ nowhere → (p : ℕ) → (check18 n (tree_in (parsed l))).fault ≡ at p → n ≤ 512 → p < b
  placed_18 e p f m = let h = (amiss_exactly n (tree_in (parsed l)) p).0 f in
      ⊎_elim (λ w. omega (arith, ltb-true p n w))
      (λ w. omega (arith, samples_small (formed n l out e) p (stands_some p (ltb-false p n w) h.holds))) (decide (ltb p n))
    where
      stands_some : (p : ℕ) → n ≤ p → (Stands n (tree_in (parsed l)) p → ⊥) → 1 ≤ times p (samples (tree_in (parsed l)))
      stands_some p k x = ⊎_elim (λ w. leb-true 1 (times p (samples (tree_in (parsed l)))) w)
          (λ w. absurd (x (rw (le-ltb p n k) (omega (arith, leb-false 1 (times p (samples (tree_in (parsed l)))) w)))))
          (decide (leb 1 (times p (samples (tree_in (parsed l))))))

  pub reading_placed : Placed b (read_checks n (parsed l) out)
  unfolding read_checks text_checks
  reading_placed = placed_line b 1 (outside fewest_samples most_samples n) _ (omega arith)
      (λ e. placed_line b 3 (not (eqb (length out) (row_words n))) _ (omega arith)
      (λ f. text_placed ((samples_exactly n).0 e).1))
    where
      text_placed : n ≤ 512 → Placed b (check17 (parsed l) ∷ check18 n (tree_in (parsed l)) ∷ [])
      text_placed m k p (here x e) = omega (arith, ((stop_exactly l p).0 (stopped (parsed l) p e)).within)
      text_placed m k p (later e (here x f)) = placed_18 e p f m
      text_placed m k p (later e (later f g)) = placed_none b k p g
