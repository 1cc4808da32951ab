-- Demand 1 for writing; an accepted writing leaves the text of a valid row in front, which is of the form and is read as the row renumbered.
-- Assumes nothing.
use Rattle.std.specs.Prelude.{ℕ, ◌≤◌, ◌≡◌, ◌↔◌, not, ◌||◌, eqb, ltb, length, take}
use Rattle.std.proofs.Math.Path.{refl, ap}
use Rattle.std.proofs.Common.{sym, ◌∙◌, arith}
use mathlib.Core.List.{List, [], ◌∷◌, ◌++◌}
use Rattle.std.proofs.Math.Bool.{cond}
use Rattle.std.proofs.Math.ListN.{drop}
use Rattle.std.proofs.Math.Seq.{take-append_seam}
use borrow.Author.Tests.{eq-eqb, ltb-false, le-ltb}
use Rattle.trees.specs.Lists.{nowhere}
use Rattle.trees.specs.Checks.{Verdict, accepted, refused, wrote, Check, fewest_samples, most_samples, row_words, outside}
use Rattle.trees.specs.Checks.{check3, row_checks, judge_checks}
use Rattle.trees.specs.Valid.{Valid, is_accepted}
use Rattle.trees.specs.Numbering.{renumbered}
use Rattle.trees.proofs.ChainLaws.{Passed, passed_chain, wrote_other, unrefused_passed, Exactly, refused_exactly, numbers}
use Rattle.trees.proofs.ChainLaws.{line_passes, line_pass, passed_append, passed_split, chain_given, given_chain}
use Rattle.trees.proofs.CheckLaws.{samples_exactly}
use Rattle.trees.proofs.ValidLaws.{passed_valid, valid_passed}
use Rattle.trees.proofs.RowCallLaws.{both_lengths, both_fit}
use Rattle.trees.proofs.PlacedLaws.{Placed, placed_none, placed_line, placed_append, most_places, row_within}
use Rattle.newick.specs.Grammar.{OfForm}
use Rattle.newick.specs.ReadCalls.{reading}
use Rattle.newick.specs.RowText.{Wanted, Fitting, check3_wanted, check_room, written, filled, write_checks, writing}
use Rattle.newick.specs.RowText.Wanted.{plain, with_words}
use Rattle.newick.proofs.RoundTrip.{written_tells, reading_written}

-- ---- check 3 of what is read

wanted_to : (n : ℕ) (r : List ℕ) (w : Wanted) → (check3_wanted n r w).fault ≡ nowhere → ((check3 n r).fault ≡ nowhere) × Fitting n w
wanted_to n r plain e = (e, tt)
wanted_to n r (with_words ws) e = let t = both_lengths n r ws e in (rw (eq-eqb (length r) (row_words n) t.0), t.1)

wanted_from : (n : ℕ) (r : List ℕ) (w : Wanted) → length r ≡ row_words n → Fitting n w → (check3_wanted n r w).fault ≡ nowhere
wanted_from n r plain e f = rw (eq-eqb (length r) (row_words n) e)
wanted_from n r (with_words ws) e f = both_fit n r ws e f

module _ (n : ℕ) (r : List ℕ) (w : Wanted) (text : List ℕ) where
  abbrev checks : List Check
  checks = write_checks n r w text

  abbrev bytes : List ℕ
  bytes = written n r w

  -- the order of its checks (RULES 7.10)
  pub writing_numbers : numbers (write_checks n r w text) ≡ (1 ∷ 3 ∷ 5 ∷ 6 ∷ 7 ∷ 8 ∷ 9 ∷ 10 ∷ 3 ∷ [])
  unfolding write_checks row_checks
  writing_numbers = go w
    where
      go : (w : Wanted) → numbers (write_checks n r w text) ≡ (1 ∷ 3 ∷ 5 ∷ 6 ∷ 7 ∷ 8 ∷ 9 ∷ 10 ∷ 3 ∷ [])
      go plain = refl
      go (with_words ws) = refl

  -- DEMAND 1 of writing (RULES D1)
  pub writing_exactly : (k p : ℕ) → ((writing n r w text).verdict ≡ refused k p) ↔ Exactly k p (write_checks n r w text)
  unfolding writing
  writing_exactly = refused_exactly checks (wrote (length bytes)) (wrote_other (length bytes))

  -- and no byte of `text` differs then
  pub writing_refused : (k p : ℕ) → (writing n r w text).verdict ≡ refused k p → (writing n r w text).words ≡ text
  unfolding writing
  writing_refused k p e = ap (λ (v : Verdict). cond (is_accepted v) (filled bytes text) text)
      (given_chain checks accepted k p (chain_given checks (wrote (length bytes)) k p (wrote_other (length bytes) k p) e))

  passed_to : Passed checks → Valid n r × Fitting n w × (length bytes ≤ length text)
  unfolding write_checks judge_checks
  passed_to h =
      let t = wanted_to n r w h.1.0 in
      let s = passed_split (row_checks n r) (check_room bytes text ∷ []) h.1.1 in (
        passed_valid n r (h.0, (t.0, s.0)),
        t.1,
        ltb-false (length text) (length bytes)
            (line_passes 3 (ltb (length text) (length bytes)) s.1.0),
      )

  passed_from : Valid n r → Fitting n w → length bytes ≤ length text → Passed checks
  unfolding write_checks judge_checks
  passed_from ok f h = let p = valid_passed n r ok in (
    p.0,
    (
      wanted_from n r w ok.words f,
      passed_append (row_checks n r) (check_room bytes text ∷ []) p.1.1
          (line_pass 3 (ltb (length text) (length bytes)) (le-ltb (length text) (length bytes) h), tt),
    ),
  )

  -- it answers a length exactly if the row is valid, a support row that is wanted has 2n words, and the text, which is so long, fits
  pub writing_accepts : (k : ℕ) → ((writing n r w text).verdict ≡ wrote k)
      ↔ (Valid n r × Fitting n w × (k ≡ length (written n r w)) × (length (written n r w) ≤ length text))
  unfolding writing
  writing_accepts k = (
    λ e. let p = unrefused_passed checks (wrote (length bytes)) (λ x q d. wrote_other k x q (sym e ∙ d)) in
        let h = passed_to p in (h.0, h.1, same (length bytes) (sym (passed_chain checks (wrote (length bytes)) p) ∙ e), h.2),
    λ h. passed_chain checks (wrote (length bytes)) (passed_from h.0 h.1 h.3) ∙ ap wrote (sym h.2),
  )
    where
      same : (a : ℕ) → wrote a ≡ wrote k → k ≡ a
      same a q = cc

  -- no place reaches twice the words of the largest row
  pub writing_placed : Placed most_places (write_checks n r w text)
  unfolding write_checks
  writing_placed = placed_line most_places 1 (outside fewest_samples most_samples n) _ (omega arith)
      (λ e. size_placed w ((samples_exactly n).0 e))
    where
      rest : Wanted → List Check
      rest v = row_checks n r ++ (check_room (written n r v) text ∷ [])

      rest_placed : (v : Wanted) → (2 ≤ n) × (n ≤ 512) → Placed most_places (rest v)
      rest_placed v t = placed_append most_places (row_checks n r) (check_room (written n r v) text ∷ []) (row_within n r t.0 t.1)
          (placed_line most_places 3 (ltb (length text) (length (written n r v))) [] (omega arith) (λ e. placed_none most_places))

      size_placed : (v : Wanted) → (2 ≤ n) × (n ≤ 512) → Placed most_places (check3_wanted n r v ∷ rest v)
      size_placed plain t = placed_line most_places 3 (not (eqb (length r) (row_words n))) _ (omega arith) (λ e. rest_placed plain t)
      size_placed (with_words ws) t = placed_line most_places 3 (not (eqb (length r) (row_words n)) || not (eqb (length ws) (row_words n)))
          _ (omega arith)
          (λ e. rest_placed (with_words ws) t)

  module _ (k : ℕ) (e : (writing n r w text).verdict ≡ wrote k) where
    -- the answer is the length of the text, and behind it every byte stays (RULES 14.12)
    pub writing_bytes : (k ≡ length (written n r w)) × ((writing n r w text).words ≡ written n r w ++ drop k text)
    unfolding writing
    writing_bytes = let h = (writing_accepts k).0 e in (
      h.2,
      ap (λ (v : Verdict). cond (is_accepted v) (filled bytes text) text) (passed_chain checks accepted (passed_from h.0 h.1 h.3))
          ∙ ap (λ (i : ℕ). bytes ++ drop i text) (sym h.2),
    )

    -- the bytes of the text are those up to the answer
    pub writing_front : take k (writing n r w text).words ≡ written n r w
    writing_front = let h = writing_bytes in
        ap (take k) h.1 ∙ ap (λ (i : ℕ). take i (bytes ++ drop k text)) h.0 ∙ take-append_seam bytes (drop k text)

    -- they are of the form, and reading them gives the row renumbered (RULES 14.14)
    pub writing_form : OfForm (take k (writing n r w text).words)
    writing_form = let t = written_tells n r ((writing_accepts k).0 e).0 w in rw writing_front (t.tree, t.text)

    pub writing_read : (out : List ℕ) → length out ≡ row_words n
        → reading n (take k (writing n r w text).words) out ≡ record { verdict = accepted; words = renumbered n r }
    writing_read out h = ap (λ (l : List ℕ). reading n l out) writing_front ∙ reading_written n r out w ((writing_accepts k).0 e).0 h
