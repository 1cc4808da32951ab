-- How the answers of the checks make the answer of writing. Assumes nothing.
use Prim.Native.Nat.{ℕ, ◌≤◌, ◌<◌}
use mathlib.Core.Path.{◌≡◌, refl, sym, ap, ◌∙◌}
use mathlib.Core.List.{List, [], ◌∷◌, ◌++◌}
use native.Mathlib.Nat.{zero-add}
use native.Mathlib.Omega.{arith}
use lib.ListN.{length, drop}
use lib.Seq.{sets-eq}
use borrow.Author.Tests.{eqb-true, eq-eqb, not-false}
use Rattle.std.specs.Prelude.{Err}
use Rattle.std.specs.Result.{IsErrAnd}
use Rattle.std.proofs.lemmas.Result.{err_from_is_err_and}
use Rattle.trees.specs.Checks.{Verdict, accepted, wrote, Check, ◌⊳◌, fewest_samples, most_samples, row_words}
use Rattle.trees.specs.Checks.{check1, check3, row_checks, judge_checks}
use Rattle.trees.specs.RowCalls.{check3_both}
use Rattle.trees.specs.Valid.{Valid}
use Rattle.trees.specs.Outcomes.{Outcome}
use Rattle.trees.proofs.ChainLaws.{chain_passed, line_passes}
use Rattle.trees.proofs.CheckLaws.{samples_exactly}
use Rattle.trees.proofs.RowCallLaws.{both_lengths}
use Rattle.trees.proofs.ValidLaws.{passed_valid}
use Rattle.newick.specs.RowText.Wanted.{with_words}
use Rattle.put.specs.Writing.{Put}
use Rattle.judge.specs.declared.Refusal.{Refusal}
use Rattle.judge.specs.Verdicts.{number_of, verdict}
use Rattle.writer.specs.Lengths.{wanted_by}
use Rattle.writer.specs.Writings.{Written, written_verdict}
use Rattle.writer.specs.Remaining.{outcome_of, room_outcome}
use Rattle.writer.specs.WritingsLaws.{outcome_stops, outcome_goes, room_enough}

-- ---- checks that come first: a refusal is passed on, and after an acceptance the rest decides

-- what `?` hands on is the refusal that it met
handed_on : (r : Written) (x : Refusal) → IsErrAnd r (λ y. y ≡ x) → written_verdict r ≡ verdict (Err x)
handed_on r x h = let p = err_from_is_err_and r h in rw (p.1, p.2) refl

module _ (cs ds : List Check) (bytes text : List ℕ) where
  pub answer_stops : (r : Written) (x : Refusal) → IsErrAnd r (λ y. y ≡ x) → verdict (Err x) ≡ cs ⊳ accepted
      → (written_verdict r ≡ (outcome_of (cs ++ ds) bytes text).verdict) × (text ≡ (outcome_of (cs ++ ds) bytes text).words)
  answer_stops r x h e =
      let o = outcome_stops cs ds bytes text (number_of x.reason) x.place (sym e) in
      (handed_on r x h ∙ o.0, o.1)

  pub answer_goes : (v : Verdict) (out : List ℕ) → accepted ≡ cs ⊳ accepted
      → (v ≡ (outcome_of ds bytes text).verdict) × (out ≡ (outcome_of ds bytes text).words)
      → (v ≡ (outcome_of (cs ++ ds) bytes text).verdict) × (out ≡ (outcome_of (cs ++ ds) bytes text).words)
  answer_goes v out e t =
      let o = outcome_goes cs ds bytes text (sym e) in
      (t.0 ∙ ap (λ (u : Outcome). u.verdict) o, t.1 ∙ ap (λ (u : Outcome). u.words) o)

-- ---- the text that is put

pub room_put : (bytes text out : List ℕ) (k : ℕ) → length bytes ≤ length text → Put bytes text 0 out k
    → (wrote k ≡ (room_outcome bytes text).verdict) × (out ≡ (room_outcome bytes text).words)
room_put bytes text out k h p =
    let r = room_enough bytes text h in
    let whole : out ≡ bytes ++ drop (length bytes) text = p.bytes ∙ sets-eq bytes text 0 (omega arith) ∙ rw zero-add in
    (ap wrote (p.place ∙ zero-add (length bytes)) ∙ r.0, whole ∙ r.1)

-- ---- what the later checks know

module _ (n : ℕ) (r : List ℕ) where
  -- what checks 1 and 3 give
  abbrev Given : Type 0
  Given = (fewest_samples ≤ n) × (n ≤ most_samples) × (length r ≡ row_words n)

  pub given_one : accepted ≡ (check1 n ∷ check3 n r ∷ []) ⊳ accepted → Given
  given_one e =
      let h = chain_passed (check1 n ∷ check3 n r ∷ []) (sym e) in
      let b = (samples_exactly n).0 h.0 in
      (b.0, b.1, eqb-true (length r) (row_words n) (not-false _ (line_passes 3 _ h.1.0)))

  pub given_both : (ws : List ℕ) → accepted ≡ (check1 n ∷ check3_both n r ws ∷ []) ⊳ accepted → Given × (length ws ≡ row_words n)
  given_both ws e =
      let h = chain_passed (check1 n ∷ check3_both n r ws ∷ []) (sym e) in
      let b = (samples_exactly n).0 h.0 in
      let l = both_lengths n r ws h.1.0 in
      ((b.0, b.1, l.0), l.1)

  -- a row that passes all of them is valid
  pub row_valid : Given → accepted ≡ row_checks n r ⊳ accepted → Valid n r
  unfolding judge_checks
  row_valid g e = passed_valid n r (
    (samples_exactly n).1 (g.0, g.1),
    (rw (eq-eqb (length r) (row_words n) g.2), chain_passed (row_checks n r) (sym e)),
  )

-- words that are there are wanted
pub wanted_words : (ws : List ℕ) → 0 < length ws → wanted_by ws ≡ with_words ws
wanted_words [] h = absurd (omega arith)
wanted_words (x ∷ ws) h = refl
