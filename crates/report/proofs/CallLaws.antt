-- What a report answers and leaves, by what its checks answered. Assumes nothing.
use Prim.Native.Nat.{ℕ}
use mathlib.Core.Path.{◌≡◌, sym, ap, ◌∙◌}
use mathlib.Core.List.{List, [], ◌∷◌}
use lib.Dec.{eqb}
use Rattle.trees.specs.Checks.{accepted, Check, line, ◌⊳◌, asked}
use Rattle.trees.specs.RowCalls.{check3_both}
use Rattle.trees.specs.Thresholds.{threshold}
use Rattle.runs.specs.Words.{samples, in_force}
use Rattle.runs.specs.Formed.{Formed}
use Rattle.runs.specs.Calls.{check2}
use Rattle.runs.specs.Reports.{check14, check16, report_formed_checks, report_checks, reported}
use Rattle.runs.proofs.ReportLaws.{reported_refused}
use Rattle.std.specs.Prelude.{Err}
use Rattle.std.specs.Result.{IsErrAnd}
use Rattle.judge.specs.declared.Refusal.{Refusal}
use Rattle.judge.specs.Verdicts.{Answer, verdict}
use Rattle.judge.proofs.Laws.{handed_on, stopped, goes, last}
use Rattle.report.specs.ReportedLaws.{report-formed}

module _ (w : List ℕ) (p : ℕ) (a s : List ℕ) where
  -- ---- checks 3, 16 and 14, by the numbers that were read

  module _ (f : Formed w) {n : ℕ} (x : n ≡ samples w) where
    abbrev rest : List Check
    rest = check16 (threshold p) ∷ check14 w ∷ []

    chain : (check3_both n a s ∷ rest) ⊳ accepted ≡ (reported w p a s).verdict
    unfolding report_formed_checks
    chain = ap (λ (i : ℕ). (check3_both i a s ∷ rest) ⊳ accepted) x ∙ sym (report-formed w p a s f)

    pub words_stop : (r : Answer) (y : Refusal) → IsErrAnd r (λ z. z ≡ y) → verdict (Err y) ≡ asked (check3_both n a s) → verdict r ≡ (reported w p a s).verdict
    words_stop r y h e = stopped (check3_both n a s) rest r y h e ∙ chain

    module _ (e : accepted ≡ asked (check3_both n a s)) {t : ℕ} (z : t ≡ threshold p) where
      left : (check16 t ∷ check14 w ∷ []) ⊳ accepted ≡ (reported w p a s).verdict
      left = ap (λ (i : ℕ). (check16 i ∷ check14 w ∷ []) ⊳ accepted) z ∙ goes (check3_both n a s) rest e ∙ chain

      pub threshold_stops : (r : Answer) (y : Refusal) → IsErrAnd r (λ u. u ≡ y) → verdict (Err y) ≡ asked (check16 t) → verdict r ≡ (reported w p a s).verdict
      threshold_stops r y h g = stopped (check16 t) (check14 w ∷ []) r y h g ∙ left

      pub threshold_goes : accepted ≡ asked (check16 t) → {k : ℕ} → k ≡ in_force w → asked (line 14 (eqb k 0)) ≡ (reported w p a s).verdict
      threshold_goes g u = ap (λ (i : ℕ). asked (line 14 (eqb i 0))) u ∙ last (check14 w) ∙ goes (check16 t) (check14 w ∷ []) g ∙ left

  -- ---- check 2, and all of them

  module _ (r : Answer) (y : Refusal) (h : IsErrAnd r (λ z. z ≡ y)) where
    pub study_stops : verdict (Err y) ≡ asked (check2 w) → verdict r ≡ (reported w p a s).verdict
    unfolding reported report_checks
    study_stops e = stopped (check2 w) (report_formed_checks w p a s) r y h e

    -- a refusal is passed on, and both buffers are as they were
    pub report_stops : verdict (Err y) ≡ (reported w p a s).verdict
        → (verdict r ≡ (reported w p a s).verdict) × ((a ≡ (reported w p a s).agreed_row) × (s ≡ (reported w p a s).support_row))
    report_stops e = let o = reported_refused w p a s _ _ (sym e) in (handed_on r y h ∙ e, (sym o.0, sym o.1))
