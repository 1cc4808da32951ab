-- The plain count over a study: its start, its step, its end. Assumes nothing.
use Rattle.std.specs.Prelude.{ℕ, ◌+◌, ◌<◌, ◌≡◌, Bool, length, get_or}
use Rattle.std.proofs.Common.{sym, subst, ◌∙◌, add-one}
use Rattle.std.proofs.Math.Path.{ap}
use mathlib.Core.List.{List, Memᴰ}
use Rattle.trees.specs.Rows.{nodes}
use Rattle.trees.specs.Valid.{Standard}
use Rattle.trees.specs.Numbering.{row_of}
use Rattle.trees.specs.Tables.{Tabled}
use Rattle.trees.specs.Reporting.{Run, agreed}
use Rattle.trees.specs.Thresholds.{InRange}
use Rattle.trees.specs.Majority.{majority, references}
use Rattle.trees.specs.Merging.{merged, Mergeable}
use Rattle.trees.proofs.ReportingLaws.{Sound}
use Rattle.trees.proofs.CountingLaws.{so_far_start, majority_so_far, Passing}
use Rattle.runs.specs.Words.{runs, run_at}
use Rattle.count.specs.Studies.{Study, row_at}
use Rattle.count.specs.StudyLaws.{study_most, study_length, study_run, study_all, study_some, study_sound, study_standard}
use Rattle.count.specs.Holders.{holders_at, Marked}
use Rattle.count.specs.HolderLaws.{marked_majority}
use Rattle.count.specs.Plain.{bare_row, all, accepted}
use Rattle.count.specs.TakingLaws.{so_far_standard, taken, takeable}

module _ (w : List ℕ) (n k t : ℕ) (study : Study w n k) (some : 0 < k) (range : InRange t) where
  ok : (run : Run) → Memᴰ run (runs w) → Standard n run.row
  ok = study_all w n k study

  one : 0 < length (runs w)
  one = study_some w n k study some

  sound : Sound (majority t) n (runs w)
  sound = study_sound w n k study some t range

  pub accepted_standard : (i : ℕ) → Standard n (accepted t n w i)
  accepted_standard i = so_far_standard (majority t) n (runs w) ok one sound (study_most w n k study) i

  pub accepted_start : bare_row n ≡ accepted t n w 0
  accepted_start = ap (row_of n) (sym (so_far_start (majority t) n (runs w) ok one sound))

  -- out is what is accepted after i runs, q the row of run i, and keep marks what is shown of it
  module _ (i : ℕ) (out q holders : List ℕ) (m : ℕ) (keep : List Bool) (h : i < k) (old : out ≡ accepted t n w i) (is : q ≡ row_at n w i)
      (held : Tabled (holders_at n (runs w) q) n (nodes q) holders) (full : m ≡ nodes q) (marked : Marked t k holders n m keep) where
    d : Run
    d = run_at n w i

    low : i < length (runs w)
    low = rw (study_length w n k study) h

    same : (get_or (runs w) i d).row ≡ q
    same = ap (λ (run : Run). run.row) (study_run w n k study i d h) ∙ sym is

    row : Standard n (get_or (runs w) i d).row
    row = rw (same, is) (study_standard w n k study i h)

    pass : Passing (majority t) n (runs w) ok one sound (get_or (runs w) i d).row keep
    pass = rw same (marked_majority t n (runs w) q holders k keep (study_length w n k study) held (rw full at marked))

    pub accepted_mergeable : Mergeable n out all q keep
    accepted_mergeable = rw old (subst (λ (z : List ℕ). Mergeable n (accepted t n w i) all z keep) same
        (takeable (majority t) n (runs w) ok one sound (study_most w n k study) i d keep low row pass))

    pub accepted_step : row_of n (merged n out all q keep) ≡ accepted t n w (i + 1)
    accepted_step = ap (λ (z : List ℕ). row_of n (merged n z all q keep)) old
        ∙ ap (λ (z : List ℕ). row_of n (merged n (accepted t n w i) all z keep)) (sym same)
        ∙ ap (row_of n) (taken (majority t) n (runs w) ok one sound (study_most w n k study) i d keep low row pass)
        ∙ ap (accepted t n w) (sym (add-one i))

  pub accepted_end : accepted t n w (references t k) ≡ agreed (majority t) n (runs w)
  unfolding agreed
  accepted_end = ap (λ (j : ℕ). accepted t n w (references t j)) (sym (study_length w n k study)) ∙ ap (row_of n) (majority_so_far t n (runs w) ok one sound)
