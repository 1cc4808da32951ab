-- The runs of a study: as many as its header says, each where it stands in the words, each standard. Assumes nothing.
use Rattle.std.specs.Prelude.{ℕ, ◌+◌, ◌≤◌, ◌<◌, ◌≡◌, length, get_or}
use Rattle.std.proofs.Common.{sym, subst, ◌∙◌, zero-add, arith}
use Rattle.std.proofs.Math.Path.{ap}
use mathlib.Core.List.{List, Memᴰ}
use Rattle.trees.specs.Checks.{fewest_samples, most_samples}
use Rattle.trees.specs.Valid.{Standard}
use Rattle.trees.specs.Reporting.{Run, agreed}
use Rattle.trees.specs.Thresholds.{InRange}
use Rattle.trees.specs.Majority.{majority}
use Rattle.trees.proofs.ListLaws.{member_at, get_d_tabulate}
use Rattle.trees.proofs.ReportingLaws.{Runs, Sound}
use Rattle.trees.proofs.MajorityLaws.{majority_sound, majority_standard}
use Rattle.runs.specs.Words.{samples, in_force, slot_start, slot_words, run_at, runs, most_runs}
use Rattle.runs.proofs.WordLaws.{length_runs}
use Rattle.runs.proofs.SlotLaws.{slot_within, formed_fits, formed_few}
use Rattle.runs.proofs.FormedLaws.{formed_to}
use Rattle.count.specs.declared.held.Held.{Held}
use Rattle.count.specs.Studies.{Study, row_at}

-- a study that the code holds
pub held_study : (s : Held) → Study s.words.now s.n s.k
held_study s = record { formed = formed_to s.words.now s.formed; over = s.over; force = s.force }

module _ (w : List ℕ) (n k : ℕ) (study : Study w n k) where
  pub study_least : fewest_samples ≤ n
  study_least = rw study.over study.formed.least

  pub study_most : n ≤ most_samples
  study_most = rw study.over study.formed.most

  pub study_few : k ≤ most_runs
  study_few = rw study.force (formed_few w study.formed)

  pub study_length : length (runs w) ≡ k
  study_length = length_runs w ∙ sym study.force

  pub study_room : (j : ℕ) → j < k → slot_start n j + slot_words n ≤ length w
  study_room j h = rw study.over (slot_within (samples w) j (in_force w) (length w) (omega (arith, study.force)) (formed_fits w study.formed))

  pub study_run : (j : ℕ) (d : Run) → j < k → get_or (runs w) j d ≡ run_at n w j
  unfolding runs
  study_run j d h = rw study.over
      (get_d_tabulate (in_force w) (run_at (samples w) w) 0 j d (omega (arith, study.force)) ∙ ap (run_at (samples w) w) (zero-add j))

  pub study_all : (run : Run) → Memᴰ run (runs w) → Standard n run.row
  study_all run m = rw study.over (study.formed.stored run m).standard

  pub study_valid : Runs n (runs w)
  study_valid run m = (study_all run m).valid

  -- where it has a run, what is shown at any threshold is a tree
  pub study_some : 0 < k → 0 < length (runs w)
  study_some h = rw study_length h

  pub study_sound : 0 < k → (t : ℕ) → InRange t → Sound (majority t) n (runs w)
  study_sound h t i = majority_sound t n (runs w) (study_some h) i.0 study_valid

  pub study_agreed : 0 < k → (t : ℕ) → InRange t → Standard n (agreed (majority t) n (runs w))
  study_agreed h t i = majority_standard t n (runs w) (study_some h) i.0 study_valid

  pub study_standard : (j : ℕ) → j < k → Standard n (row_at n w j)
  study_standard j h = let d : Run = run_at n w j in
      subst (λ (run : Run). Standard n run.row) (study_run j d h) (study_all (get_or (runs w) j d) (member_at (runs w) j d (rw study_length h)))
