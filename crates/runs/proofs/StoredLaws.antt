-- Equal groups, equal words (RULES D2): two rows are stored as equal words exactly if they have the same groups, in whatever studies. Assumes nothing.
use Rattle.std.specs.Prelude.{ℕ, ◌≤◌, ◌≡◌, ◌↔◌, List, true}
use Rattle.std.proofs.Common.{sym, ap, ◌∙◌}
use Rattle.std.proofs.Math.Option.{Option, some}
use Rattle.trees.specs.Groups.{member}
use Rattle.trees.specs.Rows.{groups}
use Rattle.trees.specs.Checks.{accepted}
use Rattle.trees.specs.Valid.{Valid}
use Rattle.trees.specs.Numbering.{renumbered}
use Rattle.trees.specs.Reporting.{Run}
use Rattle.trees.proofs.NumberingLaws.{renumbered_groups, renumbered_same}
use Rattle.runs.specs.Runs.{find}
use Rattle.runs.specs.Words.{samples, runs, most_identifier}
use Rattle.runs.specs.Calls.{opened, added, stores}
use Rattle.runs.specs.Histories.{Call, add, identified, study_after, study_answers, last_accepted, SameGroups}
use Rattle.runs.proofs.AddLaws.{added_accepts, added_stored}
use Rattle.runs.proofs.HistoryLaws.{study_proper, study_groups}

-- two valid rows are renumbered to equal words exactly if they have the same groups
pub renumbered_equal : (n : ℕ) (r q : List ℕ) → Valid n r → Valid n q → (renumbered n r ≡ renumbered n q) ↔ SameGroups n r q
renumbered_equal n r q a b = (
  λ e g. sym (renumbered_groups n r a g) ∙ ap (λ (row : List ℕ). member g (groups n row)) e ∙ renumbered_groups n q b g,
  renumbered_same n r q,
)

found_equal : (n i j : ℕ) (r q : List ℕ) → Valid n r → Valid n q → (o p : Option Run) → o ≡ some (stores n i r) → p ≡ some (stores n j q)
    → (x y : Run) → o ≡ some x → p ≡ some y → (x.row ≡ y.row) ↔ SameGroups n r q
found_equal n i j r q a b o p s t x y f g =
    let k : x.row ≡ renumbered n r = cc (sym f ∙ s) in
    let l : y.row ≡ renumbered n q = cc (sym g ∙ t) in
    rw (k, l) (renumbered_equal n r q a b)

-- of two accepted adds, to any two studies over the same number of samples and under any two identifiers: the rows that are found there afterwards
-- are equal words exactly if the rows that came have the same groups
pub added_equal : (w v : List ℕ) (i j : ℕ) (r q : List ℕ) → samples v ≡ samples w → i ≤ most_identifier → j ≤ most_identifier
    → (added w i r).verdict ≡ accepted → (added v j q).verdict ≡ accepted
    → (x y : Run) → find i (runs (added w i r).words) ≡ some x → find j (runs (added v j q).words) ≡ some y
    → (x.row ≡ y.row) ↔ SameGroups (samples w) r q
added_equal w v i j r q s l m a b = found_equal (samples w) i j r q ((added_accepts w i r).0 a).valid (rw s at ((added_accepts v j q).0 b).valid) _ _
    (added_stored w i r l a).0 (rw s at (added_stored v j q m b).0)

-- of any two runs in force, after any two histories from opening for n samples on: their rows are equal words exactly if the rows of their last
-- accepted adds have the same groups
pub study_equal : (n : ℕ) (w v : List ℕ) (h g : List Call) → (opened n w).verdict ≡ accepted → (opened n v).verdict ≡ accepted
    → identified h ≡ true → identified g ≡ true → (i j k l : ℕ) (r q : List ℕ)
    → last_accepted h (study_answers n w h) i ≡ some (add k r) → last_accepted g (study_answers n v g) j ≡ some (add l q)
    → (x y : Run) → find i (runs (study_after n w h)) ≡ some x → find j (runs (study_after n v g)) ≡ some y → (x.row ≡ y.row) ↔ SameGroups n r q
study_equal n w v h g o p d e i j k l r q s t =
    found_equal n i j r q (rw s at (study_proper n w h o d i)) (rw t at (study_proper n v g p e j)) _ _
    (study_groups n w h o d i k r s).0 (study_groups n v g p e j l q t).0
