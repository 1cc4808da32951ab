-- No run holds a group and conflicts with it; so more runs are for a group that a report shows than against it. Assumes nothing.
use Rattle.std.specs.Prelude.{ℕ, ◌+◌, ◌≤◌, ◌<◌, ◌≡◌, refl, List, [], ◌∷◌, true, false, not, length}
use Rattle.std.proofs.Common.{ap, ⊎_elim, arith}
use Rattle.std.proofs.lemmas.Bool.{false≢true}
use Rattle.trees.specs.Groups.{Group, agree, conflict}
use Rattle.trees.specs.Rows.{groups, holds}
use Rattle.trees.specs.Valid.{Valid, In}
use Rattle.trees.specs.Reporting.{Run, worth, support, total}
use Rattle.trees.specs.Thresholds.{least_threshold}
use Rattle.trees.specs.Majority.{majority}
use Rattle.trees.proofs.BoolLaws.{or_cases, or_l, or_r, not_yes}
use Rattle.trees.proofs.ListLaws.{weigh_apart}
use Rattle.trees.proofs.GroupLaws.{agree_to, conflict_to}
use Rattle.trees.proofs.MemberLaws.{in_none, in_head, in_tail, in_cases}
use Rattle.trees.proofs.NumberingLaws.{row_tree}
use Rattle.trees.proofs.MergingLaws.{agree_sym}
use Rattle.trees.proofs.ReportingLaws.{Runs, total_length}
use Rattle.trees.proofs.MajorityLaws.{shown_more}
use Rattle.sides.specs.Sides.{crossed, conflicts, against}

-- ---- conflict

pub conflict_swap : (g h : Group) → conflict g h ≡ true → conflict h g ≡ true
conflict_swap g h e = ap not (not_yes (agree h g) (λ a. conflict_to g h e (agree_sym h g (agree_to h g a))))

-- a list crosses g exactly if one of its groups conflicts with g
pub crossed_by : (g h : Group) (hs : List Group) → In h hs → conflict g h ≡ true → crossed g hs ≡ true
unfolding crossed
crossed_by g h [] m e = absurd (in_none h m)
crossed_by g h (k ∷ hs) m e = ⊎_elim (λ q. or_l (conflict g k) (crossed g hs) (rw (← q) e))
    (λ i. or_r (conflict g k) _ (crossed_by g h hs i e)) (in_cases h k hs m)

pub crossed_in : (g : Group) (hs : List Group) → crossed g hs ≡ true → (h : Group) × In h hs × (conflict g h ≡ true)
unfolding crossed
crossed_in g [] e = absurd (false≢true e)
crossed_in g (k ∷ hs) e = ⊎_elim (λ q. (k, in_head k hs, q))
    (λ q. let t = crossed_in g hs q in (t.0, in_tail t.0 k hs t.1, t.2)) (or_cases (conflict g k) (crossed g hs) e)

-- ---- one run

-- a run that holds one of two groups in conflict conflicts with the other
pub holder_conflicts : (n : ℕ) (r : List ℕ) (g h : Group) → conflict g h ≡ true → holds n g r ≡ true → conflicts n h r ≡ true
holder_conflicts n r g h c m = crossed_by h g (groups n r) m (conflict_swap g h c)

-- a run does not conflict with what it holds
pub held_peaceful : (n : ℕ) (r : List ℕ) → Valid n r → (g : Group) → holds n g r ≡ true → conflicts n g r ≡ false
held_peaceful n r ok g m = not_yes _ (λ e. let t = crossed_in g (groups n r) e in
    conflict_to g t.0 t.2 ((row_tree n r ok).agree g t.0 m t.1))

-- ---- all runs

module _ (n : ℕ) (rs : List Run) (ok : Runs n rs) where
  -- no run is for and against
  pub for_or_against : (g : Group) → support n rs g + against n rs g ≤ total rs
  unfolding support against total
  for_or_against g = weigh_apart worth (λ run. holds n g run.row) (λ run. conflicts n g run.row) (λ run. true) rs
      (λ run m e. (refl, held_peaceful n run.row (ok run m) g e)) (λ run m e. refl)

  -- more runs hold a group than conflict with it, if it is shown at a threshold that a report accepts
  pub shown_ahead : (t : ℕ) → least_threshold ≤ t → 0 < length rs → (g : Group) → majority t n rs g ≡ true → against n rs g < support n rs g
  shown_ahead t l some g e = omega (
    arith,
    for_or_against g,
    shown_more t (total rs) (support n rs g) l (omega (arith, total_length rs)) e,
  )
