-- The counters run by run: the next run is one step, they keep after each, and none is above the weight of all runs. Assumes nothing.
use Rattle.std.specs.Prelude.{ℕ, suc, ◌+◌, ◌≤◌, ◌<◌, ◌≡◌, refl, length, get_or, take, drop}
use Rattle.std.proofs.Common.{ap, ◌∙◌, subst, ⊎_elim, arith, take-append-drop, take-suc}
use mathlib.Core.List.Memᴰ
use mathlib.Core.List.{List, [], ◌∷◌, ◌++◌, Memᴰ}
use Rattle.trees.specs.Lists.{weigh}
use Rattle.trees.specs.Groups.{Group}
use Rattle.trees.specs.Rows.{holds}
use Rattle.trees.specs.Reporting.{Run, worth, support, total}
use Rattle.trees.proofs.BoolLaws.{decide}
use Rattle.trees.proofs.ReportingLaws.{Runs}
use Rattle.sides.specs.Sides.{against}
use Rattle.sides.specs.Counters.{Tally, blank, moved, step, tallied, tally_at}
use Rattle.sides.proofs.CounterLaws.{Keeps, moved_pro, moved_falls, final_keeps}

tallied_append : (n : ℕ) (xs ys : List Run) (s : Tally) → tallied n (xs ++ ys) s ≡ tallied n ys (tallied n xs s)
unfolding tallied
tallied_append n [] ys s = refl
tallied_append n (x ∷ xs) ys s = tallied_append n xs ys (step n (worth x) x.row s)

pub tally_next : (n : ℕ) (rs : List Run) (i : ℕ) (d : Run) → i < length rs
    → tally_at n rs (suc i) ≡ step n (worth (get_or rs i d)) (get_or rs i d).row (tally_at n rs i)
unfolding tallied
tally_next n rs i d h = ap (λ (xs : List Run). tallied n xs blank) (take-suc rs i d h)
    ∙ tallied_append n (take i rs) (get_or rs i d ∷ []) blank

pub tally_keeps : (n : ℕ) (rs : List Run) → Runs n rs → (i : ℕ) → Keeps (support n (take i rs)) (against n (take i rs)) (tally_at n rs i)
tally_keeps n rs ok i = final_keeps n (take i rs)
    (λ run m. ok run (subst (λ (xs : List Run). Memᴰ run xs) (take-append-drop i rs) (Memᴰ.append_left (drop i rs) m)))

-- ---- how large a counter can be

moved_most : (n w : ℕ) (r : List ℕ) (s : Tally) (g : Group) → moved n w r s g ≤ s.counter g + w
moved_most n w r s g = ⊎_elim (λ p. omega (arith, moved_pro n w r s g p)) (λ p. omega (arith, moved_falls n w r s g p))
    (decide (holds n g r))

step_most : (n w : ℕ) (r : List ℕ) (s : Tally) (g : Group) → (step n w r s).counter g ≤ s.counter g + w
unfolding step
step_most n w r s g = moved_most n w r s g

tallied_most : (n : ℕ) (rs : List Run) (s : Tally) (g : Group) → (tallied n rs s).counter g ≤ s.counter g + total rs
unfolding tallied total weigh
tallied_most n [] s g = omega arith
tallied_most n (run ∷ rs) s g = omega (
  arith,
  tallied_most n rs (step n (worth run) run.row s) g,
  step_most n (worth run) run.row s g,
)

blank_counter : (g : Group) → blank.counter g ≡ 0
unfolding blank
blank_counter g = refl

pub tally_most : (n : ℕ) (rs : List Run) (i : ℕ) (g : Group) → (tally_at n rs i).counter g ≤ total (take i rs)
tally_most n rs i g = omega (arith, tallied_most n (take i rs) blank g, blank_counter g)
