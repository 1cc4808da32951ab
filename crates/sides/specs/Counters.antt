-- The counters: one pass over the runs that keeps, of all groups, the few that more runs can hold than conflict with.
use Rattle.std.specs.Prelude.{ℕ, ◌+◌, ◌-◌, max, List, [], ◌∷◌, ◌++◌, Bool, cond, ltb, take}
use Rattle.trees.specs.Lists.{filter}
use Rattle.trees.specs.Groups.{Group, conflict}
use Rattle.trees.specs.Rows.{groups, holds}
use Rattle.trees.specs.Reporting.{Run, worth}
use Rattle.sides.specs.Sides.{conflicts}

-- The candidates and their counters; every other group has the counter 0.
pub record Tally : Type 0 where
  pub candidates : List Group
  pub counter : Group → ℕ

-- nothing is counted yet
unfoldable pub blank : Tally
blank = record { candidates = []; counter = λ g. 0 }

-- the largest counter of a list's groups that pass a test, 0 where none does
unfoldable pub largest : (Group → ℕ) → (Group → Bool) → List Group → ℕ
largest c t [] = 0
largest c t (g ∷ gs) = max (cond (t g) (c g) 0) (largest c t gs)

-- the largest counter of the candidates in conflict with g
abbrev pub rival : Tally → Group → ℕ
rival s g = largest s.counter (conflict g) s.candidates

-- A run of weight w is counted. What it holds gains w, less the largest counter in conflict with it: so a candidate
-- gains w, and a group that is none enters with what is left of w. What it conflicts with loses w. Counters that come
-- to 0 are candidates no more.
unfoldable pub moved : ℕ → ℕ → List ℕ → Tally → Group → ℕ
moved n w r s g =
    cond (holds n g r) (s.counter g + (w - rival s g)) (cond (conflicts n g r) (s.counter g - w) (s.counter g))

unfoldable pub step : ℕ → ℕ → List ℕ → Tally → Tally
step n w r s = record {
  candidates = filter (λ g. ltb 0 (moved n w r s g)) (s.candidates ++ groups n r);
  counter = moved n w r s;
}

-- all runs are counted
unfoldable pub tallied : ℕ → List Run → Tally → Tally
tallied n [] s = s
tallied n (run ∷ rs) s = tallied n rs (step n (worth run) run.row s)

-- the counters after the first i runs
abbrev pub tally_at : ℕ → List Run → ℕ → Tally
tally_at n rs i = tallied n (take i rs) blank

-- the candidates after all runs
abbrev pub finalists : ℕ → List Run → List Group
finalists n rs = (tallied n rs blank).candidates
