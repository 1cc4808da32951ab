-- For and against: which runs conflict with a group, and how many do.
use Rattle.std.specs.Prelude.{ℕ, List, [], ◌∷◌, Bool, false, ◌||◌}
use Rattle.trees.specs.Lists.{weigh}
use Rattle.trees.specs.Groups.{Group, conflict}
use Rattle.trees.specs.Rows.{groups}
use Rattle.trees.specs.Reporting.{Run, worth}

-- whether some group of a list conflicts with g (RULES 3.4)
unfoldable pub crossed : Group → List Group → Bool
crossed g [] = false
crossed g (h ∷ hs) = conflict g h || crossed g hs

-- whether a row conflicts with g: one of its groups does
abbrev pub conflicts : ℕ → Group → List ℕ → Bool
conflicts n g r = crossed g (groups n r)

-- how many runs conflict with a group, as `support` says how many hold it
unfoldable pub against : ℕ → List Run → Group → ℕ
against n rs g = weigh worth (λ run. conflicts n g run.row) rs
