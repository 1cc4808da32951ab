-- The plain count: what is accepted after some of the runs have been tried.
use Rattle.std.specs.Prelude.{ℕ, List, ◌∷◌, take}
use Rattle.trees.specs.Lists.{filter}
use Rattle.trees.specs.Groups.{Group, whole}
use Rattle.trees.specs.Numbering.{ordered, branching}
use Rattle.trees.specs.Reporting.{Run, Rule, held}

-- the groups of two samples or more that the rule passes and one of the first i runs holds, the whole from the start
unfoldable pub so_far : Rule → ℕ → List Run → ℕ → List Group
so_far rule n rs i = branching (filter (rule n rs) (ordered (whole n ∷ held n (take i rs))))
