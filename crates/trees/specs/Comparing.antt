-- Comparing two rows: how many groups they share and how many each has alone, and the distance of two trees (RULES 8).
use Rattle.std.specs.Prelude.{ℕ, ◌+◌, List, not}
use Rattle.trees.specs.Lists.{filter, count}
use Rattle.trees.specs.Groups.{Group, trivial, member}
use Rattle.trees.specs.Checks.{Verdict, counted}
use Rattle.trees.specs.Numbering.{group_set}

-- the groups of a row that comparing counts: those that are not trivial, each once (RULES 8.2)
unfoldable pub nontrivial : ℕ → List ℕ → List Group
nontrivial n r = filter (λ g. not (trivial g)) (group_set n r)

-- how many groups of the first set are in the second, and how many are not (RULES 8.1)
abbrev pub shared : List Group → List Group → ℕ
shared gs hs = count (λ g. member g hs) gs

abbrev pub alone : List Group → List Group → ℕ
alone gs hs = count (λ g. not (member g hs)) gs

-- of two sets, how many groups are in both, in the first alone and in the second alone (RULES 8.1)
abbrev pub counts_of : List Group → List Group → Verdict
counts_of gs hs = counted (shared gs hs) (alone gs hs) (alone hs gs)

-- what comparing answers for two valid rows (RULES 8.1, 8.2)
unfoldable pub compared : ℕ → List ℕ → List ℕ → Verdict
compared n r q = counts_of (nontrivial n r) (nontrivial n q)

-- the distance of two sets: how many groups are in exactly one of them (RULES 8.5)
abbrev pub distance : List Group → List Group → ℕ
distance gs hs = alone gs hs + alone hs gs
