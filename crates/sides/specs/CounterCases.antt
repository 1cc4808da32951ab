-- A worked case of the counters: weights 2, 3, 2, for which counters that simply move by the weight would lose a group that is ahead.
use Rattle.std.specs.Prelude.{ℕ, ◌≡◌, refl, List, [], ◌∷◌, true, false}
use Rattle.trees.specs.Lists.{tabulate, filter}
use Rattle.trees.specs.Groups.{Group, within, apart, same, member}
use Rattle.trees.specs.Rows.{nodes, parent, meets, group_at, groups}
use Rattle.sides.specs.Sides.{crossed}
use Rattle.sides.specs.Counters.{Tally, blank, largest, moved, step}

-- the groups {0,1} and {1,2} of three samples, and the rows that hold them
abbrev pub left : Group
left = true ∷ true ∷ false ∷ []

abbrev pub right : Group
right = false ∷ true ∷ true ∷ []

abbrev pub left_row : List ℕ
left_row = 5 ∷ 4 ∷ 4 ∷ 3 ∷ 65535 ∷ 3 ∷ []

abbrev pub right_row : List ℕ
right_row = 5 ∷ 3 ∷ 4 ∷ 4 ∷ 65535 ∷ 3 ∷ []

-- {0,1} with 2, {1,2} with 3, {0,1} with 2: ahead by 1, and its counter is 1. On entry {1,2} gets 3 - 2, and {0,1} at last 2 - 1.
-- A counter of 3 for {1,2} would outlive the last run, and {0,1} would be lost.
abbrev pub weighed : Tally
weighed = step 3 2 left_row (step 3 3 right_row (step 3 2 left_row blank))

pub case_weights : (weighed.counter left ≡ 1) × (weighed.counter right ≡ 0)
unfolding step moved blank largest filter crossed groups group_at tabulate nodes parent meets within apart same member
case_weights = (refl, refl)
