-- The report (RULES 5): what runs hold, the groups that a rule shows, and the two rows that are written.
use Rattle.std.specs.Prelude.{ℕ, ◌-◌, List, [], ◌∷◌, ◌++◌, map, Bool, true}
use Rattle.trees.specs.Lists.{filter, weigh, zeros}
use Rattle.trees.specs.Groups.{Group}
use Rattle.trees.specs.Rows.{nodes, groups, holds}
use Rattle.trees.specs.Checks.{row_words}
use Rattle.trees.specs.Numbering.{ordered, branching, row_of}

-- a run: its identifier, and its tree as a row (RULES 6.3)
pub record Run : Type 0 where
  pub identifier : ℕ
  pub row : List ℕ

-- what a run counts for (RULES 5.1)
abbrev pub worth : Run → ℕ
worth run = 1

-- how many runs hold a group: s (RULES 5.1)
unfoldable pub support : ℕ → List Run → Group → ℕ
support n rs g = weigh worth (λ run. holds n g run.row) rs

-- how many runs are in force: k (RULES 5.1)
unfoldable pub total : List Run → ℕ
total rs = weigh worth (λ run. true) rs

-- Which groups are shown: over n samples, a test on the runs in force and a group.
abbrev pub Rule : Type 0
Rule = ℕ → List Run → Group → Bool

-- the groups of all runs
unfoldable pub held : ℕ → List Run → List Group
held n [] = []
held n (run ∷ rs) = groups n run.row ++ held n rs

-- the groups that some run holds and the rule passes, in order (RULES 5.1)
unfoldable pub shown : Rule → ℕ → List Run → List Group
shown rule n rs = filter (rule n rs) (ordered (held n rs))

-- the agreed row: the tree of the groups that are shown (RULES 5.4)
unfoldable pub agreed : Rule → ℕ → List Run → List ℕ
agreed rule n rs = row_of n (branching (shown rule n rs))

-- the support row beside a row: k, then the support of each node of it, then filler (RULES 5.5)
unfoldable pub supports_of : ℕ → List Run → List ℕ → List ℕ
supports_of n rs r = total rs ∷ (map (support n rs) (groups n r) ++ zeros (row_words n - 1 - nodes r))

-- the support row (RULES 5.5)
abbrev pub supports : Rule → ℕ → List Run → List ℕ
supports rule n rs = supports_of n rs (agreed rule n rs)
