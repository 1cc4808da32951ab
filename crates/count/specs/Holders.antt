-- How many runs pass a test, such as holding it, with the group of each node of a row; and which nodes are shown.
use Rattle.std.specs.Prelude.{ℕ, ◌+◌, ◌≤◌, ◌<◌, List, Bool, not, cond, eqb, length, get_or, take}
use Rattle.trees.specs.Lists.{weigh}
use Rattle.trees.specs.Groups.{Group}
use Rattle.trees.specs.Rows.{nodes, group_at}
use Rattle.trees.specs.Tables.{Tabled, Flags, entry}
use Rattle.trees.specs.Mates.{no_mate}
use Rattle.trees.specs.Reporting.{Run, worth, support}
use Rattle.trees.specs.Majority.{is_shown}

-- how many of the runs hold the group of node v of q
abbrev pub holders_at : ℕ → List Run → List ℕ → ℕ → ℕ
holders_at n rs q v = support n rs (group_at n q v)

-- a test of a group against a row, such as that the row holds it
abbrev pub Test : Type 0
Test = Group → List ℕ → Bool

-- how many of the runs pass a test with that group
abbrev pub passing_at : Test → ℕ → List Run → List ℕ → ℕ → ℕ
passing_at p n rs q v = weigh worth (λ run. p (group_at n q v) run.row) rs

-- what a table counts at v, and one more where v has a mate, or where r passes the test with the group of v in q
abbrev pub with_mate : List ℕ → List ℕ → ℕ → ℕ
with_mate mate t v = entry t v + cond (not (eqb (entry mate v) no_mate)) 1 0

abbrev pub with_run : Test → ℕ → List ℕ → List ℕ → List ℕ → ℕ → ℕ
with_run p n q r t v = entry t v + cond (p (group_at n q v) r) 1 0

-- each word from a to below b is below k
pub record Under (k a b : ℕ) (t : List ℕ) : Type 0 where
  pub lt : (v : ℕ) → a ≤ v → v < b → get_or t v 0 < k

-- t counts, for the inner groups of q, those of the first j runs that pass the test
pub record Counting (p : Test) (n : ℕ) (rs : List Run) (q : List ℕ) (j : ℕ) (t : List ℕ) : Type 0 where
  pub high : j ≤ length rs
  pub counts : Tabled (passing_at p n (take j rs) q) n (nodes q) t

-- the flags from a to below b, by a table of the numbers of runs: what is shown at threshold t
abbrev pub Marked : ℕ → ℕ → List ℕ → ℕ → ℕ → List Bool → Type 0
Marked t k holders a b keep = Flags (λ v. is_shown t k (entry holders v)) a b keep
