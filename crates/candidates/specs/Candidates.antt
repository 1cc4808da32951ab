-- The candidates of a study once all runs are counted, a row that is enough to count, and what a count leaves of it.
use Rattle.std.specs.Prelude.{ℕ, ◌≤◌, ◌≡◌, List, true}
use Rattle.trees.specs.Groups.{Group, size}
use Rattle.trees.specs.Rows.{nodes, inner}
use Rattle.trees.specs.Valid.{In, Standard}
use Rattle.trees.specs.Tables.{Tabled}
use Rattle.trees.specs.Reporting.{agreed}
use Rattle.trees.specs.Majority.{majority}
use Rattle.runs.specs.Words.{runs}
use Rattle.count.specs.Holders.{holders_at}
use Rattle.sides.specs.Counters.{tally_at}
use Rattle.counters.specs.Rounds.{Tied}

-- q has the candidates after all k runs of the study w
pub record Candidates (n : ℕ) (w : List ℕ) (k : ℕ) (q : List ℕ) : Type 0 where
  pub counters : List ℕ
  pub tied : Tied n (tally_at n (runs w) k) q counters

-- q is a standard row that has every group of two samples or more which is shown at threshold p
pub record Enough (n : ℕ) (w : List ℕ) (p : ℕ) (q : List ℕ) : Type 0 where
  pub standard : Standard n q
  pub all : (g : Group) → 2 ≤ size g → majority p n (runs w) g ≡ true → In g (inner n q)

-- out is the agreed row of the study w at threshold p, and t has how many runs hold the group of each inner node
pub record Agreed (n : ℕ) (w : List ℕ) (p : ℕ) (out t : List ℕ) : Type 0 where
  pub row : out ≡ agreed (majority p) n (runs w)
  pub holders : Tabled (holders_at n (runs w) out) n (nodes out) t
