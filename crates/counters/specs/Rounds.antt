-- The counters over rows: the candidates are the inner groups of a standard row, their counters a table by node.
use Rattle.std.specs.Prelude.{ℕ, ◌+◌, ◌-◌, ◌≤◌, ◌<◌, List, Bool, true, not, cond, ◌≡◌, ltb, replicate}
use Rattle.trees.specs.Groups.{Group, size}
use Rattle.trees.specs.Rows.{nodes, group_at, inner, holds}
use Rattle.trees.specs.Valid.{In, Standard}
use Rattle.trees.specs.Tables.{Tabled, Flags, table_words, entry}
use Rattle.trees.specs.Merging.{flagged}
use Rattle.sides.specs.Sides.{conflicts}
use Rattle.sides.specs.Counters.{Tally, step}
use Rattle.sides.proofs.CounterLaws.{Keeps}

-- The row q has the candidates of two samples or more and the whole, and the table t their counters.
pub record Tied (n : ℕ) (s : Tally) (q t : List ℕ) : Type 0 where
  pub standard : Standard n q
  pub counted : Tabled (λ v. s.counter (group_at n q v)) n (nodes q) t
  pub listed : (g : Group) → 2 ≤ size g → 0 < s.counter g → In g (inner n q)
  pub alive : (v : ℕ) → n < v → v < nodes q → 0 < s.counter (group_at n q v)

-- no counter in conflict with the run r is below w: so w is counted in one round
pub record Round (n w : ℕ) (r q t : List ℕ) : Type 0 where
  pub low : (v : ℕ) → n ≤ v → v < nodes q → conflicts n (group_at n q v) r ≡ true → w ≤ entry t v

-- a candidate's counter after the round, by whether the run holds it and whether it agrees with it
abbrev pub turned : ℕ → Bool → Bool → ℕ → ℕ
turned w held agrees c = cond held (c + w) (cond agrees c (c - w))

-- the same of node v: by flags, and by the row r of the run
abbrev pub turned_in : ℕ → List Bool → List Bool → List ℕ → ℕ → ℕ
turned_in w held agrees t v = turned w (flagged held v) (flagged agrees v) (entry t v)

abbrev pub turned_by : ℕ → ℕ → List ℕ → List ℕ → List ℕ → ℕ → ℕ
turned_by n w q r t v = turned w (holds n (group_at n q v) r) (not (conflicts n (group_at n q v) r)) (entry t v)

-- the table t' has the counters of f at the nodes from n to below m, and the flags say which are not 0
pub record Turned (f : ℕ → ℕ) (n m : ℕ) (t' : List ℕ) (keep : List Bool) : Type 0 where
  pub counts : Tabled f n m t'
  pub kept : Flags (λ v. ltb 0 (f v)) n m keep

-- of the run's nodes those are flagged that agree with all candidates
abbrev pub Entering : ℕ → List ℕ → List ℕ → List Bool → Type 0
Entering n q r enter = Flags (λ u. not (conflicts n (group_at n r u) q)) n (nodes r) enter

-- what a run counts for in the code's rounds, as `worth` has it
abbrev pub weight : ℕ
weight = 1

-- a table in which each counter is that of a new candidate
unfoldable pub weights : List ℕ
weights = replicate table_words weight

-- the counters of the nodes from n to below m can take w
pub record Room (n m w : ℕ) (t : List ℕ) : Type 0 where
  pub fits : (v : ℕ) → n ≤ v → v < m → entry t v + w < 65536

-- the row q and its table are tied to some counters that keep
pub record Ready (n : ℕ) (q t : List ℕ) : Type 0 where
  pub f : Group → ℕ
  pub a : Group → ℕ
  pub s : Tally
  pub keeps : Keeps f a s
  pub tied : Tied n s q t

-- the new row and table are tied to the next step, whatever the counters were
pub record Rounded (n w : ℕ) (r q t q' t'' : List ℕ) : Type 0 where
  pub ties : (f a : Group → ℕ) (s : Tally) → Keeps f a s → Tied n s q t → Tied n (step n w r s) q' t''
