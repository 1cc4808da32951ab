-- A pass over a falling row: where each sample stands while nodes are done, what each node has got by then, and the intervals of places.
use Rattle.std.specs.Prelude.{ℕ, zero, suc, ◌+◌, ◌-◌, ◌<◌, min, ◌≡◌, List, cond, eqb, get_or}
use Rattle.trees.specs.Lists.{tabulate}
use Rattle.trees.specs.Groups.{Group, size}
use Rattle.trees.specs.Rows.{nodes, parent}
use Rattle.trees.specs.Falls.{turn, due}
use Rattle.trees.specs.Tables.{Tabled, over, own, size_at, least_at}

-- the node of step d
abbrev pub node : ℕ → List ℕ → ℕ → ℕ
node n r d = turn n (nodes r) d

-- the node at which sample t stands once d nodes are done: what is done hands its samples to its parent
unfoldable pub stand : ℕ → List ℕ → ℕ → ℕ → ℕ
stand n r zero t = t
stand n r (suc d) t = cond (eqb (stand n r d t) (node n r d)) (parent r (node n r d)) (stand n r d t)

-- the samples that node p has got once d nodes are done; when p is done, it keeps what it has
unfoldable pub part : ℕ → List ℕ → ℕ → ℕ → Group
part n r d p = tabulate n (λ t. eqb (stand n r (min d (due n r p)) t) p) 0

-- the table of a pass after d steps
abbrev pub Stage : ℕ → List ℕ → (ℕ → ℕ → ℕ) → ℕ → (ℕ → ℕ) → ℕ → List ℕ → Type 0
Stage n r op e k d t = Tabled (λ p. over op e k (part n r d p) 0) 0 (nodes r) t

-- how many samples the parent of the node of step d has got when that node is done
abbrev pub offset_at : ℕ → List ℕ → ℕ → ℕ
offset_at n r d = size (part n r d (parent r (node n r d)))

-- v is the node of step d, and p its parent
pub record Stepped (n : ℕ) (r : List ℕ) (d v p : ℕ) : Type 0 where
  pub is : v ≡ node n r d
  pub up : p ≡ parent r v
  pub low : v < nodes r
  pub top : p < nodes r

-- the offsets of the nodes done in the first d steps
pub record Offsets (n : ℕ) (r : List ℕ) (d : ℕ) (t : List ℕ) : Type 0 where
  pub at : (i : ℕ) → i < d → get_or t (node n r i) 0 ≡ offset_at n r i

-- the sizes of all nodes, and the offsets of all but the root
pub record Sized (n : ℕ) (r size off : List ℕ) : Type 0 where
  pub sizes : Tabled (size_at n r) 0 (nodes r) size
  pub offs : Offsets n r (nodes r - 1) off

-- sizes and smallest samples: what ranks are made of
pub record Ranked (n : ℕ) (r size low : List ℕ) : Type 0 where
  pub sizes : Tabled (size_at n r) 0 (nodes r) size
  pub lows : Tabled (least_at n r own) 0 (nodes r) low

-- where the interval of each node starts: the root's at 0, any other's at its offset inside its parent's; a sample's is its place
pub record Starts (n : ℕ) (r : List ℕ) (start : ℕ → ℕ) : Type 0 where
  pub top : start n ≡ 0
  pub child : (d : ℕ) → suc d < nodes r → start (node n r d) ≡ start (parent r (node n r d)) + offset_at n r d
