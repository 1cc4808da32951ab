-- Mates: nodes of two rows that have the same group, and how they are found.
use Rattle.std.specs.Prelude.{ℕ, ◌+◌, ◌-◌, List, Bool, ◌&&◌, cond, eqb, ltb, leb}
use Rattle.trees.specs.Lists.{Place, nowhere, at, range, first}
use Rattle.trees.specs.Groups.{same}
use Rattle.trees.specs.Rows.{nodes, group_at}
use Rattle.trees.specs.Tables.{Tabled, entry, size_at, least_at, rank_at}
use Rattle.trees.specs.Passes.{Ranked, Starts}

-- the place found, or else e
abbrev pub or_else_at : ℕ → Place → ℕ
or_else_at e nowhere = e
or_else_at e (at b) = b

-- 0 is a sample, and so no inner node
abbrev pub no_mate : ℕ
no_mate = 0

-- the inner node of r that has the group of node a of q, or none
unfoldable pub mate_of : ℕ → List ℕ → List ℕ → ℕ → ℕ
mate_of n q r a = or_else_at no_mate (first (λ b. same (group_at n q a) (group_at n r b)) (range n (nodes r)))

-- ---- how it is found

-- the first node from a to below m whose rank is k or more, or else m: the only one that can have the group of a node of rank k
unfoldable pub candidate : (ℕ → ℕ) → ℕ → ℕ → ℕ → ℕ
candidate rank a m k = or_else_at m (first (λ x. leb k (rank x)) (range a m))

-- the candidate of node a of q in r
abbrev pub candidate_of : ℕ → List ℕ → List ℕ → ℕ → ℕ
candidate_of n q r a = candidate (rank_at n r) n (nodes r) (rank_at n q a)

-- whether a node of `other` samples has the group of a node of `size` samples whose interval begins at `start`: equal sizes, and the first and the last
-- of its places in the interval; the last is counted from the end, as n - 1 - last
abbrev pub fitting : ℕ → ℕ → ℕ → ℕ → ℕ → ℕ → Bool
fitting n size start other first last = eqb size other && (leb start first && leb n (start + size + last))

-- b where it is a node below m that fits, and none otherwise
abbrev pub confirmed : ℕ → ℕ → Bool → ℕ
confirmed m b fits = cond (ltb b m && fits) b no_mate

-- a place, counted from the end
abbrev pub from_end : ℕ → (ℕ → ℕ) → ℕ → ℕ
from_end n place s = n - 1 - place s

-- the tables of a reference row: sizes, smallest samples, and starts of intervals
pub record Tables (n : ℕ) (q size low start : List ℕ) : Type 0 where
  pub ranked : Ranked n q size low
  pub starts : Starts n q (entry start)

-- what fitting looks at: sizes and starts of a reference row, and of each group of r its size, and its first and last place by the reference's places
pub record Spread (n : ℕ) (q r size start other firsts lasts : List ℕ) : Type 0 where
  pub sizes : Tabled (size_at n q) 0 (nodes q) size
  pub starts : Starts n q (entry start)
  pub others : Tabled (size_at n r) 0 (nodes r) other
  pub first : Tabled (least_at n r (entry start)) 0 (nodes r) firsts
  pub last : Tabled (least_at n r (from_end n (entry start))) 0 (nodes r) lasts
