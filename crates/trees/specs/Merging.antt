-- Merging two rows: the groups that are kept of either, in order, each once.
use Rattle.std.specs.Prelude.{ℕ, ◌≡◌, List, ◌++◌, map, Bool, true, false, ◌||◌, get_or}
use Rattle.trees.specs.Lists.{range, filter}
use Rattle.trees.specs.Groups.{Group}
use Rattle.trees.specs.Rows.{nodes, group_at}
use Rattle.trees.specs.Valid.{In, Standard}
use Rattle.trees.specs.Numbering.{ordered}
use Rattle.trees.specs.Groups.{Agree}

-- whether node v is kept, by a row's flags
abbrev pub flagged : List Bool → ℕ → Bool
flagged keep v = get_or keep v false

-- the groups of the nodes from v on that are kept, by number
unfoldable pub kept_from : ℕ → List ℕ → List Bool → ℕ → List Group
kept_from n r keep v = map (group_at n r) (filter (flagged keep) (range v (nodes r)))

-- the kept groups of a row: those of inner nodes
abbrev pub kept : ℕ → List ℕ → List Bool → List Group
kept n r keep = kept_from n r keep n

-- the kept groups of both rows, in order, each once
unfoldable pub merged : ℕ → List ℕ → List Bool → List ℕ → List Bool → List Group
merged n a keep_a b keep_b = ordered (kept n a keep_a ++ kept n b keep_b)

-- Two standard rows whose kept groups agree; the root, which is node n, is kept on one side or on both.
pub record Mergeable (n : ℕ) (a : List ℕ) (keep_a : List Bool) (b : List ℕ) (keep_b : List Bool) : Type 0 where
  pub first : Standard n a
  pub second : Standard n b
  pub agree : (g h : Group) → In g (kept n a keep_a) → In h (kept n b keep_b) → Agree g h
  pub top : flagged keep_a n || flagged keep_b n ≡ true
