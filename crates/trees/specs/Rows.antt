-- A row: its nodes, its parents (RULES 2) and its groups (RULES 3).
use Rattle.std.specs.Prelude.{◌≡◌, ◌<◌}
use Rattle.std.specs.Prelude.{ℕ, zero, suc, ◌-◌, List, Bool, false, ◌&&◌, ◌||◌, not, eqb, get_or}
use Rattle.trees.specs.Lists.{tabulate}
use Rattle.trees.specs.Groups.{Group, member}

-- m, the number of nodes (RULES 2.1)
unfoldable pub nodes : List ℕ → ℕ
nodes r = get_or r 0 0

-- the parent of node v (RULES 2.2)
unfoldable pub parent : List ℕ → ℕ → ℕ
parent r v = get_or r (suc v) 0

-- what the root has in place of a parent (RULES 2.2)
abbrev pub root_mark : ℕ
root_mark = 65535

-- whether u is a child of v; of the mark, whether u is a root
abbrev pub child_of : List ℕ → ℕ → ℕ → Bool
child_of r v u = eqb (parent r u) v

-- whether v is met on the way up from u, u itself included, in at most this many steps
unfoldable pub meets : ℕ → List ℕ → ℕ → ℕ → Bool
meets zero r v u = eqb u v
meets (suc f) r v u = eqb u v || (not (child_of r root_mark u) && meets f r v (parent r u))

-- whether the way up from v comes to a root, in fewer than this many steps
unfoldable pub ends : ℕ → List ℕ → ℕ → Bool
ends zero r v = false
ends (suc f) r v = child_of r root_mark v || ends f r (parent r v)

-- the samples that are node v or stand below it (RULES 3.1); a way up that comes to a root does so within m steps (`ends_enough`)
unfoldable pub group_at : ℕ → List ℕ → ℕ → Group
group_at n r v = tabulate n (meets (nodes r) r v) 0

-- the groups of a tree, node by node (RULES 3.2)
unfoldable pub groups : ℕ → List ℕ → List Group
groups n r = tabulate (nodes r) (group_at n r) 0

-- the groups of the inner nodes, by number (RULES 1.2)
unfoldable pub inner : ℕ → List ℕ → List Group
inner n r = tabulate (nodes r - n) (group_at n r) n

-- whether a run with this row holds a group (RULES 5.1)
abbrev pub holds : ℕ → Group → List ℕ → Bool
holds n g r = member g (groups n r)

-- each parent of a node below m is the mark or a node below m
abbrev pub Closed : ℕ → List ℕ → Type 0
Closed m r = (v : ℕ) → v < m → child_of r root_mark v ≡ false → parent r v < m
