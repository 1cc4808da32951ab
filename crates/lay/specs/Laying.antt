-- How a reading lays the nodes of a tree into a row: a node is made at the first comma of a pair, and each child is
-- linked to its pair's node
-- at the comma or bracket behind it. A pair with one subtree makes no node. Assumes nothing: these are definitions.
use Rattle.std.specs.Prelude.{ℕ, suc, ◌+◌, List, [], ◌∷◌, ◌++◌, min, cond, eqb, ltb, get_or, set, Option, None, Some}
use Rattle.trees.specs.Lists.{zeros}
use Rattle.trees.specs.Rows.{root_mark}
use Rattle.trees.specs.Checks.{row_words}
use Rattle.trees.specs.Tables.{table_words}
use Rattle.newick.specs.Tree.{Tree, Forest}
use Rattle.lay.specs.declared.tables.Standing.{Standing}
use Rattle.lay.specs.declared.tables.Standing.TheVariants.{Never, Once, Repeated}
use Rattle.newick.specs.Tree.Tree.{leaf, pair}
use Rattle.newick.specs.Tree.Forest.{only, more}

-- a node and its parent
pub record Link : Type 0 where
  pub child : ℕ
  pub up : ℕ

abbrev pub link : ℕ → ℕ → Link
link c p = record { child = c; up = p }

-- the words of a row with the links written in
unfoldable pub sets : List Link → List ℕ → List ℕ
sets [] row = row
sets (l ∷ ls) row = sets ls (set row (suc l.child) l.up)

-- a subtree that is laid: the next number that is free, its topmost node, and its links
pub record Strand : Type 0 where
  pub next : ℕ
  pub root : ℕ
  pub links : List Link

-- in a pair, after a subtree: its own node as well, or 0 while it has none
pub record Braid : Type 0 where
  pub next : ℕ
  pub node : ℕ
  pub root : ℕ
  pub links : List Link

-- numbers are not counted on past a full table; of a text that is accepted none is (`grow_few`)
abbrev pub capped : ℕ → ℕ
capped k = cond (ltb k table_words) (k + 1) k

abbrev pub node_of : ℕ → ℕ → ℕ
node_of node next = cond (eqb node 0) next node

abbrev pub next_of : ℕ → ℕ → ℕ
next_of node next = cond (eqb node 0) (capped next) next

-- at the first subtree; at a comma; at a further subtree; at the closing bracket
abbrev pub first_of : Strand → Braid
first_of g = record { next = g.next; node = 0; root = g.root; links = g.links }

abbrev pub part_by : Braid → Braid
part_by b = record {
  next = next_of b.node b.next;
  node = node_of b.node b.next;
  root = b.root;
  links = b.links ++ (link b.root (node_of b.node b.next) ∷ []);
}

abbrev pub then_by : Braid → Strand → Braid
then_by b g = record { next = g.next; node = b.node; root = g.root; links = b.links ++ g.links }

abbrev pub shut_by : Braid → Strand
shut_by b = record {
  next = b.next;
  root = cond (eqb b.node 0) b.root b.node;
  links = cond (eqb b.node 0) b.links (b.links ++ (link b.root b.node ∷ []));
}

-- from the number k on
unfoldable mutual
  pub grow : Tree → ℕ → Strand
  grow (leaf x) k = record { next = k; root = x; links = [] }
  grow (pair f μ) k = shut_by (spread f k)

  pub spread : Forest → ℕ → Braid
  spread (only t) k = first_of (grow t k)
  spread (more f t) k = then_by (part_by (spread f k)) (grow t (part_by (spread f k)).next)

-- the mark of a number that stands once more
abbrev pub once_more : Standing → Standing
once_more Never = Once
once_more Once = Repeated
once_more Repeated = Repeated

-- the marks with those of a list of numbers
unfoldable pub tally : List ℕ → List Standing → List Standing
tally [] marks = marks
tally (x ∷ xs) marks = tally xs (set marks x (once_more (get_or marks x Never)))

-- the lower of a number, where there is one, and another
abbrev pub lower : Option ℕ → ℕ → Option ℕ
lower None x = Some x
lower (Some b) x = Some (min b x)

-- the lowest number of a list that is not below n, or b where that is lower
unfoldable pub least : ℕ → List ℕ → Option ℕ → Option ℕ
least n [] b = b
least n (x ∷ xs) b = least n xs (cond (ltb x n) b (lower b x))

-- the row that is laid: its number of nodes, its links, and the mark at its topmost node
unfoldable pub laid_row : ℕ → Strand → List ℕ
laid_row n g = set (set (sets g.links (zeros (row_words n))) 0 g.next) (suc g.root) root_mark
