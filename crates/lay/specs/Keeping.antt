-- What a reading keeps, and what a subtree, a sample, a comma and a closing bracket do to it and to the row and the
-- marks.
use Rattle.std.specs.Prelude.{ℕ, ◌+◌, ◌≤◌, ◌<◌, ◌≡◌, ◌⊎◌, cond, List, [], eqb, ltb, length, get_or, set, Option, None, Some, Result, Ok, Err}
use Rattle.trees.specs.Checks.{most_samples}
use Rattle.trees.specs.Tables.{table_words}
use Rattle.newick.specs.Tree.{Tree, Forest, Stack, depth, Held, frame}
use Rattle.newick.specs.Tree.Held.{nothing, some}
use Rattle.newick.specs.Meaning.{samples, samples_in, times}
use Rattle.newick.specs.Walk.State.{want, measured}
use Rattle.newick.specs.Grammar.{most_open, sample_bound}
use Rattle.newick.specs.Bytes.{closing_byte}
use Rattle.scan.specs.declared.Stop.{Stop}
use Rattle.scan.specs.Scanning.{from, Fresh, Marked, Closes, Stuck}
use Rattle.lay.specs.declared.keep.Kept.{Kept}
use Rattle.lay.specs.declared.tables.Standing.{Standing}
use Rattle.lay.specs.declared.tables.Standing.TheVariants.{Never}
use Rattle.lay.specs.Laying.{sets, Braid, node_of, next_of, part_by, grow, spread, once_more, tally, lower, least}

-- ---- a subtree

-- a subtree stands from p to before e, with at most d brackets in one another
pub record Whole (l : List ℕ) (p d e : ℕ) : Type 0 where
  pub later : p < e
  pub within : e ≤ length l
  pub fresh : Fresh l e
  pub tree : Tree
  pub goes : (k : Stack) → depth k + d ≡ most_open → from l p (want k) ≡ from l e (measured k tree)

-- what a tree adds to what is kept, to a row and to marks
pub record Lays (t : Tree) (c : Kept) (row : List ℕ) (marks : List Standing) (g : Kept) (row' : List ℕ) (marks' : List Standing) : Type 0 where
  pub links : row' ≡ sets (grow t c.next).links row
  pub stands : marks' ≡ tally (samples t) marks
  pub root : g.root ≡ (grow t c.next).root
  pub next : g.next ≡ (grow t c.next).next
  pub large : g.large ≡ least most_samples (samples t) c.large
  pub small : g.root < sample_bound
  pub most : g.next ≤ table_words
  pub below : (x : ℕ) → 1 ≤ times x (samples t) → x < sample_bound

-- a subtree is read and laid
pub record LaidTo (l : List ℕ) (p d : ℕ) (kept : Kept) (row : List ℕ) (marks : List Standing) (e : ℕ) (kept' : Kept) (row' : List ℕ) (marks' : List Standing) : Type 0 where
  pub whole : Whole l p d e
  pub lays : Lays whole.tree kept row marks kept' row' marks'

-- it is, or no subtree goes on
abbrev pub Laid : List ℕ → ℕ → ℕ → Kept → List ℕ → List Standing → Result ℕ Stop → Kept → List ℕ → List Standing → Type 0
Laid l p d kept row marks (Ok e) kept' row' marks' = LaidTo l p d kept row marks e kept' row' marks'
Laid l p d kept row marks (Err q) kept' row' marks' = Stuck l p d q.at

-- ---- the steps

-- the number of a pair's node, or 0 while the pair has none
abbrev pub number : Option ℕ → ℕ
number None = 0
number (Some v) = v

-- no node has the number 0
abbrev pub Named : Option ℕ → Type 0
Named None = Unit {0}
Named (Some v) = 1 ≤ v

-- a sample
pub record Takes (x : ℕ) (kept : Kept) (marks : List Standing) (kept' : Kept) (marks' : List Standing) : Type 0 where
  pub root : kept'.root ≡ x
  pub next : kept'.next ≡ kept.next
  pub large : kept'.large ≡ cond (ltb x most_samples) kept.large
      (lower kept.large x)
  pub stands : marks' ≡ set marks x (once_more (get_or marks x Never))

-- a comma in a pair that has the node v, or 0 for none; after it the node is r
pub record Parts (v : ℕ) (kept : Kept) (row : List ℕ) (r : ℕ) (kept' : Kept) (row' : List ℕ) : Type 0 where
  pub node : r ≡ node_of v kept.next
  pub next : kept'.next ≡ next_of v kept.next
  pub large : kept'.large ≡ kept.large
  pub links : row' ≡ set row (kept.root + 1) (node_of v kept.next)
  pub small : r ≤ table_words
  pub most : kept'.next ≤ table_words

-- the closing bracket of a pair that has the node v, or 0 for none, as a pair with one subtree
pub record Shuts (v : ℕ) (kept : Kept) (row : List ℕ) (kept' : Kept) (row' : List ℕ) : Type 0 where
  pub root : kept'.root ≡ cond (eqb v 0) kept.root v
  pub next : kept'.next ≡ kept.next
  pub large : kept'.large ≡ kept.large
  pub links : row' ≡ cond (eqb v 0) row (set row (kept.root + 1) v)
  pub small : kept'.root < sample_bound

-- a closing bracket at e, with what follows it up to f
pub record ClosedTo (l : List ℕ) (e v : ℕ) (kept : Kept) (row : List ℕ) (f : ℕ) (kept' : Kept) (row' : List ℕ) : Type 0 where
  pub bracket : get_or l e 0 ≡ closing_byte
  pub marked : Marked l (e + 1) f
  pub shuts : Shuts v kept row kept' row'

-- it stands there; or another byte does, or what follows it stops
abbrev pub Closed : List ℕ → ℕ → ℕ → Kept → List ℕ → Result ℕ Stop → Kept → List ℕ → Type 0
Closed l e v kept row (Ok f) kept' row' = ClosedTo l e v kept row f kept' row'
Closed l e v kept row (Err q) kept' row' =
    ((q.at ≡ e) × (get_or l e 0 ≡ closing_byte → ⊥)) ⊎ ((get_or l e 0 ≡ closing_byte) × Closes l (e + 1) (Err q))

-- ---- in a pair

-- in an open bracket, behind the bracket or a comma, at j
pub record Inside (l : List ℕ) (p d j : ℕ) : Type 0 where
  pub after : p < j
  pub within : j ≤ length l
  pub held : Held
  pub goes : (k : Stack) → depth k + d ≡ most_open → from l p (want k) ≡ from l j (want (frame k held))

-- what the subtrees before a comma have laid, and their samples
abbrev pub spread_held : Held → ℕ → Braid
spread_held nothing k = record { next = k; node = 0; root = 0; links = [] }
spread_held (some f) k = part_by (spread f k)

abbrev pub samples_held : Held → List ℕ
samples_held nothing = []
samples_held (some f) = samples_in f

-- what is laid behind an opening bracket or a comma; v is the pair's node, or 0 while it has none
pub record Along (h : Held) (c : Kept) (row₀ : List ℕ) (marks₀ : List Standing) (v : ℕ) (d : Kept) (row : List ℕ) (marks : List Standing) : Type 0 where
  pub links : row ≡ sets (spread_held h c.next).links row₀
  pub stands : marks ≡ tally (samples_held h) marks₀
  pub node : v ≡ (spread_held h c.next).node
  pub next : d.next ≡ (spread_held h c.next).next
  pub large : d.large ≡ least most_samples (samples_held h) c.large
  pub small : v ≤ table_words
  pub most : d.next ≤ table_words
  pub low : 1 ≤ d.next
  pub below : (x : ℕ) → 1 ≤ times x (samples_held h) → x < sample_bound

-- what is laid after a subtree
pub record After (f : Forest) (c : Kept) (row₀ : List ℕ) (marks₀ : List Standing) (v : ℕ) (g : Kept) (row : List ℕ) (marks : List Standing) : Type 0 where
  pub links : row ≡ sets (spread f c.next).links row₀
  pub stands : marks ≡ tally (samples_in f) marks₀
  pub node : v ≡ (spread f c.next).node
  pub root : g.root ≡ (spread f c.next).root
  pub next : g.next ≡ (spread f c.next).next
  pub large : g.large ≡ least most_samples (samples_in f) c.large
  pub small : g.root < sample_bound
  pub most : g.next ≤ table_words
  pub below : (x : ℕ) → 1 ≤ times x (samples_in f) → x < sample_bound

-- the loop over the subtrees of a pair: where it stands in the text, and what it has laid
pub record Paired (l : List ℕ) (p d : ℕ) (kept₀ : Kept) (row₀ : List ℕ) (marks₀ : List Standing) (j v : ℕ)
    (kept : Kept) (row : List ℕ) (marks : List Standing) : Type 0 where
  pub some : 0 < d
  pub inside : Inside l p d j
  pub along : Along inside.held kept₀ row₀ marks₀ v kept row marks
