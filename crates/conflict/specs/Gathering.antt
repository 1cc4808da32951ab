-- The walk in a row r that joins two groups, and the pass that joins what each node of a reference row q has got.
use Rattle.std.specs.Prelude.{ℕ, ◌≤◌, ◌<◌, min, ◌≡◌, ◌⊎◌, List, false, get_or, set}
use Rattle.trees.specs.Groups.{Group, has}
use Rattle.trees.specs.Rows.{nodes, group_at}
use Rattle.trees.specs.Tables.{least_at}
use Rattle.trees.specs.Passes.{part}
use Rattle.trees.specs.Mates.{from_end}
use Rattle.conflict.specs.declared.reach.Reach.{Reach}
use Rattle.conflict.specs.Spans.{Joined, up_from, Both, Climbed, Common}

-- ---- two groups joined

-- what a node has got so far: nothing, marked by 0, or a group that is joined
abbrev pub Got : ℕ → List ℕ → (ℕ → ℕ) → (ℕ → ℕ) → Group → Reach → Type 0
Got n r f l x t = ((t.node ≡ 0) × ((s : ℕ) → has x s ≡ false)) ⊎ Joined n r f l x t

-- a node, or none, marked by 0
abbrev pub NodeOrNone : ℕ → List ℕ → ℕ → Type 0
NodeOrNone n r a = (a ≡ 0) ⊎ ((n ≤ a) × (a < nodes r))

-- c joins whatever a and b have got
pub record Joins (n : ℕ) (r : List ℕ) (f l : ℕ → ℕ) (a b c : Reach) : Type 0 where
  pub joins : (x y z : Group) → Both x y z → Got n r f l x a → Joined n r f l y b → Joined n r f l z c

-- a walk from a and b has come to x and y
pub record Walk (n : ℕ) (r : List ℕ) (f l : ℕ → ℕ) (a b x y : Reach) : Type 0 where
  pub left : Climbed n r f l a x
  pub right : Climbed n r f l b y
  pub common : Common r a.node b.node x.node y.node

-- u is y, brought up to node x where it is below it
pub record Levelled (n : ℕ) (r : List ℕ) (f l : ℕ → ℕ) (x : ℕ) (y u : Reach) : Type 0 where
  pub node : u.node ≡ min x y.node
  pub climbed : (a : Reach) → a.node < nodes r → Climbed n r f l a y → Climbed n r f l a u

-- a walk that has come to x and y ends with c
pub record Ends (n : ℕ) (r : List ℕ) (f l : ℕ → ℕ) (x y c : Reach) : Type 0 where
  pub ends : (a b : Reach) → n ≤ a.node → a.node < nodes r → b.node < nodes r → Walk n r f l a b x y
      → Joins n r f l a b c

-- ---- a table of what nodes reach

-- what a group without a sample reaches
abbrev pub nothing : Reach
nothing = record { node = 0; first = 0; last = 0 }

-- the entry of node v
abbrev pub reach_at : List Reach → ℕ → Reach
reach_at t v = get_or t v nothing

-- ---- the pass

-- what node v starts with: a sample is reached by its parent, and an inner node has got nothing
pub record Begins (n : ℕ) (r : List ℕ) (f l : ℕ → ℕ) (v : ℕ) (t : Reach) : Type 0 where
  pub leaf : v < n → t ≡ up_from r f l v
  pub inner : n ≤ v → t.node ≡ 0

-- the nodes below m have what they start with
pub record Seeding (n : ℕ) (r : List ℕ) (f l : ℕ → ℕ) (m : ℕ) (t : List Reach) : Type 0 where
  pub begins : (v : ℕ) → v < m → Begins n r f l v (reach_at t v)

-- node p has been handed what v has got
pub record Handed (n : ℕ) (r : List ℕ) (f l : ℕ → ℕ) (v p : ℕ) (t t' : List Reach) : Type 0 where
  pub got : Reach
  pub joins : Joins n r f l (reach_at t p) (reach_at t v) got
  pub stored : t' ≡ set t p got

-- after d steps
pub record Gathered (n : ℕ) (q r : List ℕ) (f l : ℕ → ℕ) (d : ℕ) (t : List Reach) : Type 0 where
  pub low : d < nodes q
  pub got : (p : ℕ) → p < nodes q → Got n r f l (part n q d p) (reach_at t p)

-- after the last
pub record Gauged (n : ℕ) (q r : List ℕ) (f l : ℕ → ℕ) (t : List Reach) : Type 0 where
  pub joined : (h : ℕ) → h < nodes q → Joined n r f l (group_at n q h) (reach_at t h)

-- with the first and the last places of the row's nodes, by the places of the reference
abbrev pub Reached : ℕ → List ℕ → List ℕ → (ℕ → ℕ) → List Reach → Type 0
Reached n q r start t = Gauged n q r (least_at n r start) (least_at n r (from_end n start)) t
