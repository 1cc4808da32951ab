-- A node of a row that contains a group, and the hull of those of its children that the group touches.
use Rattle.std.specs.Prelude.{ℕ, ◌+◌, ◌≤◌, ◌<◌, min, ◌≡◌, List, Bool, true, ◌&&◌, ◌||◌, leb}
use Rattle.trees.specs.Groups.{Group, has}
use Rattle.trees.specs.Rows.{nodes, parent, group_at}
use Rattle.trees.specs.Groups.{Within}
use Rattle.trees.proofs.RowLaws.{Above}
use Rattle.conflict.specs.declared.reach.Reach.{Reach}

-- u is a child of q that shares a sample with x
pub record Touches (n : ℕ) (r : List ℕ) (x : Group) (q u : ℕ) : Type 0 where
  pub low : u < nodes r
  pub up : parent r u ≡ q
  pub sample : ℕ
  pub mine : has x sample ≡ true
  pub its : has (group_at n r u) sample ≡ true

-- t contains x, and has the least of f and of l over its children that x touches
pub record Spans (n : ℕ) (r : List ℕ) (f l : ℕ → ℕ) (x : Group) (t : Reach) : Type 0 where
  pub low : n ≤ t.node
  pub high : t.node < nodes r
  pub inside : Within x (group_at n r t.node)
  pub under : (u : ℕ) → Touches n r x t.node u → (t.first ≤ f u) × (t.last ≤ l u)
  pub first : (u : ℕ) × Touches n r x t.node u × (t.first ≡ f u)
  pub last : (u : ℕ) × Touches n r x t.node u × (t.last ≡ l u)

-- and of its children none but a sample contains x
pub record Joined (n : ℕ) (r : List ℕ) (f l : ℕ → ℕ) (x : Group) (t : Reach) : Type 0 where
  pub spans : Spans n r f l x t
  pub least : (u : ℕ) → u < nodes r → parent r u ≡ t.node → Within x (group_at n r u) → u < n

-- the parent of node h, of which whatever h contains touches h alone
abbrev pub up_from : List ℕ → (ℕ → ℕ) → (ℕ → ℕ) → ℕ → Reach
up_from r f l h = record { node = parent r h; first = f h; last = l h }

-- the lesser of the first and of the last places of two groups at one node
abbrev pub lesser_of : Reach → Reach → Reach
lesser_of u t = record { node = u.node; first = min u.first t.first; last = min u.last t.last }

-- the samples of z are those of x and those of y
abbrev pub Both : Group → Group → Group → Type 0
Both x y z = (s : ℕ) → has z s ≡ (has x s || has y s)

-- x was reached from a by going up, and spans what a spans
pub record Climbed (n : ℕ) (r : List ℕ) (f l : ℕ → ℕ) (a x : Reach) : Type 0 where
  pub low : n ≤ x.node
  pub high : x.node < nodes r
  pub above : Above r x.node a.node
  pub spans : (g : Group) → Spans n r f l g a → Spans n r f l g x

-- what is above a and b is above x and y
abbrev pub Common : List ℕ → ℕ → ℕ → ℕ → ℕ → Type 0
Common r a b x y = (v : ℕ) → Above r v a → Above r v b → Above r v x × Above r v y

-- whether a hull of places, the last counted from the end, lies in the interval of `size` places that begins at `start`
abbrev pub covers : ℕ → ℕ → ℕ → ℕ → ℕ → Bool
covers n size start lo hi = leb start lo && leb n (start + size + hi)
