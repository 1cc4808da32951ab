-- What a Newick text means (RULES 14.8): samples, and pairs with the number behind the closing bracket.
use Rattle.std.specs.Prelude.{ℕ, zero, suc}

-- the number of the run of digits behind a closing bracket, if there is one (RULES 14.4)
pub data Mark : Type 0 where
  unmarked : Mark
  marked : ℕ → Mark

-- a sample, or a pair that holds one subtree or more (RULES 14.2)
mutual
  pub data Tree : Type 0 where
    leaf : ℕ → Tree
    pair : Forest → Mark → Tree

  pub data Forest : Type 0 where
    only : Tree → Forest
    more : Forest → Tree → Forest

-- the brackets that are open: none; one with no comma yet; one with the subtrees before its last comma
pub data Stack : Type 0 where
  top : Stack
  opened : Stack → Stack
  later : Stack → Forest → Stack

-- how many brackets are open
unfoldable pub depth : Stack → ℕ
depth top = zero
depth (opened k) = suc (depth k)
depth (later k f) = suc (depth k)

-- the subtrees of the innermost bracket so far: none, or some before a comma
pub data Held : Type 0 where
  nothing : Held
  some : Forest → Held

abbrev pub frame : Stack → Held → Stack
frame k nothing = opened k
frame k (some f) = later k f

abbrev pub hold : Held → Tree → Forest
hold nothing t = only t
hold (some f) t = more f t
