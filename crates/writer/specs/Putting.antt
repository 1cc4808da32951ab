-- What putting a node's text relies on, and what its loop over the children keeps.
use Rattle.std.specs.Prelude.{ℕ, ◌+◌, ◌≤◌, ◌<◌, ◌≡◌, List, ◌++◌, length}
use Rattle.trees.specs.Rows.{nodes}
use Rattle.trees.specs.Checks.{row_words}
use Rattle.trees.specs.Valid.{Valid}
use Rattle.newick.specs.RowText.{root_of}
use Rattle.put.specs.Writing.{Put}
use Rattle.chains.specs.Kids.{Chain, Kids}
use Rattle.writer.specs.Nesting.{in_pair}

-- words are those of a support row, or none
abbrev pub Supports : ℕ → List ℕ → Type 0
Supports n ws = 0 < length ws → length ws ≡ row_words n

-- if words are wanted, there is one for v
abbrev pub HasWord : List ℕ → ℕ → Type 0
HasWord ws v = 0 < length ws → v + 1 < length ws

-- v is a node of a valid row whose children stand in the tables
pub record Charted (n : ℕ) (head next : List ℕ) (v : ℕ) : Type 0 where
  pub row : List ℕ
  pub valid : Valid n row
  pub kids : Kids n row head next
  pub node : v < nodes row

-- before the child c, of children cs with texts f: what has been put behind the opening bracket, and what is to come
pub record Putting (n : ℕ) (head next : List ℕ) (f : ℕ → List ℕ) (cs out₀ : List ℕ) (at c : ℕ) (out : List ℕ) (e : ℕ)
    : Type 0 where
  pub chart : Charted n head next c
  pub done : List ℕ
  pub rest : List ℕ
  pub chain : Chain next (nodes chart.row) c rest
  pub split : in_pair f cs ≡ done ++ in_pair f rest
  pub put : Put done out₀ at out e
  pub room : e + length (in_pair f rest) ≤ length out
  pub same : length out ≡ length out₀

-- on the way from n to the root, before or at it
pub record RootAhead (n : ℕ) (r : List ℕ) (v : ℕ) : Type 0 where
  pub from : n ≤ v
  pub to : v ≤ root_of n r
