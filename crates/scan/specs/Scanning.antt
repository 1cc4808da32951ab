-- What stands at a place of a text: from there on the reading goes as from a later place and state, or stops (RULES
-- 14).
use Rattle.std.specs.Prelude.{ℕ, zero, suc, ◌+◌, ◌≤◌, ◌<◌, ◌≡◌, Bool, false, List, length, drop, get_or, Result, Ok, Err}
use Rattle.newick.specs.Tree.{Mark, Tree, Forest, Stack, depth}
use Rattle.newick.specs.Tree.Tree.{leaf, pair}
use Rattle.newick.specs.Tree.Stack.{opened}
use Rattle.newick.specs.Bytes.{is_blank, is_digit}
use Rattle.newick.specs.Lead.{lead}
use Rattle.newick.specs.Walk.{State, Parse, walk}
use Rattle.newick.specs.Walk.State.{want, sample, closed, ended, measured}
use Rattle.newick.specs.Walk.Parse.{stops}
use Rattle.newick.specs.Grammar.{most_open, sample_bound}
use Rattle.scan.specs.declared.Stop.{Stop}
use Rattle.scan.specs.declared.numbers.Number.{Number}
use Rattle.scan.specs.declared.heads.Start.{Start}
use Rattle.scan.specs.declared.heads.Start.TheVariants.{Leaf, Pair}

-- the place past the run of bytes that pass the test, from a place on
abbrev pub past : (ℕ → Bool) → List ℕ → ℕ → ℕ
past t l p = p + lead t (drop p l)

-- what calls of a test answer is what t says
abbrev pub Tells : (ℕ → Bool) → (ℕ → Bool → Type 0) → Type 0
Tells t post = (b : ℕ) (r : Bool) → post b r → r ≡ t b

-- a run of bytes that pass the test is passed by up to i
pub record Skipping (t : ℕ → Bool) (l : List ℕ) (p i : ℕ) : Type 0 where
  pub same : past t l p ≡ past t l i

-- the text l from place p on, read from the state s
abbrev pub from : List ℕ → ℕ → State → Parse
from l p s = walk s p (drop p l)

-- no blank stands at a place
abbrev pub Fresh : List ℕ → ℕ → Type 0
Fresh l p = p < length l → is_blank (get_or l p 0) ≡ false

-- no digit stands at a place
abbrev pub Plain : List ℕ → ℕ → Type 0
Plain l p = p < length l → is_digit (get_or l p 0) ≡ false

-- ---- a sample

-- what is above a sample of which so many digits may still come
unfoldable pub room : ℕ → ℕ
room zero = sample_bound
room (suc zero) = 10000
room (suc (suc zero)) = 1000
room (suc (suc (suc zero))) = 100
room (suc (suc (suc (suc c)))) = 10

-- the digits from p to below i are the value x, and so many digits may still come
pub record Sampling (l : List ℕ) (p x i left : ℕ) : Type 0 where
  pub later : p < i
  pub within : i ≤ length l
  pub few : left ≤ 4
  pub small : x < room left
  pub goes : (k : Stack) → from l p (want k) ≡ from l i (sample k x left)

-- the sample at p is x.value and ends before x.end
pub record Sampled (l : List ℕ) (p : ℕ) (x : Number) : Type 0 where
  pub later : p < x.end
  pub within : x.end ≤ length l
  pub small : x.value < sample_bound
  pub goes : (k : Stack) → from l p (want k) ≡ from l x.end (ended k (leaf x.value))

-- ---- what follows a subtree

-- from a state on, what may follow a subtree is read up to its last blank
pub record Followed (s : Stack → Tree → State) (l : List ℕ) (p e : ℕ) : Type 0 where
  pub later : p ≤ e
  pub within : e ≤ length l
  pub fresh : Fresh l e
  pub goes : (k : Stack) (t : Tree) → from l p (s k t) ≡ from l e (measured k t)

-- it is read, or the reading stops
abbrev pub Follows : (Stack → Tree → State) → List ℕ → ℕ → Result ℕ Stop → Type 0
Follows s l p (Ok e) = Followed s l p e
Follows s l p (Err q) = (k : Stack) (t : Tree) → from l p (s k t) ≡ stops q.at

-- what follows a subtree
abbrev pub Tail : List ℕ → ℕ → Result ℕ Stop → Type 0
Tail l p r = Follows ended l p r

-- after a closing bracket its mark, if there is one, and what may follow a subtree are read
pub record Marked (l : List ℕ) (p e : ℕ) : Type 0 where
  pub later : p ≤ e
  pub within : e ≤ length l
  pub fresh : Fresh l e
  pub mark : Mark
  pub goes : (k : Stack) (f : Forest) → from l p (closed k f) ≡ from l e (measured k (pair f mark))

-- what follows a closing bracket
abbrev pub Closes : List ℕ → ℕ → Result ℕ Stop → Type 0
Closes l p (Ok e) = Marked l p e
Closes l p (Err q) = (k : Stack) (f : Forest) → from l p (closed k f) ≡ stops q.at

-- ---- how a subtree starts

-- a sample is read, with what follows it
pub record Lone (l : List ℕ) (p : ℕ) (x : Number) : Type 0 where
  pub later : p < x.end
  pub within : x.end ≤ length l
  pub fresh : Fresh l x.end
  pub small : x.value < sample_bound
  pub goes : (k : Stack) → from l p (want k) ≡ from l x.end (measured k (leaf x.value))

-- a bracket opens at a, where so many may stand in one another
pub record Opens (l : List ℕ) (p d a : ℕ) : Type 0 where
  pub later : p ≤ a
  pub within : a < length l
  pub some : 0 < d
  pub goes : (k : Stack) → depth k + d ≡ most_open → from l p (want k) ≡ from l (a + 1) (want (opened k))

-- no subtree goes on at q
abbrev pub Stuck : List ℕ → ℕ → ℕ → ℕ → Type 0
Stuck l p d q = (k : Stack) → depth k + d ≡ most_open → from l p (want k) ≡ stops q

-- how a subtree starts
abbrev pub Starts : List ℕ → ℕ → ℕ → Result Start Stop → Type 0
Starts l p d (Ok (Leaf x)) = Lone l p x
Starts l p d (Ok (Pair a)) = Opens l p d a
Starts l p d (Err q) = Stuck l p d q.at
