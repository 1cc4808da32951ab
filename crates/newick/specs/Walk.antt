-- The reading of a text, byte by byte: what has been read is a state, and each byte leads on to a state or to none. It
-- finds the texts of the form and their trees (`form_exactly`), and the place of refusal 17 (`stop_exactly`).
use Rattle.std.specs.Prelude.{ℕ, zero, suc, ◌+◌, ◌-◌, ◌*◌, ◌≡◌, Bool, true, false, List, [], ◌∷◌, ltb}
use Rattle.newick.specs.Tree.{Tree, Forest, Stack, depth}
use Rattle.newick.specs.Tree.Mark.{unmarked, marked}
use Rattle.newick.specs.Tree.Tree.{leaf, pair}
use Rattle.newick.specs.Tree.Forest.{only, more}
use Rattle.newick.specs.Tree.Stack.{top, opened, later}
use Rattle.newick.specs.Grammar.{most_digits, most_open}
use Rattle.newick.specs.Bytes.{Kind, kind_of}
use Rattle.newick.specs.Bytes.Kind.{blank, left, right, comma, semicolon, colon, dot, other, digit}

-- Where a reading stands, among the open brackets of a stack
pub data State : Type 0 where
  -- a subtree has to come
  want : Stack → State
  -- in a sample: its value so far, and how many digits may still come
  sample : Stack → ℕ → ℕ → State
  -- after the closing bracket of a pair, where a run of digits may come; in that run, its value so far
  closed : Stack → Forest → State
  support : Stack → Forest → ℕ → State
  -- after a subtree, where a colon may come
  ended : Stack → Tree → State
  -- after a colon; in the number before the point; right after the point; in the number after it; after the number
  measure whole point part measured : Stack → Tree → State
  -- after the semicolon
  done : Tree → State

pub data Move : Type 0 where
  stuck : Move
  to : State → Move

-- a row of the table below: the move at each kind of byte; at any other byte there is none
abbrev pub pick : Kind → Move → Move → Move → Move → Move → Move → Move → (ℕ → Move) → Move
pick blank b l r c s k d n = b
pick left b l r c s k d n = l
pick right b l r c s k d n = r
pick comma b l r c s k d n = c
pick semicolon b l r c s k d n = s
pick colon b l r c s k d n = k
pick dot b l r c s k d n = d
pick (digit i) b l r c s k d n = n i
pick other b l r c s k d n = stuck

abbrev pub allowed : Bool → State → Move
allowed true s = to s
allowed false s = stuck

-- an opening bracket, where one may still be opened (RULES 14.6)
unfoldable pub entered : Stack → Move
entered k = allowed (ltb (depth k) most_open) (want (opened k))

-- the first digit of a sample: behind a 0 no digit may come, else four (RULES 14.3)
unfoldable pub begun : Stack → ℕ → State
begun k zero = sample k 0 0
begun k (suc d) = sample k (suc d) (most_digits - 1)

unfoldable pub longer : Stack → ℕ → ℕ → ℕ → Move
longer k x zero d = stuck
longer k x (suc c) d = to (sample k (x * 10 + d) c)

-- a closing bracket, a comma and a semicolon after the subtree t
unfoldable pub shut : Stack → Tree → Move
shut top t = stuck
shut (opened k) t = to (closed k (only t))
shut (later k f) t = to (closed k (more f t))

unfoldable pub next : Stack → Tree → Move
next top t = stuck
next (opened k) t = to (want (later k (only t)))
next (later k f) t = to (want (later k (more f t)))

unfoldable pub last : Stack → Tree → Move
last top t = to (done t)
last (opened k) t = stuck
last (later k f) t = stuck

-- the moves behind a subtree t: a closing bracket, a comma and a semicolon always, the others as given
abbrev pub after : Stack → Tree → Kind → Move → Move → Move → (ℕ → Move) → Move
after k t b at-blank at-colon at-dot at-digit = pick b at-blank stuck (shut k t) (next k t) (last k t) at-colon at-dot at-digit

abbrev pub never : ℕ → Move
never d = stuck

-- a byte of the given kind in a state
unfoldable pub step : State → Kind → Move
step (want k) b = pick b (to (want k)) (entered k) stuck stuck stuck stuck stuck (λ d. to (begun k d))
step (sample k x c) b = after k (leaf x) b (to (ended k (leaf x))) (to (measure k (leaf x))) stuck (λ d. longer k x c d)
step (closed k f) b =
    after k (pair f unmarked) b (to (closed k f)) (to (measure k (pair f unmarked))) stuck (λ d. to (support k f d))
step (support k f x) b =
    after k (pair f (marked x)) b (to (ended k (pair f (marked x)))) (to (measure k (pair f (marked x)))) stuck
    (λ d. to (support k f (x * 10 + d)))
step (ended k t) b = after k t b (to (ended k t)) (to (measure k t)) stuck never
step (measure k t) b = pick b (to (measure k t)) stuck stuck stuck stuck stuck stuck (λ d. to (whole k t))
step (whole k t) b = after k t b (to (measured k t)) stuck (to (point k t)) (λ d. to (whole k t))
step (point k t) b = pick b stuck stuck stuck stuck stuck stuck stuck (λ d. to (part k t))
step (part k t) b = after k t b (to (measured k t)) stuck stuck (λ d. to (part k t))
step (measured k t) b = after k t b (to (measured k t)) stuck stuck never
step (done t) b = pick b (to (done t)) stuck stuck stuck stuck stuck stuck never

-- what a text comes to: a tree, or the place where it stops being one
pub data Parse : Type 0 where
  reads : Tree → Parse
  stops : ℕ → Parse

-- at the end of the text
unfoldable pub final : State → ℕ → Parse
final (done t) p = reads t
final (want k) p = stops p
final (sample k x c) p = stops p
final (closed k f) p = stops p
final (support k f x) p = stops p
final (ended k t) p = stops p
final (measure k t) p = stops p
final (whole k t) p = stops p
final (point k t) p = stops p
final (part k t) p = stops p
final (measured k t) p = stops p

abbrev pub follow : Move → ℕ → (State → Parse) → Parse
follow stuck p f = stops p
follow (to s) p f = f s

-- the bytes from place p on, read from a state
unfoldable pub walk : State → ℕ → List ℕ → Parse
walk s p [] = final s p
walk s p (b ∷ l) = follow (step s (kind_of b)) p (λ s'. walk s' (suc p) l)

-- what a whole text comes to
unfoldable pub parsed : List ℕ → Parse
parsed l = walk (want top) 0 l

-- a text of the form
pub record Formed (l : List ℕ) : Type 0 where
  pub tree : Tree
  pub read : parsed l ≡ reads tree
