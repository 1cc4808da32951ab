-- Histories of adds and withdrawals, refused ones among them, and what is in force after one (RULES D3).
use Rattle.std.specs.Prelude.{ℕ, ◌≡◌, List, [], ◌∷◌, map, Bool, true, false, ◌&&◌, not, cond, eqb, leb}
use Rattle.std.proofs.Math.Option.{Option, some, none}
use Rattle.trees.specs.Groups.{Group, member}
use Rattle.trees.specs.Rows.{groups}
use Rattle.trees.specs.Checks.{Verdict, accepted, judged}
use Rattle.trees.specs.Valid.{is_accepted}
use Rattle.trees.specs.Reporting.{Run}
use Rattle.runs.specs.Runs.{every, find}
use Rattle.runs.specs.Words.{most_identifier}
use Rattle.trees.specs.Outcomes.{Outcome}
use Rattle.runs.specs.Calls.{opened, added, withdrawn, stores}

-- a call on a study that may change it: an identifier and a row, or an identifier
pub data Call : Type 0 where
  add : ℕ → List ℕ → Call
  withdraw : ℕ → Call

-- the identifier that a call names
abbrev pub names : Call → ℕ
names (add i row) = i
names (withdraw i) = i

-- whether each identifier is a word (RULES 1.3)
abbrev pub identified : List Call → Bool
identified h = every (λ c. leb (names c) most_identifier) h

-- what a call answers, and the words it leaves
abbrev pub called : List ℕ → Call → Outcome
called w (add i row) = added w i row
called w (withdraw i) = withdrawn w i

-- the words after a history, its first call first
unfoldable pub after : List ℕ → List Call → List ℕ
after w [] = w
after w (c ∷ h) = after (called w c).words h

-- what the calls answer, in order
unfoldable pub answers : List ℕ → List Call → List Verdict
answers w [] = []
answers w (c ∷ h) = (called w c).verdict ∷ answers (called w c).words h

-- whether each of these answers is a refusal
abbrev pub all_refused : List Verdict → Bool
all_refused vs = every (λ v. not (is_accepted v)) vs

-- the words of a buffer that is opened for n samples, after a history, and what its calls are answered
abbrev pub study_after : ℕ → List ℕ → List Call → List ℕ
study_after n w h = after (opened n w).words h

abbrev pub study_answers : ℕ → List ℕ → List Call → List Verdict
study_answers n w h = answers (opened n w).words h

-- of calls and the answers that they were given, the last accepted call that names identifier i: `sofar` where there is none
unfoldable pub last_from : ℕ → Option Call → List Call → List Verdict → Option Call
last_from i sofar [] vs = sofar
last_from i sofar (c ∷ h) [] = sofar
last_from i sofar (c ∷ h) (v ∷ vs) = last_from i (cond (eqb i (names c) && is_accepted v) (some c) sofar) h vs

-- of a history and the answers that it was given, the last accepted call that names identifier i
abbrev pub last_accepted : List Call → List Verdict → ℕ → Option Call
last_accepted h vs i = last_from i none h vs

-- whether there is one and it is an add
abbrev pub is_add : Option Call → Bool
is_add none = false
is_add (some (add i row)) = true
is_add (some (withdraw i)) = false

-- the run that a last accepted call leaves in force: that of an add, as it is stored
abbrev pub leaves : ℕ → Option Call → Option Run
leaves n none = none
leaves n (some (add i row)) = some (stores n i row)
leaves n (some (withdraw i)) = none

-- ---- the runs in force, added to a fresh study (RULES D3)

-- two rows with the same groups (RULES 3.2)
abbrev pub SameGroups : ℕ → List ℕ → List ℕ → Type 0
SameGroups n r q = (x : Group) → member x (groups n r) ≡ member x (groups n q)

-- A run for a fresh study stands for an add if judging accepts its row and the row has the groups of the add's; no run stands
-- for a withdrawal or for no call.
abbrev pub StandsFor : ℕ → Option Run → Option Call → Type 0
StandsFor n (some run) (some (add i row)) = (judged n run.row ≡ accepted) × SameGroups n run.row row
StandsFor n (some run) (some (withdraw i)) = ⊥
StandsFor n (some run) none = ⊥
StandsFor n none (some (add i row)) = ⊥
StandsFor n none (some (withdraw i)) = Unit {0}
StandsFor n none none = Unit {0}

-- no two runs have the same identifier (RULES 6.4)
abbrev pub Distinct : List Run → Type 0
Distinct [] = Unit {0}
Distinct (r ∷ rs) = (find r.identifier rs ≡ none) × Distinct rs

-- These runs are those in force after a history with these answers, in any order, each as any row with the groups of its last accepted add
-- (RULES D3).
pub record Anew (n : ℕ) (h : List Call) (vs : List Verdict) (given : List Run) : Type 0 where
  pub once : Distinct given
  pub each : (i : ℕ) → StandsFor n (find i given) (last_accepted h vs i)

-- runs as the adds that put them in
abbrev pub adds : List Run → List Call
adds given = map (λ run. add run.identifier run.row) given

-- What demand 3 promises of a history: a fresh buffer is opened, takes each of these runs, and then has the same words (RULES D3).
pub record Renewed (n : ℕ) (w : List ℕ) (h : List Call) (fresh : List ℕ) (given : List Run) : Type 0 where
  pub opens : (opened n fresh).verdict ≡ accepted
  pub takes : every is_accepted (study_answers n fresh (adds given)) ≡ true
  pub words : study_after n fresh (adds given) ≡ study_after n w h

-- the same runs in another order
pub data Shuffled : List Run → List Run → Type 0 where
  done : Shuffled [] []
  keep : (r : Run) {rs ss : List Run} → Shuffled rs ss → Shuffled (r ∷ rs) (r ∷ ss)
  swap : (r s : Run) (rs : List Run) → Shuffled (r ∷ s ∷ rs) (s ∷ r ∷ rs)
  both : {rs ss ts : List Run} → Shuffled rs ss → Shuffled ss ts → Shuffled rs ts
