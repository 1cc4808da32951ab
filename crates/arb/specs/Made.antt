-- Calls as they were made, one after another on a study's words, each meeting its promise: what they gave back, and the words in the end.
use Rattle.std.specs.Prelude.{ℕ, ◌≡◌, List, [], ◌∷◌, map, true, Ok}
use Rattle.std.proofs.Math.Option.{Option}
use Rattle.trees.specs.Checks.{judged}
use Rattle.trees.specs.RowCalls.{renumbering, comparing}
use Rattle.runs.specs.Calls.{opened, added, withdrawn}
use Rattle.runs.specs.Reports.{reported}
use Rattle.runs.specs.Histories.{Call, identified, called, last_accepted}
use Rattle.judge.specs.Verdicts.{Answer, verdict}
use Rattle.compare.specs.Comparisons.{Compared, comparison}
use Rattle.newick.specs.ReadCalls.{reading}
use Rattle.newick.specs.RowText.{Wanted, writing}
use Rattle.writer.specs.Writings.{Written}
use Rattle.arb.specs.Determined.{Leaves, Reports, Fills}

-- calls made one after another on words w, where `One` is what one call promises: what they gave back, and the words z in the end
abbrev pub InTurn : {C R : Type 0} → (List ℕ → C → R → List ℕ → Type 0) → List ℕ → List C → List R → List ℕ → Type 0
InTurn One w [] [] z = z ≡ w
InTurn One w [] (x ∷ xs) z = ⊥
InTurn One w (c ∷ cs) [] z = ⊥
InTurn One w (c ∷ cs) (x ∷ xs) z = (v : List ℕ) × One w c x v × InTurn One v cs xs z

-- ---- a history

-- adds and withdrawals, their answers, and the words z in the end
abbrev pub Made : List ℕ → List Call → List Answer → List ℕ → Type 0
Made w h xs z = InTurn (λ v c a u. Leaves (called v c) a u) w h xs z

-- a study as it was used: opening buffer w for n samples was accepted, then adds and withdrawals, whose identifiers are words, got these answers,
-- and now the study's words are z
pub record Used (n : ℕ) (w : List ℕ) (h : List Call) (xs : List Answer) (z : List ℕ) : Type 0 where
  pub empty : List ℕ
  pub opens : Leaves (opened n w) (Ok tt) empty
  pub named : identified h ≡ true
  pub made : Made empty h xs z

-- of calls and the answers that they got, the last accepted call that names identifier i
abbrev pub last_given : List Call → List Answer → ℕ → Option Call
last_given h xs i = last_accepted h (map verdict xs) i

-- ---- any calls

-- the public calls, each with all that is handed to it but the study's words; writing with supports and without are one here
pub data AnyCall : Type 0 where
  opens : ℕ → AnyCall
  adds : ℕ → List ℕ → AnyCall
  withdraws : ℕ → AnyCall
  reports : ℕ → List ℕ → List ℕ → AnyCall
  judges : ℕ → List ℕ → AnyCall
  renumbers : ℕ → List ℕ → List ℕ → AnyCall
  compares : ℕ → List ℕ → List ℕ → AnyCall
  reads : ℕ → List ℕ → List ℕ → AnyCall
  prints : ℕ → List ℕ → Wanted → List ℕ → AnyCall

-- what a call gives back but the study's words: its answer, and the rows or the bytes that it was lent to write
pub data Reply : Type 0 where
  says : Answer → Reply
  writes : Answer → List ℕ → Reply
  writes_both : Answer → List ℕ → List ℕ → Reply
  counts : Compared → Reply
  fills : Written → List ℕ → Reply

-- what each call promises: on the study's words w this reply, and these words afterwards
pub data Gives (w : List ℕ) : AnyCall → Reply → List ℕ → Type 0 where
  opening : {n : ℕ} {a : Answer} {v : List ℕ} → Leaves (opened n w) a v → Gives w (opens n) (says a) v
  adding : {i : ℕ} {row : List ℕ} {a : Answer} {v : List ℕ} → Leaves (added w i row) a v → Gives w (adds i row) (says a) v
  withdrawing : {i : ℕ} {a : Answer} {v : List ℕ} → Leaves (withdrawn w i) a v → Gives w (withdraws i) (says a) v
  reporting : {p : ℕ} {x y : List ℕ} {a : Answer} {r s : List ℕ} → Reports (reported w p x y) a r s → Gives w (reports p x y) (writes_both a r s) w
  judging : {n : ℕ} {row : List ℕ} {a : Answer} → verdict a ≡ judged n row → Gives w (judges n row) (says a) w
  rewriting : {n : ℕ} {row out : List ℕ} {a : Answer} {r : List ℕ} → Leaves (renumbering n row out) a r → Gives w (renumbers n row out) (writes a r) w
  counting : {n : ℕ} {r q : List ℕ} {a : Compared} → comparison a ≡ comparing n r q → Gives w (compares n r q) (counts a) w
  taking_in : {n : ℕ} {text out : List ℕ} {a : Answer} {r : List ℕ} → Leaves (reading n text out) a r → Gives w (reads n text out) (writes a r) w
  printing : {n : ℕ} {row : List ℕ} {s : Wanted} {text : List ℕ} {a : Written} {l : List ℕ}
      → Fills (writing n row s text) a l → Gives w (prints n row s text) (fills a l) w

-- any calls, their replies, and the words z in the end
abbrev pub AllGive : List ℕ → List AnyCall → List Reply → List ℕ → Type 0
AllGive w cs xs z = InTurn Gives w cs xs z
