-- How an answer passes along the checks of a call, what is known from an acceptance, and the words that a call leaves. Assumes nothing.
use Prim.Native.Nat.{ℕ, ◌≤◌}
use mathlib.Core.Path.{◌≡◌, sym, ap, ◌∙◌}
use mathlib.Core.List.{List, [], ◌∷◌, ◌++◌}
use mathlib.Core.Bool.{Bool, true, false, not}
use native.Mathlib.Omega.{arith}
use lib.ListN.{length}
use borrow.Author.Tests.{not-false}
use Rattle.trees.specs.Lists.{nowhere}
use Rattle.trees.specs.Checks.{Verdict, accepted, Check, line, ◌⊳◌, asked, fewest_samples, most_samples}
use Rattle.trees.specs.Checks.{check1, check3, row_checks, judge_checks, judged}
use Rattle.trees.specs.Valid.{Valid}
use Rattle.trees.proofs.ChainLaws.{chain_append, passed_chain, chain_passed, asked_passes, line_passes}
use Rattle.trees.proofs.CheckLaws.{not_outside}
use Rattle.trees.proofs.ValidLaws.{judged_valid}
use Rattle.runs.specs.Runs.{is_some, present, delete_run}
use Rattle.runs.specs.Words.{samples, header_words, runs, encode}
use Rattle.runs.specs.Formed.{well_formed, Formed}
use Rattle.trees.specs.Outcomes.{Outcome, outcome}
use Rattle.runs.specs.Calls.{check2, check4, check11, check12, check13, open_checks, add_formed_checks, add_checks, withdraw_formed_checks, withdraw_checks}
use Rattle.runs.specs.Calls.{opened, runs_with, added, withdrawn}
use Rattle.runs.proofs.WordLaws.{capacity_room}
use Rattle.runs.proofs.CallLaws.{opened_accepts}
use Rattle.runs.proofs.AddLaws.{added_formed}
use Rattle.runs.proofs.WithdrawLaws.{withdrawn_formed}
use Rattle.runs.proofs.FormedLaws.{formed_to, formed_from}
use Rattle.std.specs.Prelude.{Err}
use Rattle.std.specs.Result.{IsErrAnd}
use Rattle.judge.specs.declared.Refusal.{Refusal}
use Rattle.judge.specs.Verdicts.{Answer, verdict}
use Rattle.judge.proofs.Laws.{handed_on, refuses, accepts, last}
use Rattle.runs.specs.Moves.{StandsAt, GoesBefore}
use Rattle.runs.proofs.MoveLaws.{stands_found, goes_absent}
use Rattle.study.specs.Adding.{given_checks, added_valid}

-- ---- an answer and the checks after it

-- a call that is refused leaves the words as they were
abbrev pub refusal : Refusal → List ℕ → Outcome
refusal x old = record { verdict = verdict (Err x); words = old }

-- one that is accepted leaves these
abbrev pub accepting : List ℕ → Outcome
accepting new = record { verdict = accepted; words = new }

module _ (cs ds : List Check) (old new : List ℕ) where
  -- a refusal is handed on, and after an acceptance the other checks decide
  outcome_stops : (x : Refusal) → verdict (Err x) ≡ cs ⊳ accepted → outcome (cs ++ ds) old new ≡ refusal x old
  outcome_stops x e =
      let s : (cs ++ ds) ⊳ accepted ≡ verdict (Err x) = chain_append cs ds accepted ∙ refuses cs (ds ⊳ accepted) x e in
      rw s

  outcome_goes : accepted ≡ cs ⊳ accepted → outcome (cs ++ ds) old new ≡ outcome ds old new
  outcome_goes e =
      let s : (cs ++ ds) ⊳ accepted ≡ ds ⊳ accepted = chain_append cs ds accepted ∙ accepts cs (ds ⊳ accepted) e in
      rw s

-- of two checks the first refuses, or the second, or neither
module _ (c d : Check) (old new : List ℕ) where
  pub first_stops : (x : Refusal) → verdict (Err x) ≡ asked c → outcome (c ∷ d ∷ []) old new ≡ refusal x old
  first_stops x e = outcome_stops (c ∷ []) (d ∷ []) old new x (e ∙ last c)

  module _ (e : accepted ≡ asked c) where
    left : outcome (c ∷ d ∷ []) old new ≡ outcome (d ∷ []) old new
    left = outcome_goes (c ∷ []) (d ∷ []) old new (e ∙ last c)

    pub second_stops : (x : Refusal) → verdict (Err x) ≡ asked d → outcome (c ∷ d ∷ []) old new ≡ refusal x old
    second_stops x f = left ∙ outcome_stops (d ∷ []) [] old new x (f ∙ last d)

    pub both_go : accepted ≡ asked d → outcome (c ∷ d ∷ []) old new ≡ accepting new
    unfolding ◌⊳◌
    both_go f = left ∙ outcome_goes (d ∷ []) [] old new (f ∙ last d)

-- what an outcome says
pub leaves : (o : Outcome) (v : Verdict) (ws : List ℕ) → o ≡ record { verdict = v; words = ws } → (v ≡ o.verdict) × (ws ≡ o.words)
leaves o v ws e = (sym (ap (λ (x : Outcome). x.verdict) e), sym (ap (λ (x : Outcome). x.words) e))

-- the same of the refusal that `?` hands on
pub hands : (o : Outcome) (ws : List ℕ) (r : Answer) (x : Refusal) → IsErrAnd r (λ y. y ≡ x) → o ≡ refusal x ws
    → (verdict r ≡ o.verdict) × (ws ≡ o.words)
hands o ws r x h e = let both = leaves o (verdict (Err x)) ws e in (handed_on r x h ∙ both.0, both.1)

-- ---- what is known from an acceptance

-- a line that was accepted does not apply
pub line_passed : (k : ℕ) (b : Bool) → accepted ≡ asked (line k b) → b ≡ false
line_passed k b e = line_passes k b (asked_passes (line k b) (sym e))

pub study_formed : (w : List ℕ) → accepted ≡ asked (check2 w) → Formed w
study_formed w e = formed_to w (not-false _ (line_passed 2 (not (well_formed w)) e))

pub run_valid : (n i : ℕ) (row : List ℕ) → fewest_samples ≤ n → n ≤ most_samples → accepted ≡ given_checks n i row ⊳ accepted → Valid n row
unfolding judged judge_checks
run_valid n i row a b e =
    let h = chain_passed (given_checks n i row) (sym e) in
    let one : (check1 n).fault ≡ nowhere = rw (not_outside fewest_samples most_samples n a b) in
    judged_valid n row (passed_chain (check1 n ∷ check3 n row ∷ row_checks n row) accepted (one, (h.0, h.1.1)))

pub room_found : (n : ℕ) (w : List ℕ) → accepted ≡ open_checks n w ⊳ accepted → (n ≤ most_samples) × (header_words ≤ length w)
unfolding opened
room_found n w e =
    let o = (opened_accepts n w).0 (sym e) in
    (o.most, omega (arith, capacity_room (length w) n 0 o.one (omega arith)))

-- ---- a study that is known to be well formed

module _ (w : List ℕ) (f : Formed w) where
  -- check 2 passes
  add_checked : (i : ℕ) (row : List ℕ) → added w i row ≡ outcome (given_checks (samples w) i row ++ (check11 w i ∷ check12 w ∷ [])) w
      (encode (length w) (samples w) (runs_with w i row))
  unfolding added add_formed_checks
  add_checked i row = rw (added_formed w i row (formed_from w f))

  module _ (i : ℕ) (row : List ℕ) where
    pub added_stops : (x : Refusal) → verdict (Err x) ≡ given_checks (samples w) i row ⊳ accepted → added w i row ≡ refusal x w
    added_stops x e = add_checked i row ∙ outcome_stops (given_checks (samples w) i row) (check11 w i ∷ check12 w ∷ []) w _ x e

    pub added_goes : accepted ≡ given_checks (samples w) i row ⊳ accepted → added w i row ≡ added_valid w i row
    added_goes e = add_checked i row ∙ outcome_goes (given_checks (samples w) i row) (check11 w i ∷ check12 w ∷ []) w _ e

  pub withdraw_checked : (i : ℕ) → withdrawn w i ≡ outcome (check4 i ∷ check13 w i ∷ []) w (encode (length w) (samples w) (delete_run i (runs w)))
  unfolding withdrawn withdraw_formed_checks
  withdraw_checked i = rw (withdrawn_formed w i (formed_from w f))

  -- an identifier is in force exactly if it stands in a slot
  module _ (d i : ℕ) where
    pub stands_present : StandsAt w d i → present d (runs w) ≡ true
    stands_present s = ap is_some (stands_found w f d i s).1

    pub goes_not_present : GoesBefore w d i → present d (runs w) ≡ false
    goes_not_present s = ap is_some (goes_absent w f d i s)

-- ---- opening

module _ (n : ℕ) (w : List ℕ) where
  pub opened_stops : (x : Refusal) → verdict (Err x) ≡ open_checks n w ⊳ accepted → opened n w ≡ refusal x w
  unfolding opened open_checks
  opened_stops = outcome_stops (open_checks n w) [] w (encode (length w) n [])

  pub opened_goes : accepted ≡ open_checks n w ⊳ accepted → opened n w ≡ accepting (encode (length w) n [])
  unfolding opened open_checks ◌⊳◌
  opened_goes = outcome_goes (open_checks n w) [] w (encode (length w) n [])

-- ---- a study that was handed in

module _ (w : List ℕ) (x : Refusal) (e : verdict (Err x) ≡ asked (check2 w)) where
  pub add_unformed : (i : ℕ) (row : List ℕ) → added w i row ≡ refusal x w
  unfolding added add_checks
  add_unformed i row = outcome_stops (check2 w ∷ []) (add_formed_checks w i row) w _ x (e ∙ last (check2 w))

  pub withdraw_unformed : (i : ℕ) → withdrawn w i ≡ refusal x w
  unfolding withdrawn withdraw_checks
  withdraw_unformed i = outcome_stops (check2 w ∷ []) (withdraw_formed_checks w i) w _ x (e ∙ last (check2 w))
