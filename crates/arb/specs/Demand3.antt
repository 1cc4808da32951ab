-- Demand 3 (RULES D3) of calls as they were made: by their answers, and the words they left. Assumes nothing.
use Rattle.std.specs.Prelude.{ℕ, ◌≡◌, List, map, true, length, Ok, Err}
use Rattle.std.proofs.Common.{sym, ap, ◌∙◌}
use Rattle.std.proofs.Math.Option.{some}
use Rattle.trees.specs.Checks.{accepted, ◌⊳◌}
use Rattle.trees.specs.Valid.{is_accepted}
use Rattle.trees.specs.Numbering.{renumbered}
use Rattle.trees.specs.Reporting.{Run}
use Rattle.runs.specs.Runs.{every, find, present}
use Rattle.runs.specs.Words.{runs}
use Rattle.runs.specs.Calls.{opened, added, withdrawn, stores}
use Rattle.runs.specs.Histories.{Call, add, after, answers, all_refused, is_add, SameGroups, Anew, adds, Renewed}
use Rattle.runs.proofs.HistoryLaws.{study_present, study_groups}
use Rattle.runs.proofs.FreshLaws.{demand_3, stored_anew}
use Rattle.runs.proofs.RoomLaws.{other_checks, room_taken, room_never}
use Rattle.judge.specs.declared.Reason.TheVariants.{Full}
use Rattle.judge.specs.Verdicts.{Answer, verdict}
use Rattle.judge.specs.VerdictLaws.{verdict_injective}
use Rattle.arb.specs.Determined.{Leaves}
use Rattle.arb.specs.Made.{Made, Used, last_given, AnyCall, Reply, AllGive}
use Rattle.arb.specs.MadeLaws.{made_after, made_answers, used_after, used_answers, all_determined}

-- a study as it was used
module _ {n : ℕ} {w : List ℕ} {h : List Call} {xs : List Answer} {z : List ℕ} (s : Used n w h xs z) where
  opens : (opened n w).verdict ≡ accepted
  opens = sym s.opens.answer

  -- an identifier is in force exactly if its last accepted call was an add
  pub used_present : (i : ℕ) → present i (runs z) ≡ is_add (last_given h xs i)
  used_present = rw (used_after s, used_answers s) (study_present n w h opens s.named)

  -- then the row that stands under it has exactly the groups of that add
  pub used_groups : (i j : ℕ) (row : List ℕ) → last_given h xs i ≡ some (add j row)
      → (find i (runs z) ≡ some (stores n i row)) × SameGroups n (renumbered n row) row
  used_groups = rw (used_after s, used_answers s) (study_groups n w h opens s.named)

  -- the runs that stand in the words may be given to a fresh study
  pub used_anew : Anew n h (map verdict xs) (runs z)
  used_anew = rw (used_after s, used_answers s) (stored_anew n w h opens s.named)

  -- a fresh buffer of the same length, opened for n samples and given the runs in force, in any order, each as any row with the groups of its last accepted add
  module _ (fresh : List ℕ) (b : Answer) (u : List ℕ) (same : length fresh ≡ length w) (f : Leaves (opened n fresh) b u)
      (given : List Run) (anew : Anew n h (map verdict xs) given) (bs : List Answer) (y : List ℕ) (m : Made u (adds given) bs y) where
    renewed : Renewed n w h fresh given
    renewed = demand_3 n w h given opens s.named (rw (used_answers s) at anew) fresh same

    -- its opening was accepted, each of the runs was, and its words are those of the study
    pub demand_3_calls : (b ≡ Ok tt) × (every is_accepted (map verdict bs) ≡ true) × (y ≡ z)
    demand_3_calls = (
      verdict_injective b (Ok tt) (f.answer ∙ renewed.opens),
      ap (every is_accepted) (made_answers u (adds given) bs y m ∙ ap (λ (v : List ℕ). answers v (adds given)) f.words) ∙ renewed.takes,
      made_after u (adds given) bs y m ∙ ap (λ (v : List ℕ). after v (adds given)) f.words ∙ renewed.words ∙ sym (used_after s),
    )

    -- every later call answers alike on both: the same calls, of all ten and in any sequence, got the same replies and left equal words
    pub demand_3_later_calls : (later : List AnyCall) (rs qs : List Reply) (x t : List ℕ) → AllGive z later rs x → AllGive y later qs t → (rs ≡ qs) × (x ≡ t)
    demand_3_later_calls later rs qs x t p q = all_determined z later rs qs x t p (rw demand_3_calls.2 at q)

-- the room of a withdrawn run takes the next add: after an accepted withdrawal and calls that were all refused, an add is answered by its checks
-- other than 12 alone
module _ (w : List ℕ) (i : ℕ) (v : List ℕ) (a : Leaves (withdrawn w i) (Ok tt) v) (h : List Call) (xs : List Answer) (z : List ℕ) (m : Made v h xs z)
    (none : all_refused (map verdict xs) ≡ true) (j : ℕ) (row : List ℕ) (b : Answer) (y : List ℕ) (l : Leaves (added z j row) b y) where
  still : z ≡ after (withdrawn w i).words h
  still = made_after v h xs z m ∙ ap (λ (x : List ℕ). after x h) a.words

  refusals : all_refused (answers (withdrawn w i).words h) ≡ true
  refusals = ap all_refused (sym (made_answers v h xs z m ∙ ap (λ (x : List ℕ). answers x h) a.words)) ∙ none

  pub demand_3_room : verdict b ≡ other_checks z j row ⊳ accepted
  demand_3_room = l.answer ∙ (rw still (room_taken w i h (sym a.answer) refusals j row))

  -- and so never refused with 12
  pub demand_3_never : (p : ℕ) → b ≡ Err (record { reason = Full; place = p }) → ⊥
  demand_3_never p e = room_never w i h (sym a.answer) refusals j row p (rw still at (sym l.answer ∙ ap verdict e))
