-- Withdrawing: when it accepts, what each number means, that it keeps a study well formed, and that its room takes the next add. Assumes nothing.
use Rattle.std.specs.Prelude.{ℕ, ◌<◌, ◌≡◌, ◌↔◌, List, [], ◌∷◌, true, cond, eqb, length}
use Rattle.std.proofs.Math.Path.{refl}
use Rattle.std.proofs.Common.{ap, ◌∙◌, arith}
use Rattle.std.proofs.Math.Option.{Option, some, none}
use Rattle.std.proofs.Math.Bool.{not}
use borrow.Author.Tests.{eqb-false, eq-eqb, ne_eqb, not-false}
use Rattle.trees.specs.Checks.{accepted, refused, ◌⊳◌, judged}
use Rattle.trees.specs.Reporting.{Run}
use Rattle.trees.proofs.ChainLaws.{chain_go, Passed, passed_chain, chain_passed, numbers, Exactly, accepted_other, refused_exactly, line_passes, line_pass}
use Rattle.trees.proofs.OutcomeLaws.{outcome_refused, outcome_accepted}
use Rattle.trees.proofs.ValidLaws.{judged_valid}
use Rattle.runs.specs.Runs.{find, is_some, present, delete_run}
use Rattle.runs.specs.Words.{samples, in_force, runs, encode, capacity}
use Rattle.runs.specs.Formed.{well_formed, Formed}
use Rattle.runs.specs.Calls.{check2, added, withdraw_formed_checks, withdraw_checks, withdrawn}
use Rattle.runs.proofs.RunLaws.{Absent, find_delete, delete_rising, length_delete, delete_member, present_some}
use Rattle.runs.proofs.WordLaws.{length_runs}
use Rattle.runs.proofs.FormedLaws.{formed_to, formed_from, Room, room_runs}
use Rattle.runs.proofs.CallLaws.{room_kept}
use Rattle.runs.specs.Formed.{Kept}
use Rattle.runs.proofs.AddLaws.{added_accepts}

-- what withdrawing asks for
pub record Withdraws (w : List ℕ) (i : ℕ) : Type 0 where
  pub formed : Formed w
  pub named : 0 < i
  pub found : (r : Run) × (find i (runs w) ≡ some r)

module _ (w : List ℕ) (i : ℕ) where
  withdraws_to : Passed (withdraw_checks w i) → Withdraws w i
  unfolding withdraw_checks withdraw_formed_checks
  withdraws_to h =
      let z : i ≡ 0 → ⊥ = eqb-false i 0 (line_passes 4 (eqb i 0) h.1.0) in
      record {
        formed = formed_to w (not-false _ (line_passes 2 (not (well_formed w)) h.0));
        named = omega arith;
        found = present_some i (runs w) (not-false _ (line_passes 13 (not (present i (runs w))) h.1.1.0));
      }

  withdraws_from : Withdraws w i → Passed (withdraw_checks w i)
  unfolding withdraw_checks withdraw_formed_checks
  withdraws_from a = (
    line_pass 2 (not (well_formed w)) (ap not (formed_from w a.formed)),
    (
      line_pass 4 (eqb i 0) (ne_eqb i 0 (λ e. omega (arith, a.named))),
      (line_pass 13 (not (present i (runs w))) (ap (λ (o : Option Run). not (is_some o)) a.found.1), tt),
    ),
  )

  pub withdrawn_accepts : ((withdrawn w i).verdict ≡ accepted) ↔ Withdraws w i
  unfolding withdrawn
  withdrawn_accepts = (λ e. withdraws_to (chain_passed (withdraw_checks w i) e), λ a. passed_chain (withdraw_checks w i) accepted (withdraws_from a))

  -- the order of its checks
  pub withdrawn_numbers : numbers (withdraw_checks w i) ≡ (2 ∷ 4 ∷ 13 ∷ [])
  unfolding withdraw_checks withdraw_formed_checks
  withdrawn_numbers = refl

  -- DEMAND 1 of withdrawing (RULES D1)
  pub withdrawn_exactly : (k p : ℕ) → ((withdrawn w i).verdict ≡ refused k p) ↔ Exactly k p (withdraw_checks w i)
  unfolding withdrawn
  withdrawn_exactly = refused_exactly (withdraw_checks w i) accepted accepted_other

  pub withdrawn_unchanged : (k p : ℕ) → (withdrawn w i).verdict ≡ refused k p → (withdrawn w i).words ≡ w
  unfolding withdrawn
  withdrawn_unchanged = outcome_refused (withdraw_checks w i) w (encode (length w) (samples w) (delete_run i (runs w)))

  pub withdrawn_words : (withdrawn w i).verdict ≡ accepted → (withdrawn w i).words ≡ encode (length w) (samples w) (delete_run i (runs w))
  unfolding withdrawn
  withdrawn_words = outcome_accepted (withdraw_checks w i) w (encode (length w) (samples w) (delete_run i (runs w)))

  -- the checks that are left where the study is known to be well formed
  pub withdrawn_formed : well_formed w ≡ true → withdraw_checks w i ⊳ accepted ≡ withdraw_formed_checks w i ⊳ accepted
  unfolding withdraw_checks
  withdrawn_formed e = chain_go (check2 w) (withdraw_formed_checks w i) accepted (rw e)

  module _ (a : Withdraws w i) where
    withdrawn_room : Room (length w) (samples w) (delete_run i (runs w))
    withdrawn_room = record {
      least = a.formed.least;
      most = a.formed.most;
      one = a.formed.one;
      fits = omega (arith, length_delete i (runs w) a.found.0 a.found.1, length_runs w, a.formed.fits);
      rises = delete_rising 0 i (runs w) a.formed.rises;
      stored = λ run m. a.formed.stored run (delete_member i (runs w) run m);
    }

    pub withdrawn_kept : Kept (length w) (samples w) (withdrawn w i).words
    withdrawn_kept = rw (withdrawn_words (withdrawn_accepts.1 a)) (room_kept (length w) (samples w) (delete_run i (runs w)) withdrawn_room)

    pub withdrawn_runs : runs (withdrawn w i).words ≡ delete_run i (runs w)
    withdrawn_runs = rw (withdrawn_words (withdrawn_accepts.1 a)) (room_runs (length w) (samples w) (delete_run i (runs w)) withdrawn_room)

    -- an identifier is found after a withdrawal as before it, but for the one withdrawn
    pub withdrawn_find : (j : ℕ) → find j (runs (withdrawn w i).words) ≡ cond (eqb j i) none (find j (runs w))
    withdrawn_find j = rw withdrawn_runs (find_delete 0 j i (runs w) a.formed.rises)

-- ---- A WITHDRAWN RUN'S ROOM TAKES THE NEXT ADD (RULES D3)

module _ (w : List ℕ) (i : ℕ) (e : (withdrawn w i).verdict ≡ accepted) where
  frees : (v : List ℕ) → v ≡ (withdrawn w i).words → in_force v < capacity (length v) (samples v)
  frees v q =
      let a = (withdrawn_accepts w i).0 e in
      let k = withdrawn_kept w i a in
      let r : length (runs v) ≡ length (delete_run i (runs w)) = ap (λ (u : List ℕ). length (runs u)) q ∙ ap length (withdrawn_runs w i a) in
      let c : capacity (length v) (samples v) ≡ capacity (length w) (samples w) = rw (q, k.size, k.same) in
      omega (arith, length_delete i (runs w) a.found.0 a.found.1, length_runs v, length_runs w, a.formed.fits)

  -- a valid row under an identifier that is not in force is taken
  pub withdrawn_takes : (j : ℕ) (row : List ℕ) → judged (samples w) row ≡ accepted → 0 < j → Absent j (delete_run i (runs w))
      → (added (withdrawn w i).words j row).verdict ≡ accepted
  withdrawn_takes j row ok l f =
      let a = (withdrawn_accepts w i).0 e in
      let k = withdrawn_kept w i a in
      (added_accepts (withdrawn w i).words j row).1 record {
        formed = k.formed;
        valid = rw k.same (judged_valid (samples w) row ok);
        named = l;
        absent = rw (withdrawn_runs w i a) f;
        room = frees (withdrawn w i).words refl;
      }

  -- an identifier that was withdrawn may come back with a new tree (RULES 10.10)
  pub withdrawn_again : (row : List ℕ) → judged (samples w) row ≡ accepted → (added (withdrawn w i).words i row).verdict ≡ accepted
  withdrawn_again row ok =
      let a = (withdrawn_accepts w i).0 e in
      withdrawn_takes i row ok a.named (find_delete 0 i i (runs w) a.formed.rises ∙ (rw (eq-eqb i i refl)))
