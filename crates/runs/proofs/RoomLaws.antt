-- The room of a withdrawn run (RULES D3): after an accepted withdrawal and any refused calls no add is refused with 12. Assumes nothing.
use Rattle.std.specs.Prelude.{ℕ, ◌≡◌, true, false, not}
use Rattle.std.proofs.Math.Path.{refl, ap}
use Rattle.std.proofs.Common.{sym, ◌∙◌}
use mathlib.Core.List.{List, [], ◌∷◌, ◌++◌}
use Rattle.std.proofs.lemmas.Bool.{not-true}
use Rattle.trees.specs.Checks.{Verdict, accepted, refused, Check, ◌⊳◌, check3, row_checks}
use Rattle.trees.specs.Valid.{is_accepted}
use Rattle.trees.proofs.BoolLaws.{and_l, and_r}
use Rattle.trees.proofs.ChainLaws.{chain_append, chain_go, chain_end, chain_given, accepted_other, lacks, given_lacks}
use Rattle.trees.proofs.ValidLaws.{valid_judged}
use Rattle.runs.specs.Runs.{every}
use Rattle.runs.specs.Words.{samples, runs, full}
use Rattle.runs.specs.Calls.{check2, check4, check11, check12, add_formed_checks, add_checks, added, withdrawn}
use Rattle.runs.specs.Histories.{Call, called, after, answers, all_refused}
use Rattle.runs.proofs.RunLaws.{find_member}
use Rattle.runs.proofs.WordLaws.{room_exactly}
use Rattle.runs.proofs.AddLaws.{added_accepts}
use Rattle.runs.proofs.WithdrawLaws.{withdrawn_accepts, withdrawn_again}
use Rattle.runs.proofs.HistoryLaws.{refused_words}

-- the checks of adding but for 12
unfoldable pub other_checks : List ℕ → ℕ → List ℕ → List Check
other_checks w i row = check2 w ∷ check3 (samples w) row ∷ check4 i ∷ (row_checks (samples w) row ++ (check11 w i ∷ []))

-- these are all of them: 12 is the last
pub checks_split : (w : List ℕ) (i : ℕ) (row : List ℕ) → add_checks w i row ≡ other_checks w i row ++ (check12 w ∷ [])
unfolding add_checks add_formed_checks other_checks row_checks
checks_split w i row = refl

-- calls that are all refused, whatever they were, leave the words as they were
pub refused_after : (w : List ℕ) (h : List Call) → all_refused (answers w h) ≡ true → after w h ≡ w
unfolding after answers every
refused_after w [] e = refl
refused_after w (c ∷ h) e =
    let q : (called w c).words ≡ w = refused_words w c (not-true (is_accepted (called w c).verdict) (and_l (not (is_accepted (called w c).verdict)) _ e)) in
    refused_after (called w c).words h (and_r (not (is_accepted (called w c).verdict)) _ e) ∙ q

-- an accepted withdrawal, and then calls that are all refused
module _ (w : List ℕ) (i : ℕ) (h : List Call) (e : (withdrawn w i).verdict ≡ accepted) (r : all_refused (answers (withdrawn w i).words h) ≡ true) where
  abbrev u : List ℕ
  u = after (withdrawn w i).words h

  -- there is room: the withdrawn run itself would be taken again
  not_full : full u ≡ false
  not_full =
      let v : List ℕ = (withdrawn w i).words in
      let a = (withdrawn_accepts w i).0 e in
      let run = a.found.0 in
      let s = a.formed.stored run (find_member i (runs w) run a.found.1) in
      let b = (added_accepts v i run.row).0 (withdrawn_again w i e run.row (valid_judged (samples w) run.row s.standard.valid)) in
      ap full (refused_after v h r) ∙ (room_exactly v b.formed.fits).1 b.room

  -- the next add is answered by its other checks alone: where none of them refuses it, it is taken
  pub room_taken : (j : ℕ) (row : List ℕ) → (added u j row).verdict ≡ other_checks u j row ⊳ accepted
  unfolding added
  room_taken j row =
      ap (λ (cs : List Check). cs ⊳ accepted) (checks_split u j row)
      ∙ chain_append (other_checks u j row) (check12 u ∷ []) accepted
      ∙ ap (λ (v : Verdict). other_checks u j row ⊳ v) (chain_go (check12 u) [] accepted (rw not_full) ∙ chain_end accepted)

  -- so it is never refused with 12
  pub room_never : (j : ℕ) (row : List ℕ) (p : ℕ) → (added u j row).verdict ≡ refused 12 p → ⊥
  unfolding other_checks row_checks lacks
  room_never j row p q = given_lacks (other_checks u j row) 12 p refl
      (chain_given (other_checks u j row) accepted 12 p (accepted_other 12 p) (sym (room_taken j row) ∙ q))
