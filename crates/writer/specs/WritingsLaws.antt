-- Two answers of writing with one verdict are the same; a refusal leaves the text, after an acceptance the rest decides. Assumes nothing.
use Rattle.std.specs.Prelude.{ℕ, ◌≤◌, ◌<◌, ◌≡◌, refl, List, [], ◌∷◌, ◌++◌, length, drop, Ok, Err}
use Rattle.std.proofs.Common.{ap, ◌∙◌, lt-ltb, le-ltb}
use Rattle.trees.specs.Checks.{Verdict, accepted, refused, wrote, Check, ◌⊳◌, check1, row_checks}
use Rattle.trees.proofs.ChainLaws.{chain_append, chain_given, given_chain, chain_passed, passed_chain, accepted_other}
use Rattle.newick.specs.RowText.{Wanted, check3_wanted, check_room, written, write_checks, writing}
use Rattle.judge.specs.VerdictLaws.{refusal_injective}
use Rattle.writer.specs.Writings.{Written, written_verdict}
use Rattle.writer.specs.Remaining.{outcome_of, room_outcome}

pub written_injective : (a b : Written) → written_verdict a ≡ written_verdict b → a ≡ b
written_injective (Ok k) (Ok j) e = cc
written_injective (Ok k) (Err s) e = cc
written_injective (Err r) (Ok j) e = cc
written_injective (Err r) (Err s) e = ap Err (refusal_injective r s e)

-- ---- checks that come first

module _ (cs ds : List Check) (bytes text : List ℕ) where
  -- a refusal is the answer, and leaves the text
  pub outcome_stops : (k p : ℕ) → cs ⊳ accepted ≡ refused k p
      → (refused k p ≡ (outcome_of (cs ++ ds) bytes text).verdict) × (text ≡ (outcome_of (cs ++ ds) bytes text).words)
  outcome_stops k p e =
      let given = chain_given cs accepted k p (accepted_other k p) e in
      let stop : (v : Verdict) → (cs ++ ds) ⊳ v ≡ refused k p = λ v. chain_append cs ds v ∙ given_chain cs (ds ⊳ v) k p given in
      rw (stop (wrote (length bytes)), stop accepted) (refl, refl)

  -- after an acceptance the rest decides
  pub outcome_goes : cs ⊳ accepted ≡ accepted → outcome_of ds bytes text ≡ outcome_of (cs ++ ds) bytes text
  outcome_goes e =
      let go : (v : Verdict) → (cs ++ ds) ⊳ v ≡ ds ⊳ v = λ v. chain_append cs ds v ∙ passed_chain cs (ds ⊳ v) (chain_passed cs e) in
      rw (go (wrote (length bytes)), go accepted)

-- ---- the last check

module _ (bytes text : List ℕ) where
  pub room_short : length text < length bytes → (refused 3 0 ≡ (room_outcome bytes text).verdict) × (text ≡ (room_outcome bytes text).words)
  unfolding ◌⊳◌
  room_short h = rw (lt-ltb (length text) (length bytes) h) (refl, refl)

  pub room_enough : length bytes ≤ length text
      → (wrote (length bytes) ≡ (room_outcome bytes text).verdict) × (bytes ++ drop (length bytes) text ≡ (room_outcome bytes text).words)
  unfolding ◌⊳◌
  room_enough h = rw (le-ltb (length text) (length bytes) h) (refl, refl)

-- ---- writing: checks 1 and 3, then those of the row

pub writing_split : (n : ℕ) (r : List ℕ) (w : Wanted) (text : List ℕ)
    → writing n r w text
    ≡ outcome_of ((check1 n ∷ check3_wanted n r w ∷ []) ++ (row_checks n r ++ (check_room (written n r w) text ∷ []))) (written n r w) text
unfolding writing write_checks
writing_split n r w text = refl
