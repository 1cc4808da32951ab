-- What a call keeps of a study, and opening: when it refuses with a number, what a refusal leaves, and that the study is well formed. Assumes nothing.
use Rattle.runs.specs.Formed.{Kept}
use Rattle.std.specs.Prelude.{ℕ, ◌≤◌, ◌≡◌, ◌↔◌, List, [], ◌∷◌, ltb, length}
use Rattle.std.proofs.Math.Path.{refl}
use Rattle.std.proofs.Common.{◌∙◌, arith}
use mathlib.Core.List.Memᴰ
use borrow.Author.Tests.{ltb-false, le-ltb}
use Rattle.trees.specs.Checks.{accepted, refused, ◌⊳◌, fewest_samples, most_samples, check1}
use Rattle.trees.specs.Reporting.{Run}
use Rattle.trees.proofs.ChainLaws.{passed_chain, chain_passed, numbers, Exactly, accepted_other, refused_exactly, line_passes, line_pass}
use Rattle.trees.proofs.OutcomeLaws.{outcome_refused, outcome_accepted}
use Rattle.trees.proofs.CheckLaws.{samples_exactly}
use Rattle.runs.specs.Words.{samples, runs, encode, capacity}
use Rattle.runs.specs.Calls.{check3_open, open_checks, opened}
use Rattle.runs.proofs.WordLaws.{samples_encode}
use Rattle.runs.proofs.FormedLaws.{Room, room_length, room_runs, room_formed}

pub kept_on : (len n : ℕ) (w v : List ℕ) → Kept len n w → Kept (length w) (samples w) v → Kept len n v
kept_on len n w v k t = record { formed = t.formed; size = t.size ∙ k.size; same = t.same ∙ k.same }

-- the words of runs that have room
pub room_kept : (len n : ℕ) (rs : List Run) → Room len n rs → Kept len n (encode len n rs)
room_kept len n rs ok = record { formed = room_formed len n rs ok; size = room_length len n rs ok; same = samples_encode len n rs }

-- ---- opening

-- what opening asks for
pub record Opens (n : ℕ) (w : List ℕ) : Type 0 where
  pub least : fewest_samples ≤ n
  pub most : n ≤ most_samples
  pub one : 1 ≤ capacity (length w) n

module _ (n : ℕ) (w : List ℕ) where
  pub opened_accepts : ((opened n w).verdict ≡ accepted) ↔ Opens n w
  unfolding opened open_checks
  opened_accepts = (to, from)
    where
      to : (check1 n ∷ check3_open n w ∷ []) ⊳ accepted ≡ accepted → Opens n w
      to e =
          let h = chain_passed (check1 n ∷ check3_open n w ∷ []) e in
          let b = (samples_exactly n).0 h.0 in
          record { least = b.0; most = b.1; one = ltb-false (capacity (length w) n) 1 (line_passes 3 (ltb (capacity (length w) n) 1) h.1.0) }

      from : Opens n w → (check1 n ∷ check3_open n w ∷ []) ⊳ accepted ≡ accepted
      from o = passed_chain (check1 n ∷ check3_open n w ∷ []) accepted (
        (samples_exactly n).1 (o.least, o.most),
        (line_pass 3 (ltb (capacity (length w) n) 1) (le-ltb (capacity (length w) n) 1 o.one), tt),
      )

  -- the order of its checks
  pub opened_numbers : numbers (open_checks n w) ≡ (1 ∷ 3 ∷ [])
  unfolding open_checks
  opened_numbers = refl

  -- DEMAND 1 of opening (RULES D1)
  pub opened_exactly : (k p : ℕ) → ((opened n w).verdict ≡ refused k p) ↔ Exactly k p (open_checks n w)
  unfolding opened
  opened_exactly = refused_exactly (open_checks n w) accepted accepted_other

  pub opened_unchanged : (k p : ℕ) → (opened n w).verdict ≡ refused k p → (opened n w).words ≡ w
  unfolding opened
  opened_unchanged = outcome_refused (open_checks n w) w (encode (length w) n [])

  pub opened_words : (opened n w).verdict ≡ accepted → (opened n w).words ≡ encode (length w) n []
  unfolding opened
  opened_words = outcome_accepted (open_checks n w) w (encode (length w) n [])

  opened_room : Opens n w → Room (length w) n []
  opened_room o = record { least = o.least; most = o.most; one = o.one; fits = omega arith; rises = tt; stored = λ run m. absurd (Memᴰ.not-nil m) }

  pub opened_kept : (opened n w).verdict ≡ accepted → Kept (length w) n (opened n w).words
  opened_kept e = rw (opened_words e) (room_kept (length w) n [] (opened_room (opened_accepts.0 e)))

  -- an accepted opening leaves no run in force (RULES 6.8)
  pub opened_none : (opened n w).verdict ≡ accepted → runs (opened n w).words ≡ []
  opened_none e = rw (opened_words e) (room_runs (length w) n [] (opened_room (opened_accepts.0 e)))
