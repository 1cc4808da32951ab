-- Adding: when it accepts, what each number means, that it keeps a study well formed, and what it stores. Assumes nothing.
use Rattle.std.specs.Prelude.{ℕ, ◌≤◌, ◌<◌, ◌≡◌, ◌↔◌, List, [], ◌∷◌, true, cond, eqb, length}
use Rattle.std.proofs.Math.Path.{refl}
use Rattle.std.proofs.Common.{sym, ap, ◌∙◌, subst, ⊎_elim, arith}
use Rattle.std.proofs.Math.Option.{some}
use Rattle.std.proofs.Math.Bool.{not}
use borrow.Author.Tests.{eqb-false, eq-eqb, ne_eqb, not-false}
use Rattle.trees.specs.Checks.{Verdict, accepted, refused, Check, ◌⊳◌, row_words, row_checks, judge_checks, judged}
use Rattle.trees.specs.Valid.{Valid, is_accepted}
use Rattle.trees.specs.Numbering.{renumbered}
use Rattle.trees.proofs.ChainLaws.{chain_append, chain_go, Passed, passed_chain, chain_passed, passed_append, passed_split}
use Rattle.trees.proofs.ChainLaws.{numbers, Exactly, accepted_other, refused_exactly, line_passes, line_pass}
use Rattle.trees.proofs.OutcomeLaws.{outcome_refused, outcome_accepted}
use Rattle.trees.proofs.CheckLaws.{samples_exactly}
use Rattle.trees.proofs.ValidLaws.{judged_valid, valid_row}
use Rattle.trees.proofs.NumberingLaws.{renumbered_standard, renumbered_groups, renumbered_same}
use Rattle.runs.specs.Runs.{find, is_some, present, insert_run}
use Rattle.runs.specs.Words.{samples, in_force, runs, encode, most_identifier, capacity, full}
use Rattle.runs.specs.Formed.{well_formed, Stored, Formed}
use Rattle.trees.specs.Outcomes.{Outcome}
use Rattle.runs.specs.Calls.{check2, check4, check11, check12, add_formed_checks, add_checks, stores, runs_with, added}
use Rattle.runs.specs.Histories.{SameGroups}
use Rattle.runs.proofs.RunLaws.{Absent, find_insert, insert_rising, length_insert, insert_member, absent_none}
use Rattle.runs.proofs.WordLaws.{room_exactly, length_runs}
use Rattle.runs.proofs.FormedLaws.{formed_to, formed_from, Room, room_runs}
use Rattle.runs.proofs.CallLaws.{room_kept}
use Rattle.runs.specs.Formed.{Kept}

judged_passed : (n : ℕ) (r : List ℕ) → Passed (judge_checks n r) → judged n r ≡ accepted
unfolding judged
judged_passed n r h = passed_chain (judge_checks n r) accepted h

-- an add puts its run among those in force: under its identifier it is found, and every other as before
with_find : (w : List ℕ) (i : ℕ) (row : List ℕ) → Absent i (runs w) → (j : ℕ)
    → find j (runs_with w i row) ≡ cond (eqb j i) (some (stores (samples w) i row)) (find j (runs w))
with_find w i row a j = find_insert j (stores (samples w) i row) (runs w) a

-- what adding asks for
pub record Adds (w : List ℕ) (i : ℕ) (row : List ℕ) : Type 0 where
  pub formed : Formed w
  pub valid : Valid (samples w) row
  pub named : 0 < i
  pub absent : Absent i (runs w)
  pub room : in_force w < capacity (length w) (samples w)

module _ (w : List ℕ) (i : ℕ) (row : List ℕ) where
  abbrev n : ℕ
  n = samples w

  abbrev last : List Check
  last = check11 w i ∷ check12 w ∷ []

  adds_to : Passed (add_checks w i row) → Adds w i row
  unfolding add_checks add_formed_checks judge_checks
  adds_to h =
      let f : Formed w = formed_to w (not-false _ (line_passes 2 (not (well_formed w)) h.0)) in
      let s = passed_split (row_checks n row) last h.1.1.1 in
      let z : i ≡ 0 → ⊥ = eqb-false i 0 (line_passes 4 (eqb i 0) h.1.1.0) in
      record {
        formed = f;
        valid = judged_valid n row (judged_passed n row ((samples_exactly n).1 (f.least, f.most), (h.1.0, s.0)));
        named = omega arith;
        absent = absent_none i (runs w) (line_passes 11 (present i (runs w)) s.1.0);
        room = (room_exactly w f.fits).0 (line_passes 12 (full w) s.1.1.0);
      }

  adds_from : Adds w i row → Passed (add_checks w i row)
  unfolding add_checks add_formed_checks
  adds_from a = (
    line_pass 2 (not (well_formed w)) (ap not (formed_from w a.formed)),
    (
      line_pass 3 (not (eqb (length row) (row_words n))) (ap not (eq-eqb (length row) (row_words n) a.valid.words)),
      (
        line_pass 4 (eqb i 0) (ne_eqb i 0 (λ e. omega (arith, a.named))),
        passed_append (row_checks n row) last (chain_passed (row_checks n row) (valid_row n row a.valid accepted)) (
          line_pass 11 (present i (runs w)) (ap is_some a.absent),
          (line_pass 12 (full w) ((room_exactly w a.formed.fits).1 a.room), tt),
        ),
      ),
    ),
  )

  pub added_accepts : ((added w i row).verdict ≡ accepted) ↔ Adds w i row
  unfolding added
  added_accepts = (λ e. adds_to (chain_passed (add_checks w i row) e), λ a. passed_chain (add_checks w i row) accepted (adds_from a))

  -- the order of its checks
  pub added_numbers : numbers (add_checks w i row) ≡ (2 ∷ 3 ∷ 4 ∷ 5 ∷ 6 ∷ 7 ∷ 8 ∷ 9 ∷ 10 ∷ 11 ∷ 12 ∷ [])
  unfolding add_checks add_formed_checks row_checks
  added_numbers = refl

  -- DEMAND 1 of adding (RULES D1)
  pub added_exactly : (k p : ℕ) → ((added w i row).verdict ≡ refused k p) ↔ Exactly k p (add_checks w i row)
  unfolding added
  added_exactly = refused_exactly (add_checks w i row) accepted accepted_other

  pub added_unchanged : (k p : ℕ) → (added w i row).verdict ≡ refused k p → (added w i row).words ≡ w
  unfolding added
  added_unchanged = outcome_refused (add_checks w i row) w (encode (length w) n (runs_with w i row))

  pub added_words : (added w i row).verdict ≡ accepted → (added w i row).words ≡ encode (length w) (samples w) (runs_with w i row)
  unfolding added
  added_words = outcome_accepted (add_checks w i row) w (encode (length w) n (runs_with w i row))

  -- the checks that are left where the study is known to be well formed
  pub added_formed : well_formed w ≡ true → add_checks w i row ⊳ accepted ≡ add_formed_checks w i row ⊳ accepted
  unfolding add_checks
  added_formed e = chain_go (check2 w) (add_formed_checks w i row) accepted (rw e)

  module _ (a : Adds w i row) (word : i ≤ most_identifier) where
    new_stored : Stored n (stores n i row)
    new_stored = record { word = word; standard = renumbered_standard n row a.valid }

    added_room : Room (length w) n (runs_with w i row)
    added_room = record {
      least = a.formed.least;
      most = a.formed.most;
      one = a.formed.one;
      fits = omega (arith, length_insert (stores n i row) (runs w), length_runs w, a.room);
      rises = insert_rising 0 (stores n i row) (runs w) a.named a.absent a.formed.rises;
      stored = λ run m. ⊎_elim (λ e. subst (Stored n) (sym e) new_stored) (a.formed.stored run) (insert_member (stores n i row) (runs w) run m);
    }

    pub added_kept : Kept (length w) (samples w) (added w i row).words
    added_kept = rw (added_words (added_accepts.1 a)) (room_kept (length w) n (runs_with w i row) added_room)

    pub added_runs : runs (added w i row).words ≡ runs_with w i row
    added_runs = rw (added_words (added_accepts.1 a)) (room_runs (length w) n (runs_with w i row) added_room)

    -- an identifier is found after an add as before it, but for the add's own
    pub added_find : (j : ℕ) → find j (runs (added w i row).words) ≡ cond (eqb j i) (some (stores (samples w) i row)) (find j (runs w))
    added_find j = rw added_runs (with_find w i row a.absent j)

-- FROM DEMAND 2: an accepted run is stored under its identifier, with exactly the groups it came with (RULES D2)
pub added_stored : (w : List ℕ) (i : ℕ) (row : List ℕ) → i ≤ most_identifier → (added w i row).verdict ≡ accepted
    → (find i (runs (added w i row).words) ≡ some (stores (samples w) i row)) × SameGroups (samples w) (renumbered (samples w) row) row
added_stored w i row l e =
    let a = (added_accepts w i row).0 e in
    (added_find w i row a l i ∙ (rw (eq-eqb i i refl)), renumbered_groups (samples w) row a.valid)

-- a row that is valid is not asked for again
added_judged : (w : List ℕ) (i : ℕ) (row : List ℕ) → Valid (samples w) row
    → add_checks w i row ⊳ accepted ≡ (check2 w ∷ check4 i ∷ check11 w i ∷ check12 w ∷ []) ⊳ accepted
unfolding add_checks add_formed_checks ◌⊳◌
added_judged w i row ok =
    let last : List Check = check11 w i ∷ check12 w ∷ [] in
    rw (
      eq-eqb (length row) (row_words (samples w)) ok.words,
      chain_append (row_checks (samples w) row) last accepted,
      valid_row (samples w) row ok (last ⊳ accepted),
    )

-- ROWS WITH EQUAL GROUPS ARE STORED AS EQUAL WORDS: where judging accepts both, adding answers alike and leaves equal words
pub added_same : (w : List ℕ) (i : ℕ) (r q : List ℕ) → judged (samples w) r ≡ accepted → judged (samples w) q ≡ accepted → SameGroups (samples w) r q
    → added w i r ≡ added w i q
unfolding added
added_same w i r q a b e =
    ap (left (renumbered (samples w) r)) (added_judged w i r (judged_valid (samples w) r a) ∙ sym (added_judged w i q (judged_valid (samples w) q b)))
    ∙ ap (λ (row : List ℕ). left row (add_checks w i q ⊳ accepted)) (renumbered_same (samples w) r q e)
  where
    left : List ℕ → Verdict → Outcome
    left row v = record {
      verdict = v;
      words = cond (is_accepted v) (encode (length w) (samples w) (insert_run (record { identifier = i; row = row }) (runs w))) w;
    }
