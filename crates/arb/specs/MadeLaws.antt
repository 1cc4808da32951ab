-- Calls as they were made: the same calls on equal words gave back the same, and equal groups were stored as equal words. Assumes nothing.
use Rattle.std.specs.Prelude.{Ok, ℕ, ◌≤◌, ◌≡◌, refl, ◌↔◌, List, [], ◌∷◌, map}
use Rattle.std.proofs.Common.{sym, ap, ◌∙◌}
use Rattle.std.proofs.Math.Option.{some}
use Rattle.trees.specs.Checks.{Verdict}
use Rattle.trees.specs.Reporting.{Run}
use Rattle.runs.specs.Runs.{find}
use Rattle.runs.specs.Words.{samples, runs, most_identifier}
use Rattle.runs.specs.Calls.{added}
use Rattle.runs.specs.Histories.{Call, add, called, after, answers, study_after, study_answers, SameGroups}
use Rattle.runs.proofs.StoredLaws.{added_equal, study_equal}
use Rattle.judge.specs.Verdicts.{Answer, verdict}
use Rattle.arb.specs.Determined.{Leaves, open_determined, add_determined, withdraw_determined, report_determined, judge_determined}
use Rattle.arb.specs.Determined.{renumber_determined, compare_determined, read_determined, write_determined}
use Rattle.arb.specs.Made.{Made, Used, last_given, AnyCall, Reply, says, counts, Gives, opening, adding, withdrawing, reporting}
use Rattle.arb.specs.Made.{judging, rewriting, counting, taking_in, printing, AllGive}

-- ---- adds and withdrawals

pub made_after : (w : List ℕ) (h : List Call) (xs : List Answer) (z : List ℕ) → Made w h xs z → z ≡ after w h
unfolding after
made_after w [] [] z m = m
made_after w [] (a ∷ xs) z m = absurd m
made_after w (c ∷ h) [] z m = absurd m
made_after w (c ∷ h) (a ∷ xs) z m = made_after m.0 h xs z m.2 ∙ ap (λ (x : List ℕ). after x h) m.1.words

pub made_answers : (w : List ℕ) (h : List Call) (xs : List Answer) (z : List ℕ) → Made w h xs z → map verdict xs ≡ answers w h
unfolding answers
made_answers w [] [] z m = refl
made_answers w [] (a ∷ xs) z m = absurd m
made_answers w (c ∷ h) [] z m = absurd m
made_answers w (c ∷ h) (a ∷ xs) z m =
    ap (λ (x : Verdict). x ∷ map verdict xs) m.1.answer
    ∙ ap (λ (vs : List Verdict). (called w c).verdict ∷ vs) (made_answers m.0 h xs z m.2 ∙ ap (λ (x : List ℕ). answers x h) m.1.words)

-- a study as it was used has the words, and gave the answers, of its history
pub used_after : {n : ℕ} {w : List ℕ} {h : List Call} {xs : List Answer} {z : List ℕ} → Used n w h xs z → z ≡ study_after n w h
used_after {h} {xs} {z} s = made_after s.empty h xs z s.made ∙ ap (λ (v : List ℕ). after v h) s.opens.words

pub used_answers : {n : ℕ} {w : List ℕ} {h : List Call} {xs : List Answer} {z : List ℕ} → Used n w h xs z → map verdict xs ≡ study_answers n w h
used_answers {h} {xs} {z} s = made_answers s.empty h xs z s.made ∙ ap (λ (v : List ℕ). answers v h) s.opens.words

-- ---- any calls

-- a call on equal words gives back the same, and leaves equal words
pub gives_determined : (w : List ℕ) (c : AnyCall) (r s : Reply) (u v : List ℕ) → Gives w c r u → Gives w c s v → (r ≡ s) × (u ≡ v)
gives_determined w c r s u v (opening p) (opening q) = let t = open_determined _ w _ _ u v p q in (ap says t.0, t.1)
gives_determined w c r s u v (adding p) (adding q) = let t = add_determined w _ _ _ _ u v p q in (ap says t.0, t.1)
gives_determined w c r s u v (withdrawing p) (withdrawing q) = let t = withdraw_determined w _ _ _ u v p q in (ap says t.0, t.1)
gives_determined w c r s u v (reporting p) (reporting q) = let t = report_determined w _ _ _ _ _ _ _ _ _ p q in (cc (t.0, t.1, t.2), refl)
gives_determined w c r s u v (judging p) (judging q) = (ap says (judge_determined _ _ _ _ p q), refl)
gives_determined w c r s u v (rewriting p) (rewriting q) = let t = renumber_determined _ _ _ _ _ _ _ p q in (cc (t.0, t.1), refl)
gives_determined w c r s u v (counting p) (counting q) = (ap counts (compare_determined _ _ _ _ _ p q), refl)
gives_determined w c r s u v (taking_in p) (taking_in q) = let t = read_determined _ _ _ _ _ _ _ p q in (cc (t.0, t.1), refl)
gives_determined w c r s u v (printing p) (printing q) = let t = write_determined _ _ _ _ _ _ _ _ p q in (cc (t.0, t.1), refl)

-- so do any calls, made one after another
pub all_determined : (w : List ℕ) (cs : List AnyCall) (xs ys : List Reply) (u v : List ℕ) → AllGive w cs xs u → AllGive w cs ys v → (xs ≡ ys) × (u ≡ v)
all_determined w [] [] [] u v p q = (refl, p ∙ sym q)
all_determined w [] [] (y ∷ ys) u v p q = absurd q
all_determined w [] (x ∷ xs) ys u v p q = absurd p
all_determined w (c ∷ cs) [] ys u v p q = absurd p
all_determined w (c ∷ cs) (x ∷ xs) [] u v p q = absurd q
all_determined w (c ∷ cs) (x ∷ xs) (y ∷ ys) u v p q =
    let t = gives_determined w c x y p.0 q.0 p.1 q.1 in
    let s = all_determined p.0 cs xs ys u v p.2 (rw t.1 q.2) in
    (cc (t.0, s.0), s.1)

-- ---- EQUAL GROUPS, EQUAL WORDS (RULES D2)

-- of two accepted adds, to any two studies over the same number of samples and under any two identifiers
pub add_equal : (w v : List ℕ) (i j : ℕ) (r q : List ℕ) (y z : List ℕ) → samples v ≡ samples w → i ≤ most_identifier → j ≤ most_identifier
    → Leaves (added w i r) (Ok tt) y → Leaves (added v j q) (Ok tt) z
    → (a b : Run) → find i (runs y) ≡ some a → find j (runs z) ≡ some b → (a.row ≡ b.row) ↔ SameGroups (samples w) r q
add_equal w v i j r q y z s l m f g = rw (f.words, g.words) (added_equal w v i j r q s l m (sym f.answer) (sym g.answer))

-- of any two runs in force, in any two studies over n samples as they were used: by the rows of their last accepted adds
pub used_equal : {n : ℕ} {w v : List ℕ} {h g : List Call} {xs ys : List Answer} {y z : List ℕ} → Used n w h xs y → Used n v g ys z
    → (i j k l : ℕ) (r q : List ℕ) → last_given h xs i ≡ some (add k r) → last_given g ys j ≡ some (add l q)
    → (a b : Run) → find i (runs y) ≡ some a → find j (runs z) ≡ some b → (a.row ≡ b.row) ↔ SameGroups n r q
used_equal {n} {w} {v} {h} {g} s t = rw (used_after s, used_after t, used_answers s, used_answers t)
    (study_equal n w v h g (sym s.opens.answer) (sym t.opens.answer) s.named t.named)
