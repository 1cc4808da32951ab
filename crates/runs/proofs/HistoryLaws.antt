-- DEMAND 3, what is in force: a history keeps a study well formed, and its last accepted calls say what is in force. Assumes nothing.
use Rattle.std.specs.Prelude.{ℕ, ◌≤◌, ◌≡◌, refl, ◌⊎◌, List, [], ◌∷◌, Bool, true, false, ◌&&◌, cond, eqb, leb, length}
use Rattle.std.proofs.Common.{ap, ◌∙◌, inl, inr, ⊎_elim, leb-true}
use Rattle.std.proofs.Math.Option.{Option, some, none}
use Rattle.trees.specs.Checks.{accepted}
use Rattle.trees.specs.Valid.{Valid, is_accepted}
use Rattle.trees.specs.Numbering.{renumbered}
use Rattle.trees.proofs.BoolLaws.{and_l, and_r, and_false, decide}
use Rattle.trees.proofs.ValidLaws.{accepted_to}
use Rattle.trees.proofs.NumberingLaws.{renumbered_groups}
use Rattle.runs.specs.Runs.{every, find, is_some, present}
use Rattle.runs.specs.Words.{runs, encode, most_identifier}
use Rattle.runs.specs.Calls.{opened, added, withdrawn, stores}
use Rattle.runs.specs.Histories.{Call, add, withdraw, names, identified, called, after, answers, last_from}
use Rattle.runs.specs.Histories.{study_after, study_answers, last_accepted, is_add, leaves, SameGroups}
use Rattle.runs.proofs.RunLaws.{find_named}
use Rattle.runs.proofs.CallLaws.{kept_on, opened_kept, opened_none}
use Rattle.runs.specs.Formed.{Kept}
use Rattle.runs.proofs.AddLaws.{added_accepts, added_kept, added_find}
use Rattle.runs.proofs.WithdrawLaws.{withdrawn_accepts, withdrawn_kept, withdrawn_find}

-- ---- a call, accepted or refused

-- what a call names is a word
abbrev pub Word : Call → Type 0
Word c = names c ≤ most_identifier

-- a refused call leaves the words as they were
pub refused_words : (w : List ℕ) (c : Call) → is_accepted (called w c).verdict ≡ false → (called w c).words ≡ w
unfolding added withdrawn
refused_words w (add i row) e = rw e
refused_words w (withdraw i) e = rw e

-- a refused call is never the last accepted one: it counts as if it had not been made
pub last_refused : (i : ℕ) (sofar : Option Call) (w : List ℕ) (c : Call) (h : List Call) → is_accepted (called w c).verdict ≡ false
    → last_from i sofar (c ∷ h) (answers w (c ∷ h)) ≡ last_from i sofar h (answers w h)
unfolding last_from answers
last_refused i sofar w c h e = simp (e, and_false, refused_words w c e)

module _ (len n : ℕ) (w : List ℕ) (k : Kept len n w) where
  accepted_kept : (c : Call) → Word c → (called w c).verdict ≡ accepted → Kept len n (called w c).words
  accepted_kept (add i row) l e = kept_on len n w (added w i row).words k (added_kept w i row ((added_accepts w i row).0 e) l)
  accepted_kept (withdraw i) l e = kept_on len n w (withdrawn w i).words k (withdrawn_kept w i ((withdrawn_accepts w i).0 e))

  -- a call leaves a well-formed study as long as it was, and over as many samples
  pub called_kept : (c : Call) → Word c → Kept len n (called w c).words
  called_kept c l =
      ⊎_elim (λ e. accepted_kept c l (accepted_to (called w c).verdict e)) (λ e. rw (refused_words w c e) k) (decide (is_accepted (called w c).verdict))

  accepted_find : (c : Call) → Word c → (called w c).verdict ≡ accepted → (i : ℕ)
      → find i (runs (called w c).words) ≡ cond (eqb i (names c)) (leaves n (some c)) (find i (runs w))
  accepted_find (add j row) l e i = rw (← k.same) (added_find w j row ((added_accepts w j row).0 e) l i)
  accepted_find (withdraw j) l e i = withdrawn_find w j ((withdrawn_accepts w j).0 e) i

  -- an identifier is found after a call as before it, but where the call names it and is accepted
  called_find : (c : Call) → Word c → (i : ℕ)
      → find i (runs (called w c).words) ≡ cond (eqb i (names c) && is_accepted (called w c).verdict) (leaves n (some c)) (find i (runs w))
  called_find c l i = go (decide (eqb i (names c))) (decide (is_accepted (called w c).verdict))
    where
      go : (eqb i (names c) ≡ true) ⊎ (eqb i (names c) ≡ false) → (is_accepted (called w c).verdict ≡ true) ⊎ (is_accepted (called w c).verdict ≡ false)
          → find i (runs (called w c).words) ≡ cond (eqb i (names c) && is_accepted (called w c).verdict) (leaves n (some c)) (find i (runs w))
      go (inl q) (inl e) = rw (q, e) (accepted_find c l (accepted_to (called w c).verdict e) i ∙ (rw q))
      go (inr q) (inl e) = rw q (accepted_find c l (accepted_to (called w c).verdict e) i ∙ (rw q))
      go (inl q) (inr e) = rw (q, e) (ap (λ (v : List ℕ). find i (runs v)) (refused_words w c e))
      go (inr q) (inr e) = rw q (ap (λ (v : List ℕ). find i (runs v)) (refused_words w c e))

-- ---- a history

first_word : (c : Call) (h : List Call) → identified (c ∷ h) ≡ true → Word c
unfolding every
first_word c h e = leb-true (names c) most_identifier (and_l (leb (names c) most_identifier) (identified h) e)

rest_words : (c : Call) (h : List Call) → identified (c ∷ h) ≡ true → identified h ≡ true
unfolding every
rest_words c h e = and_r (leb (names c) most_identifier) (identified h) e

after_kept : (len n : ℕ) (w : List ℕ) (h : List Call) → Kept len n w → identified h ≡ true → Kept len n (after w h)
unfolding after
after_kept len n w [] k e = k
after_kept len n w (c ∷ h) k e = after_kept len n (called w c).words h (called_kept len n w k c (first_word c h e)) (rest_words c h e)

leaves_cond : (n : ℕ) (t : Bool) (c : Call) (sofar : Option Call) → cond t (leaves n (some c)) (leaves n sofar) ≡ leaves n (cond t (some c) sofar)
leaves_cond n true c sofar = refl
leaves_cond n false c sofar = refl

after_find : (len n i : ℕ) (sofar : Option Call) (w : List ℕ) (h : List Call) → Kept len n w → identified h ≡ true
    → find i (runs w) ≡ leaves n sofar → find i (runs (after w h)) ≡ leaves n (last_from i sofar h (answers w h))
unfolding after answers last_from
after_find len n i sofar w [] k e f = f
after_find len n i sofar w (c ∷ h) k e f =
    let t : Bool = eqb i (names c) && is_accepted (called w c).verdict in
    let l = first_word c h e in
    after_find len n i (cond t (some c) sofar) (called w c).words h (called_kept len n w k c l) (rest_words c h e)
    (called_find len n w k c l i ∙ ap (cond t (leaves n (some c))) f ∙ leaves_cond n t c sofar)

-- where a last accepted call is an add, its row is valid
abbrev pub Proper : ℕ → Option Call → Type 0
Proper n none = Unit {0}
Proper n (some (add i row)) = Valid n row
Proper n (some (withdraw i)) = Unit {0}

after_proper : (len n i : ℕ) (sofar : Option Call) (w : List ℕ) (h : List Call) → Kept len n w → identified h ≡ true
    → Proper n sofar → Proper n (last_from i sofar h (answers w h))
unfolding answers last_from
after_proper len n i sofar w [] k e p = p
after_proper len n i sofar w (c ∷ h) k e p =
    let t : Bool = eqb i (names c) && is_accepted (called w c).verdict in
    after_proper len n i (cond t (some c) sofar) (called w c).words h (called_kept len n w k c (first_word c h e)) (rest_words c h e)
    (go t (λ q. one c (accepted_to (called w c).verdict (and_r (eqb i (names c)) _ q))))
  where
    one : (d : Call) → (called w d).verdict ≡ accepted → Proper n (some d)
    one (add j row) q = rw k.same at ((added_accepts w j row).0 q).valid
    one (withdraw j) q = tt

    go : (t : Bool) → (t ≡ true → Proper n (some c)) → Proper n (cond t (some c) sofar)
    go true f = f refl
    go false f = p

-- ---- from opening on

module _ (n : ℕ) (w : List ℕ) (h : List Call) (o : (opened n w).verdict ≡ accepted) (e : identified h ≡ true) where
  -- the study stays well formed, as long as the buffer and over n samples
  pub study_kept : Kept (length w) n (study_after n w h)
  study_kept = after_kept (length w) n (opened n w).words h (opened_kept n w o) e

  -- its words are those of the runs in force, and zeros
  pub study-words : study_after n w h ≡ encode (length w) n (runs (study_after n w h))
  study-words = let k = study_kept in k.formed.exact ∙ (rw (k.size, k.same))

  -- DEMAND 3, IN FORCE: under an identifier stands what its last accepted call left: the add's row, renumbered, or nothing
  pub study_find : (i : ℕ) → find i (runs (study_after n w h)) ≡ leaves n (last_accepted h (study_answers n w h) i)
  unfolding find
  study_find i = after_find (length w) n i none (opened n w).words h (opened_kept n w o) e (ap (find i) (opened_none n w o))

  -- an identifier is in force exactly if its last accepted call was an add
  pub study_present : (i : ℕ) → present i (runs (study_after n w h)) ≡ is_add (last_accepted h (study_answers n w h) i)
  study_present i = ap is_some (study_find i) ∙ go (last_accepted h (study_answers n w h) i)
    where
      go : (c : Option Call) → is_some (leaves n c) ≡ is_add c
      go none = refl
      go (some (add j row)) = refl
      go (some (withdraw j)) = refl

  pub study_proper : (i : ℕ) → Proper n (last_accepted h (study_answers n w h) i)
  study_proper i = after_proper (length w) n i none (opened n w).words h (opened_kept n w o) e tt

  -- the run in force has exactly the groups of its last accepted add
  pub study_groups : (i j : ℕ) (row : List ℕ) → last_accepted h (study_answers n w h) i ≡ some (add j row)
      → (find i (runs (study_after n w h)) ≡ some (stores n i row)) × SameGroups n (renumbered n row) row
  study_groups i j row q =
      let f : find i (runs (study_after n w h)) ≡ some (stores n j row) = study_find i ∙ ap (leaves n) q in
      let d : j ≡ i = find_named i (runs (study_after n w h)) (stores n j row) f in
      (f ∙ ap (λ (m : ℕ). some (stores n m row)) d, renumbered_groups n row (rw q at (study_proper i)))
