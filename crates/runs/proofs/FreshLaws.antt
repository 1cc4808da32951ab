-- DEMAND 3: a fresh study takes the runs in force after a history, in any order and numbering, and ends with the same words. Assumes nothing.
use Rattle.std.specs.Prelude.{ℕ, suc, ◌+◌, ◌≤◌, ◌<◌, ◌≡◌, refl, ◌⊎◌, Bool, true, false, cond, eqb, length}
use Rattle.std.proofs.Common.{sym, ◌∙◌, subst, inl, inr, arith, eqb-true, ne_eqb, le-leb}
use Rattle.std.proofs.Math.Path.{ap}
use mathlib.Core.List.{List, [], ◌∷◌, Memᴰ}
use Rattle.std.proofs.Math.Option.{Option, some, none}
use Rattle.trees.specs.Checks.{Verdict, accepted}
use Rattle.trees.specs.Valid.{Valid, is_accepted}
use Rattle.trees.specs.Numbering.{renumbered}
use Rattle.trees.specs.Reporting.{Run}
use Rattle.trees.proofs.BoolLaws.{and_both, decide}
use Rattle.trees.proofs.ValidLaws.{judged_valid, valid_judged}
use Rattle.trees.proofs.NumberingLaws.{renumbered_standard, renumbered_groups, renumbered_same}
use Rattle.runs.specs.Runs.{every, find, insert_run}
use Rattle.runs.specs.Words.{samples, in_force, runs, encode, most_identifier, capacity}
use Rattle.runs.specs.Formed.{Rising}
use Rattle.runs.specs.Calls.{opened, added, stores}
use Rattle.runs.specs.Histories.{Call, add, withdraw, identified, after, answers, study_after, study_answers, last_accepted, leaves, StandsFor}
use Rattle.runs.specs.Histories.{Distinct, Anew, adds, Renewed, Shuffled, done, keep, swap, both}
use Rattle.runs.proofs.RunLaws.{Absent, cond_swap, find_below, find_here, find_past, absent_head, absent_tail, absent_member}
use Rattle.runs.proofs.RunLaws.{find_named, find_member, find_above, rising_unique, find_insert, insert_rising, length_insert}
use Rattle.runs.proofs.WordLaws.{length_runs}
use Rattle.runs.proofs.CallLaws.{kept_on, opened_accepts, opened_kept, opened_none}
use Rattle.runs.specs.Formed.{Kept}
use Rattle.runs.proofs.AddLaws.{Adds, added_accepts, added_kept, added_runs, added_find}
use Rattle.runs.proofs.HistoryLaws.{study_kept, study-words, study_find, Proper, study_proper}

-- ---- lists of runs that have different identifiers

pub distinct_find : (rs : List Run) (r : Run) → Distinct rs → Memᴰ r rs → find r.identifier rs ≡ some r
distinct_find [] r d x'' = elim x'' [ ]
distinct_find (x ∷ rs) r d (Memᴰ.head q) = find_here r.identifier x rs (ap (λ (y : Run). y.identifier) q) ∙ ap (λ (y : Run). some y) (sym q)
distinct_find (x ∷ rs) r d (Memᴰ.tail m) =
    find_past r.identifier x rs (λ e. absent_member x.identifier rs r d.0 m (sym e)) ∙ distinct_find rs r d.1 m

-- a run as it is stored
abbrev pub restored : ℕ → Run → Run
restored n run = stores n run.identifier run.row

-- what is found among new runs, as it is stored, or else what was there
abbrev or_old : ℕ → Option Run → Option Run → Option Run
or_old n (some r) o = some (restored n r)
or_old n none o = o

-- these runs, as they are stored, in rising order
unfoldable pub gathered : ℕ → List Run → List Run
gathered n [] = []
gathered n (r ∷ rs) = insert_run (restored n r) (gathered n rs)

find_gathered : (n : ℕ) (rs : List Run) → Distinct rs → (i : ℕ) → find i (gathered n rs) ≡ or_old n (find i rs) none
unfolding gathered find
find_gathered n [] d i = refl
find_gathered n (r ∷ rs) d i =
    find_insert i (restored n r) (gathered n rs) (find_gathered n rs d.1 r.identifier ∙ ap (λ (o : Option Run). or_old n o none) d.0)
    ∙ ap (cond (eqb i r.identifier) (some (restored n r))) (find_gathered n rs d.1 i)
    ∙ go (eqb i r.identifier)
  where
    go : (t : Bool) → cond t (some (restored n r)) (or_old n (find i rs) none) ≡ or_old n (cond t (some r) (find i rs)) none
    go true = refl
    go false = refl

gathered_rising : (n : ℕ) (rs : List Run) → Distinct rs → ((r : Run) → Memᴰ r rs → 0 < r.identifier) → Rising 0 (gathered n rs)
unfolding gathered
gathered_rising n [] d h = tt
gathered_rising n (r ∷ rs) d h =
    insert_rising 0 (restored n r) (gathered n rs) (h r (Memᴰ.head refl))
    (find_gathered n rs d.1 r.identifier ∙ ap (λ (o : Option Run). or_old n o none) d.0)
    (gathered_rising n rs d.1 (λ x m. h x (Memᴰ.tail m)))

length_gathered : (n : ℕ) (rs : List Run) → length (gathered n rs) ≡ length rs
unfolding gathered
length_gathered n [] = refl
length_gathered n (r ∷ rs) = length_insert (restored n r) (gathered n rs) ∙ ap suc (length_gathered n rs)

-- ---- runs added to a study

-- a run that adding takes, where it is not there yet and has room
pub record Fit (n : ℕ) (run : Run) : Type 0 where
  pub valid : Valid n run.row
  pub named : 0 < run.identifier
  pub word : run.identifier ≤ most_identifier

-- every add is accepted, and what is found after them is the run that was added, or is as before
record Taken (n : ℕ) (w : List ℕ) (given : List Run) : Type 0 where
  all : every is_accepted (answers w (adds given)) ≡ true
  each : (i : ℕ) → find i (runs (after w (adds given))) ≡ or_old n (find i given) (find i (runs w))

-- one run more
module _ (len n : ℕ) (w : List ℕ) (r : Run) (k : Kept len n w) (fit : Fit n r) (new : Absent r.identifier (runs w)) (room : in_force w < capacity len n) where
  abbrev v : List ℕ
  v = (added w r.identifier r.row).words

  one : Adds w r.identifier r.row
  one = record { formed = k.formed; valid = rw k.same fit.valid; named = fit.named; absent = new; room = rw (k.size, k.same) room }

  one_accepted : (added w r.identifier r.row).verdict ≡ accepted
  one_accepted = (added_accepts w r.identifier r.row).1 one

  one_kept : Kept len n v
  one_kept = kept_on len n w v k (added_kept w r.identifier r.row one fit.word)

  one_find : (i : ℕ) → find i (runs v) ≡ cond (eqb i r.identifier) (some (restored n r)) (find i (runs w))
  one_find i = rw (← k.same) (added_find w r.identifier r.row one fit.word i)

  one_more : in_force v ≡ suc (in_force w)
  one_more =
      sym (length_runs v)
      ∙ ap length (added_runs w r.identifier r.row one fit.word)
      ∙ length_insert (restored (samples w) r) (runs w)
      ∙ ap suc (length_runs w)

-- runs that fit, none of them there yet, as many as there is room for
record Fits (len n : ℕ) (w : List ℕ) (given : List Run) : Type 0 where
  once : Distinct given
  fit : (r : Run) → Memᴰ r given → Fit n r
  new : (r : Run) → Memᴰ r given → Absent r.identifier (runs w)
  room : in_force w + length given ≤ capacity len n

adds_taken : (len n : ℕ) (w : List ℕ) (given : List Run) → Kept len n w → Fits len n w given → Taken n w given
unfolding every after answers find
adds_taken len n w [] k f = record { all = refl; each = λ i. refl }
adds_taken len n w (r ∷ rs) k f =
    let fit : Fit n r = f.fit r (Memᴰ.head refl) in
    let new : Absent r.identifier (runs w) = f.new r (Memᴰ.head refl) in
    let room : in_force w < capacity len n = omega (arith, f.room) in
    let found = one_find len n w r k fit new room in
    let ih = adds_taken len n (added w r.identifier r.row).words rs (one_kept len n w r k fit new room) record {
      once = f.once.1;
      fit = λ x m. f.fit x (Memᴰ.tail m);
      new = λ x m. found x.identifier ∙ (rw (other x m) (f.new x (Memᴰ.tail m)));
      room = omega (arith, f.room, one_more len n w r k fit new room);
    } in
    record {
      all = and_both _ _ (ap is_accepted (one_accepted len n w r k fit new room)) ih.all;
      each = λ i. ih.each i ∙ ap (or_old n (find i rs)) (found i) ∙ last i (decide (eqb i r.identifier));
    }
  where
    other : (x : Run) → Memᴰ x rs → eqb x.identifier r.identifier ≡ false
    other x m = ne_eqb x.identifier r.identifier (λ e. absent_member r.identifier rs x f.once.0 m (sym e))

    last : (i : ℕ) → (eqb i r.identifier ≡ true) ⊎ (eqb i r.identifier ≡ false)
        → or_old n (find i rs) (cond (eqb i r.identifier) (some (restored n r)) (find i (runs w))) ≡ or_old n (find i (r ∷ rs)) (find i (runs w))
    last i (inl e) = rw (e, eqb-true i r.identifier e, f.once.0)
    last i (inr e) = rw e

adds_words : (rs : List Run) → ((r : Run) → Memᴰ r rs → r.identifier ≤ most_identifier) → identified (adds rs) ≡ true
unfolding every
adds_words [] f = refl
adds_words (r ∷ rs) f = and_both _ _ (le-leb r.identifier most_identifier (f r (Memᴰ.head refl))) (adds_words rs (λ x m. f x (Memᴰ.tail m)))

-- ---- runs added to an opened study that has room for them

module _ (n : ℕ) (w : List ℕ) (rs : List Run) (o : (opened n w).verdict ≡ accepted) (once : Distinct rs) (fit : (r : Run) → Memᴰ r rs → Fit n r)
    (few : length rs ≤ capacity (length w) n) where
  none_found : (i : ℕ) → Absent i (runs (opened n w).words)
  unfolding find
  none_found i = ap (find i) (opened_none n w o)

  filled : Taken n (opened n w).words rs
  filled = adds_taken (length w) n (opened n w).words rs (opened_kept n w o) record {
    once = once;
    fit = fit;
    new = λ r m. none_found r.identifier;
    room = omega (arith, length_runs (opened n w).words, ap length (opened_none n w o), few);
  }

  -- each of them is taken
  pub filled_takes : every is_accepted (study_answers n w (adds rs)) ≡ true
  filled_takes = filled.all

  -- and then the words are theirs, in the order of their identifiers
  pub filled_words : study_after n w (adds rs) ≡ encode (length w) n (gathered n rs)
  filled_words = study-words n w (adds rs) o named ∙ ap (encode (length w) n)
      (rising_unique 0 (runs (study_after n w (adds rs))) (gathered n rs) (study_kept n w (adds rs) o named).formed.rises
      (gathered_rising n rs once (λ r m. (fit r m).named))
      (λ i. filled.each i ∙ ap (or_old n (find i rs)) (none_found i) ∙ sym (find_gathered n rs once i)))
    where
      named : identified (adds rs) ≡ true
      named = adds_words rs (λ r m. (fit r m).word)

-- ---- the runs in force, added to a fresh study

-- what stands for a last accepted call is stored as the call was
stands_stored : (n i : ℕ) (o : Option Run) (c : Option Call) → ((r : Run) → o ≡ some r → r.identifier ≡ i)
    → ((r : Run) → leaves n c ≡ some r → r.identifier ≡ i) → StandsFor n o c → or_old n o none ≡ leaves n c
stands_stored n i (some r) (some (add j row)) f g s = cc (f r refl ∙ sym (g (stores n j row) refl), renumbered_same n r.row row s.1)
stands_stored n i (some r) (some (withdraw j)) f g s = absurd s
stands_stored n i (some r) none f g s = absurd s
stands_stored n i none (some (add j row)) f g s = absurd s
stands_stored n i none (some (withdraw j)) f g s = refl
stands_stored n i none none f g s = refl

stands_valid : (n : ℕ) (r : Run) (c : Option Call) → StandsFor n (some r) c → Valid n r.row
stands_valid n r (some (add j row)) s = judged_valid n r.row s.0
stands_valid n r (some (withdraw j)) s = absurd s
stands_valid n r none s = absurd s

-- a history, and the runs for a fresh study
module _ (n : ℕ) (w : List ℕ) (h : List Call) (given : List Run) (o : (opened n w).verdict ≡ accepted) (e : identified h ≡ true)
    (anew : Anew n h (study_answers n w h) given) where
  abbrev old : List Run
  old = runs (study_after n w h)

  kept : Kept (length w) n (study_after n w h)
  kept = study_kept n w h o e

  up : Rising 0 old
  up = kept.formed.rises

  -- each run is in force, as it is stored, and nothing else is
  given_found : (i : ℕ) → or_old n (find i given) none ≡ find i old
  given_found i =
      let q = study_find n w h o e i in
      stands_stored n i (find i given) (last_accepted h (study_answers n w h) i) (find_named i given) (λ r p. find_named i old r (q ∙ p)) (anew.each i) ∙ sym q

  given_fit : (r : Run) → Memᴰ r given → Fit n r
  given_fit r m =
      let i : ℕ = r.identifier in
      let c : Option Call = last_accepted h (study_answers n w h) i in
      let f : find i given ≡ some r = distinct_find given r anew.once m in
      let g : find i old ≡ some (restored n r) = sym (given_found i) ∙ ap (λ (x : Option Run). or_old n x none) f in
      record {
        valid = stands_valid n r c (subst (λ (x : Option Run). StandsFor n x c) f (anew.each i));
        named = find_above i 0 old (restored n r) up g;
        word = (kept.formed.stored (restored n r) (find_member i old (restored n r) g)).word;
      }

  -- they are the runs in force, put in order, and so as many
  given_all : gathered n given ≡ old
  given_all =
      rising_unique 0 (gathered n given) old (gathered_rising n given anew.once (λ r m. (given_fit r m).named)) up
      (λ i. find_gathered n given anew.once i ∙ given_found i)

  given_length : length given ≡ length old
  given_length = sym (length_gathered n given) ∙ ap length given_all

  module _ (fresh : List ℕ) (l : length fresh ≡ length w) where
    fresh_opens : (opened n fresh).verdict ≡ accepted
    fresh_opens = let a = (opened_accepts n w).0 o in (opened_accepts n fresh).1 record { least = a.least; most = a.most; one = rw l a.one }

    few : length given ≤ capacity (length fresh) n
    few =
        let f = rw (kept.size, kept.same) at kept.formed.fits in
        rw l (omega (arith, given_length, length_runs (study_after n w h)))

    -- DEMAND 3 (RULES D3): after any history from opening on, refused calls among them, take a fresh buffer of the same length, whatever its words.
    -- It can be opened for the same n, takes the runs in force, in any order and each as any row with the groups of its last accepted add, and
    -- has the same words then
    pub demand_3 : Renewed n w h fresh given
    demand_3 = record {
      opens = fresh_opens;
      takes = filled_takes n fresh given fresh_opens anew.once given_fit few;
      words =
          filled_words n fresh given fresh_opens anew.once given_fit few
          ∙ (rw (l, given_all) (sym (study-words n w h o e)));
    }

-- ---- in any order

-- in another order the identifiers are different too, and the same runs are found
shuffled_find : {rs ss : List Run} → Shuffled rs ss → Distinct rs → Distinct ss × ((i : ℕ) → find i ss ≡ find i rs)
unfolding find
shuffled_find done d = (tt, λ i. refl)
shuffled_find (keep r p) d = let t = shuffled_find p d.1 in ((t.1 r.identifier ∙ d.0, t.0), λ i. ap (cond (eqb i r.identifier) (some r)) (t.1 i))
shuffled_find (swap r s rs) d =
    let x : r.identifier ≡ s.identifier → ⊥ = absent_head r.identifier s rs d.0 in (
      (find_past s.identifier r rs (λ e. x (sym e)) ∙ d.1.0, (absent_tail r.identifier s rs d.0, d.1.1)),
      λ i. cond_swap i s.identifier r.identifier (λ e. x (sym e)) (some s) (some r) (find i rs),
    )
shuffled_find (both p q) d = let t = shuffled_find p d in let u = shuffled_find q t.0 in (u.0, λ i. u.1 i ∙ t.1 i)

-- the runs for a fresh study may be added in every order
pub shuffled_anew : (n : ℕ) (h : List Call) (vs : List Verdict) (given other : List Run) → Anew n h vs given → Shuffled given other → Anew n h vs other
shuffled_anew n h vs given other a p = let t = shuffled_find p a.once in record { once = t.0; each = λ i. rw (t.1 i) (a.each i) }

rising_distinct : (b : ℕ) (rs : List Run) → Rising b rs → Distinct rs
rising_distinct b [] h = tt
rising_distinct b (r ∷ rs) h = (find_below r.identifier r.identifier rs h.1 (omega arith), rising_distinct r.identifier rs h.1)

-- the runs in force, as they are stored, may be added to a fresh study
pub stored_anew : (n : ℕ) (w : List ℕ) (h : List Call) → (opened n w).verdict ≡ accepted → identified h ≡ true
    → Anew n h (study_answers n w h) (runs (study_after n w h))
stored_anew n w h o e = record {
  once = rising_distinct 0 (runs (study_after n w h)) (study_kept n w h o e).formed.rises;
  each = λ i. rw (study_find n w h o e i) (go (last_accepted h (study_answers n w h) i) (study_proper n w h o e i));
}
  where
    go : (c : Option Call) → Proper n c → StandsFor n (leaves n c) c
    go none p = tt
    go (some (add j row)) p = (valid_judged n (renumbered n row) (renumbered_standard n row p).valid, renumbered_groups n row p)
    go (some (withdraw j)) p = tt
