-- When a tree is listed, and when a refusal is, for each number, with its slot and place: by the calls, and from the file alone. Assumes nothing.
use Rattle.std.specs.Prelude.{ℕ, zero, suc, ◌+◌, ◌<◌, refl, ◌↔◌, ◌⊎◌, Bool, cond, length}
use Rattle.std.proofs.Math.Path.{◌≡◌}
use Rattle.std.proofs.Common.{sym, ap, ◌∙◌, inl, inr, true≢false, add-zero, arith, eqb-true, eq-eqb, ne_eqb}
use mathlib.Core.List.Memᴰ
use mathlib.Core.List.{List, [], ◌∷◌, ◌++◌, Memᴰ}
use Rattle.std.proofs.Math.Bool.{true, false}
use Rattle.std.proofs.Math.Dec.{eqb}
use Rattle.trees.specs.Lists.{nowhere, at, tabulate, zeros}
use Rattle.trees.specs.Checks.{Verdict, accepted, refused, counted, wrote, Check, or_else, ◌⊳◌, row_words, outside}
use Rattle.trees.specs.Valid.{is_accepted}
use Rattle.trees.specs.Reporting.{agreed, supports}
use Rattle.trees.specs.Thresholds.{least_threshold, most_threshold, threshold}
use Rattle.trees.proofs.BoolLaws.{and_l, and_r, decide}
use Rattle.trees.proofs.ListLaws.{length_zeros}
use Rattle.trees.proofs.ChainLaws.{Passed, Given, here, later, chain_holds, numbers, line_passes}
use Rattle.trees.proofs.CheckLaws.{outside_not}
use Rattle.trees.proofs.ValidLaws.{accepted_to}
use Rattle.runs.specs.Runs.{every}
use Rattle.runs.specs.Words.{in_force}
use Rattle.runs.specs.Calls.{opened, added, open_checks, add_checks}
use Rattle.runs.specs.Histories.{Call, called, answers, after}
use Rattle.runs.specs.Reports.{Report, rule_of, reported, report_checks, report_formed_checks}
use Rattle.runs.proofs.WordLaws.{length_runs}
use Rattle.runs.proofs.FormedLaws.{formed_from}
use Rattle.runs.proofs.CallLaws.{opened_kept, opened_none}
use Rattle.runs.specs.Formed.{Kept}
use Rattle.runs.proofs.ReportLaws.{threshold_exactly, reported_rows}
use Rattle.file.specs.Files.{file_samples, file_runs, bad_file, slot_identifier, slot_row}
use Rattle.file.proofs.FileLaws.{Sound, not_bad, sound_good, bad-file}
use Rattle.listing.specs.Listing.{Listed, refusal, tree, study_words, unless, first_refused, slot_call, reports, adds_and_reports}
use Rattle.listing.specs.Listing.{listed_file, listed}
use Rattle.listing.specs.Slots.{slot_checks, slot_runs}
use Rattle.listing.specs.ListingLaws.{listed_bad}
use Rattle.listing.specs.SlotLaws.{file_calls, file_study, Takes, takes_next, Fit, Bytes, study_opens, study_formed, study_runs, study_count}
use Rattle.listing.specs.SlotLaws.{slot_refused, slots_taken, slot_numbers}

-- ---- what a tree and what a refusal stand for

-- the report of the study that was given the first k slots
abbrev pub file_report : List ℕ → ℕ → ℕ → Report
file_report bytes n k = reported (file_study bytes n k) 0 (zeros (row_words n)) (zeros (row_words n))

-- A tree (RULES 9.2): the file is good, the study is opened, takes each slot and is reported; the rows are the report's.
pub record Tree (bytes : List ℕ) (n k : ℕ) (row support : List ℕ) : Type 0 where
  pub good : Sound bytes
  pub samples : n ≡ file_samples bytes
  pub count : k ≡ file_runs bytes
  pub opens : (opened n (zeros study_words)).verdict ≡ accepted
  pub takes : Takes bytes n k
  pub report : (file_report bytes n k).verdict ≡ accepted
  pub agreed : row ≡ (file_report bytes n k).agreed_row
  pub supports : support ≡ (file_report bytes n k).support_row

-- Slot j is the first that is not taken: the study that took those before it refuses it.
pub record Stops (bytes : List ℕ) (r j p : ℕ) : Type 0 where
  pub within : j < file_runs bytes
  pub takes : Takes bytes (file_samples bytes) j
  pub refuses : (called (file_study bytes (file_samples bytes) j) (slot_call bytes (file_samples bytes) j)).verdict ≡ refused r p

-- The refusals (RULES 7.5, 9.3, 9.7): a bad file, an n that breaks RULES 1.1, a slot, or no slots, so that no run is in force.
pub data Refuses (bytes : List ℕ) (r j p : ℕ) : Type 0 where
  bad : bad_file bytes ≡ true → r ≡ 15 → j ≡ 0 → p ≡ 0 → Refuses bytes r j p
  size : Sound bytes → outside 2 512 (file_samples bytes) ≡ true → r ≡ 1 → j ≡ 0 → p ≡ 0 → Refuses bytes r j p
  slot : Fit bytes → Stops bytes r j p → Refuses bytes r j p
  empty : Fit bytes → file_runs bytes ≡ 0 → r ≡ 14 → j ≡ 0 → p ≡ 0 → Refuses bytes r j p

-- ---- each of them is listed

-- no refusal among the slots' answers
first_none : (vs : List Verdict) (s : ℕ) (next : Listed) → every is_accepted vs ≡ true → first_refused vs s next ≡ next
unfolding first_refused every
first_none [] s next e = refl
first_none (accepted ∷ vs) s next e = first_none vs (suc s) next e
first_none (refused a b ∷ vs) s next e = absurd (true≢false (sym e))
first_none (counted a b c ∷ vs) s next e = absurd (true≢false (sym e))
first_none (wrote k ∷ vs) s next e = absurd (true≢false (sym e))

-- of m calls from s on, the one after i accepted ones is refused
first_some : (call : ℕ → Call) (next : Listed) (r p m i s : ℕ) (w : List ℕ) → i < m → every is_accepted (answers w (tabulate i call s)) ≡ true
    → (called (after w (tabulate i call s)) (call (s + i))).verdict ≡ refused r p → first_refused (answers w (tabulate m call s)) s next ≡ refusal r (s + i) p
unfolding first_refused answers tabulate every after
first_some call next r p zero i s w h t d = absurd (omega arith)
first_some call next r p (suc m) zero s w h t d = let e : (called w (call s)).verdict ≡ refused r p = rw add-zero at d in rw (add-zero s, e) refl
first_some call next r p (suc m) (suc i) s w h t d =
    let v = called w (call s) in
    let rest : Bool = every is_accepted (answers v.words (tabulate i call (suc s))) in
    let e : s + suc i ≡ suc s + i = omega arith in
    rw (accepted_to v.verdict (and_l (is_accepted v.verdict) rest t), e)
    (first_some call next r p m i (suc s) v.words (omega arith) (and_r (is_accepted v.verdict) rest t) (rw e at d))

-- a good file whose slots are all taken comes to its report
whole_reports : (bytes : List ℕ) → Sound bytes → (opened (file_samples bytes) (zeros study_words)).verdict ≡ accepted
    → Takes bytes (file_samples bytes) (file_runs bytes)
    → listed bytes ≡ reports (file_samples bytes) (file_runs bytes) (file_study bytes (file_samples bytes) (file_runs bytes))
unfolding listed listed_file adds_and_reports
whole_reports bytes s o t =
    let n = file_samples bytes in
    rw (sound_good bytes s, o) (first_none (answers (opened n (zeros study_words)).words (file_calls bytes n (file_runs bytes))) 0 _ t)

-- RULES 1.1 decides whether the study is opened
size_refused : (n : ℕ) → outside 2 512 n ≡ true → (opened n (zeros study_words)).verdict ≡ refused 1 0
unfolding opened open_checks ◌⊳◌
size_refused n e = rw e refl

-- and line 14 of RULES 7.5 whether it is reported
report_answer : (n : ℕ) (w : List ℕ) → Kept study_words n w
    → (reported w 0 (zeros (row_words n)) (zeros (row_words n))).verdict ≡ cond (eqb (in_force w) 0) (refused 14 0) accepted
unfolding reported report_checks report_formed_checks ◌⊳◌
report_answer n w h =
    rw (formed_from w h.formed, h.same, length_zeros (row_words n), eq-eqb (row_words n) (row_words n) refl, fits) (go (eqb (in_force w) 0))
  where
    fits : outside least_threshold most_threshold (threshold 0) ≡ false
    fits = line_passes 16 _ ((threshold_exactly 0).1 (inl refl))

    go : (b : Bool) → or_else 14 (cond b (at 0) nowhere) accepted ≡ cond b (refused 14 0) accepted
    go true = refl
    go false = refl

-- such a refusal is listed, whatever the numbers are that a file has for bytes
pub refuses_listed : (bytes : List ℕ) (r j p : ℕ) → Refuses bytes r j p → listed bytes ≡ refusal r j p
unfolding listed listed_file adds_and_reports reports tabulate answers after every
refuses_listed bytes r j p (bad e er ej ep) = rw (er, ej, ep) (listed_bad bytes (bad-file bytes e))
refuses_listed bytes r j p (size s e er ej ep) = rw (er, ej, ep, sound_good bytes s, size_refused (file_samples bytes) e) refl
refuses_listed bytes r j p (slot f h) =
    let n = file_samples bytes in
    let k = file_runs bytes in
    let o = opened n (zeros study_words) in
    let e : 0 + j ≡ j = omega arith in
    rw (sound_good bytes f.sound, study_opens n f.least f.most)
    (first_some (slot_call bytes n) (reports n k (file_study bytes n k)) r p k j 0 o.words h.within h.takes (rw e h.refuses) ∙ (rw e))
refuses_listed bytes r j p (empty f e er ej ep) =
    let n = file_samples bytes in
    let o = study_opens n f.least f.most in
    let w = (opened n (zeros study_words)).words in
    let none : in_force w ≡ 0 = sym (length_runs w) ∙ ap length (opened_none n (zeros study_words) o) in
    let kept : Kept study_words n w = rw (length_zeros study_words) at (opened_kept n (zeros study_words) o) in
    whole_reports bytes f.sound o (rw e refl) ∙ (rw (e, report_answer n w kept, none, er, ej, ep) refl)

tree_from : (bytes : List ℕ) (n k : ℕ) (row support : List ℕ) → Tree bytes n k row support → listed bytes ≡ tree n k row support
unfolding reports
tree_from bytes n k row support t =
    let whole : listed bytes ≡ reports n k (file_study bytes n k) = rw (t.samples, t.count)
    (whole_reports bytes t.good (rw t.samples at t.opens) (rw (t.samples, t.count) at t.takes)) in
    let last : reports n k (file_study bytes n k) ≡ tree n k row support = rw (t.report, t.agreed, t.supports) refl in
    whole ∙ last

-- ---- and nothing else is

-- what a chain of checks that ends in acceptance answers
chain_cases : (cs : List Check) → (cs ⊳ accepted ≡ accepted) ⊎ ((r : ℕ) × (p : ℕ) × (cs ⊳ accepted ≡ refused r p))
chain_cases cs = chain_holds (λ v. (v ≡ accepted) ⊎ ((r : ℕ) × (p : ℕ) × (v ≡ refused r p))) cs accepted (λ r p g. inr (r, p, refl)) (λ h. inl refl)

report_cases : (w : List ℕ) (t : ℕ) (a s : List ℕ) → ((reported w t a s).verdict ≡ accepted) ⊎ ((r : ℕ) × (p : ℕ) × ((reported w t a s).verdict ≡ refused r p))
unfolding reported
report_cases w t a s = chain_cases (report_checks w t a s)

-- a slot of the first m is not taken
abbrev Stuck : List ℕ → ℕ → ℕ → Type 0
Stuck bytes n m =
    (j : ℕ) × (r : ℕ) × (p : ℕ) × (j < m) × Takes bytes n j × ((called (file_study bytes n j) (slot_call bytes n j)).verdict ≡ refused r p)

slots_cases : (bytes : List ℕ) (n m : ℕ) → Takes bytes n m ⊎ Stuck bytes n m
unfolding added tabulate answers every
slots_cases bytes n zero = inl refl
slots_cases bytes n (suc m) = go (slots_cases bytes n m)
    (chain_cases (add_checks w (slot_identifier bytes n m) (slot_row bytes n m)))
  where
    w : List ℕ
    w = file_study bytes n m

    go : Takes bytes n m ⊎ Stuck bytes n m
        → ((called w (slot_call bytes n m)).verdict ≡ accepted) ⊎ ((r : ℕ) × (p : ℕ) × ((called w (slot_call bytes n m)).verdict ≡ refused r p))
        → Takes bytes n (suc m) ⊎ Stuck bytes n (suc m)
    go (inl t) (inl e) = inl ((takes_next bytes n m).1 (t, e))
    go (inl t) (inr (r, p, e)) = inr (m, r, p, omega arith, t, e)
    go (inr (j, r, p, h, t, e)) o = inr (j, r, p, omega arith, t, e)

-- what a file comes to: a refusal, or the report of all its slots
data Comes (bytes : List ℕ) : Type 0 where
  stops : (r j p : ℕ) → Refuses bytes r j p → Comes bytes
  whole : Fit bytes → Takes bytes (file_samples bytes) (file_runs bytes) → Comes bytes

comes : (bytes : List ℕ) → Comes bytes
comes bytes = go (decide (bad_file bytes))
  where
    fit : Fit bytes → Takes bytes (file_samples bytes) (file_runs bytes) ⊎ Stuck bytes (file_samples bytes) (file_runs bytes) → Comes bytes
    fit f (inl t) = whole f t
    fit f (inr (j, r, p, h, t, e)) = stops r j p (slot f (record { within = h; takes = t; refuses = e }))

    good : Sound bytes → (outside 2 512 (file_samples bytes) ≡ true) ⊎ (outside 2 512 (file_samples bytes) ≡ false) → Comes bytes
    good s (inl o) = stops 1 0 0 (size s o refl refl refl)
    good s (inr o) = let q = outside_not 2 512 (file_samples bytes) o in
        fit (record { sound = s; least = q.0; most = q.1 }) (slots_cases bytes (file_samples bytes) (file_runs bytes))

    go : (bad_file bytes ≡ true) ⊎ (bad_file bytes ≡ false) → Comes bytes
    go (inl e) = stops 15 0 0 (bad e refl refl refl)
    go (inr e) = good (not_bad bytes e) (decide (outside 2 512 (file_samples bytes)))

-- a tree is listed exactly if it stands for what the calls leave
pub listed_tree : (bytes : List ℕ) (n k : ℕ) (row support : List ℕ) → (listed bytes ≡ tree n k row support) ↔ Tree bytes n k row support
unfolding reports
listed_tree bytes n k row support = (λ e. go (comes bytes) e, tree_from bytes n k row support)
  where
    m : ℕ
    m = file_samples bytes

    l : ℕ
    l = file_runs bytes

    result : Report
    result = file_report bytes m l

    ends : Fit bytes → Takes bytes m l → (result.verdict ≡ accepted) ⊎ ((r : ℕ) × (p : ℕ) × (result.verdict ≡ refused r p))
        → reports m l (file_study bytes m l) ≡ tree n k row support → Tree bytes n k row support
    ends f t (inr (r, p, a)) e =
        let d : refusal r 0 p ≡ tree n k row support = rw a at e in
        let z : ◌≡◌ {A = ℕ} 0 1 = cc in
        absurd (omega arith)
    ends f t (inl a) e =
        let d : tree m l result.agreed_row result.support_row ≡ tree n k row support = rw a at e in
        let en : m ≡ n = cc in
        let ek : l ≡ k = cc in
        let er : row ≡ result.agreed_row = cc in
        let es : support ≡ result.support_row = cc in
        rw (← en, ← ek) record {
          good = f.sound;
          samples = refl;
          count = refl;
          opens = study_opens m f.least f.most;
          takes = t;
          report = a;
          agreed = er;
          supports = es;
        }

    go : Comes bytes → listed bytes ≡ tree n k row support → Tree bytes n k row support
    go (stops r j p h) e = let x = refuses_listed bytes r j p h in let z : ◌≡◌ {A = ℕ} 0 1 = cc in absurd (omega arith)
    go (whole f t) e =
        let x = zeros (row_words m) in
        ends f t (report_cases (file_study bytes m l) 0 x x)
        (sym (whole_reports bytes f.sound (study_opens m f.least f.most) t) ∙ e)

-- ---- of a file of bytes

-- a number is given only by a check that has it
given_number : (cs : List Check) (r p : ℕ) → Given r p cs → Memᴰ r (numbers cs)
given_number [] r p x' = elim x' [ ]
given_number (c ∷ cs) r p (here a f) = Memᴰ.head (sym a)
given_number (c ∷ cs) r p (later f g) = Memᴰ.tail (given_number cs r p g)

module _ (bytes : List ℕ) (b : Bytes bytes) where
  abbrev n : ℕ
  n = file_samples bytes

  abbrev k : ℕ
  k = file_runs bytes

  -- once every slot is taken there is a report, unless there are none
  whole_answer : Fit bytes → Takes bytes n k → (file_report bytes n k).verdict ≡ cond (eqb k 0) (refused 14 0) accepted
  whole_answer f t =
      report_answer n (file_study bytes n k) (study_formed bytes f b k)
      ∙ ap (λ (x : ℕ). cond (eqb x 0) (refused 14 0) accepted) (study_count bytes f b k t)

  -- a refusal is listed exactly for one of these reasons
  pub listed_refused : (r j p : ℕ) → (listed bytes ≡ refusal r j p) ↔ Refuses bytes r j p
  unfolding reports
  listed_refused r j p = (λ e. go (comes bytes) e, refuses_listed bytes r j p)
    where
      ends : (c : Bool) → eqb k 0 ≡ c → Fit bytes
          → unless (cond c (refused 14 0) accepted) 0 (tree n k (file_report bytes n k).agreed_row (file_report bytes n k).support_row) ≡ refusal r j p
          → Refuses bytes r j p
      ends true q f e = empty f (eqb-true k 0 q) (cc) (cc) (cc)
      ends false q f e = let z : ◌≡◌ {A = ℕ} 0 1 = cc in absurd (omega arith)

      go : Comes bytes → listed bytes ≡ refusal r j p → Refuses bytes r j p
      go (stops x y z h) e =
          let q : refusal x y z ≡ refusal r j p = sym (refuses_listed bytes x y z h) ∙ e in
          let er : x ≡ r = cc in
          let ej : y ≡ j = cc in
          let ep : z ≡ p = cc in
          rw (← er, ← ej, ← ep) h
      go (whole f t) e =
          ends (eqb k 0) refl f (rw (whole_answer f t) at (sym (whole_reports bytes f.sound (study_opens n f.least f.most) t) ∙ e))

  -- and for which line of RULES 7.5 a slot is refused, from the file alone: none applies to a slot before it, and none before this line to it
  pub stops_exactly : Fit bytes → (r j p : ℕ) → j < k
      → Stops bytes r j p ↔ (((i : ℕ) → i < j → Passed (slot_checks bytes n i)) × Given r p (slot_checks bytes n j))
  stops_exactly f r j p h = (
    λ s. ((slots_taken bytes f b j (omega arith)).0 s.takes, (slot_refused bytes f b j r p s.takes h).0 s.refuses),
    λ g. let t = (slots_taken bytes f b j (omega arith)).1 g.0 in record { within = h; takes = t; refuses = (slot_refused bytes f b j r p t h).1 g.1 },
  )

  -- 2, 3 and 13 are never listed
  pub listed_numbers : (r j p : ℕ) → listed bytes ≡ refusal r j p → Memᴰ r (1 ∷ 4 ∷ 5 ∷ 6 ∷ 7 ∷ 8 ∷ 9 ∷ 10 ∷ 11 ∷ 12 ∷ 14 ∷ 15 ∷ [])
  listed_numbers r j p e = go ((listed_refused r j p).0 e)
    where
      middle : List ℕ
      middle = 4 ∷ 5 ∷ 6 ∷ 7 ∷ 8 ∷ 9 ∷ 10 ∷ 11 ∷ 12 ∷ []

      go : Refuses bytes r j p → Memᴰ r (1 ∷ (middle ++ (14 ∷ 15 ∷ [])))
      go (bad x er ej ep) = Memᴰ.tail (Memᴰ.append_right middle (Memᴰ.tail (Memᴰ.head er)))
      go (size s o er ej ep) = Memᴰ.head er
      go (slot f h) =
          let g = ((stops_exactly f r j p h.within).0 h).1 in
          Memᴰ.tail (Memᴰ.append_left (14 ∷ 15 ∷ []) (rw (slot_numbers bytes n j) at (given_number (slot_checks bytes n j) r p g)))
      go (empty f x er ej ep) = Memᴰ.tail (Memᴰ.append_right middle (Memᴰ.head er))

  -- a good file with slots, to none of which a line applies, is listed as the agreed tree of its runs
  pub listed_whole : Fit bytes → 0 < k → ((j : ℕ) → j < k → Passed (slot_checks bytes n j))
      → listed bytes ≡ tree n k (agreed (rule_of 0) n (slot_runs bytes n k)) (supports (rule_of 0) n (slot_runs bytes n k))
  listed_whole f some g = (listed_tree bytes n k _ _).1 (record {
    good = f.sound;
    samples = refl;
    count = refl;
    opens = study_opens n f.least f.most;
    takes = takes;
    report = report;
    agreed = sym rows.0;
    supports = sym rows.1;
  })
    where
      takes : Takes bytes n k
      takes = (slots_taken bytes f b k (omega arith)).1 g

      report : (file_report bytes n k).verdict ≡ accepted
      report = whole_answer f takes ∙ (rw (ne_eqb k 0 (λ e. omega arith)))

      rows : ((file_report bytes n k).agreed_row ≡ agreed (rule_of 0) n (slot_runs bytes n k))
          × ((file_report bytes n k).support_row ≡ supports (rule_of 0) n (slot_runs bytes n k))
      rows =
          let x = zeros (row_words n) in
          rw ((study_formed bytes f b k).same, study_runs bytes f b k takes) at (reported_rows (file_study bytes n k) 0 x x report)
