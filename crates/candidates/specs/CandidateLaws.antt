-- The candidates of a study: how they start, what one run more makes of them, and what is left of them in the end. Assumes nothing.
use Rattle.std.specs.Prelude.{ℕ, ◌+◌, ◌≤◌, ◌<◌, ◌≡◌, Bool, true, length, get_or, take}
use Rattle.std.proofs.Common.{sym, ap, ◌∙◌, subst, ⊎_elim, add-one, arith, length-take, take_all, take-suc}
use mathlib.Core.List.Memᴰ
use mathlib.Core.List.{List, [], ◌∷◌, Memᴰ}
use Rattle.std.proofs.lemmas.List.{length-replicate}
use Rattle.trees.specs.Groups.{Group, whole, size}
use Rattle.trees.specs.Rows.{nodes, group_at, inner, holds}
use Rattle.trees.specs.Checks.{fewest_samples, most_samples}
use Rattle.trees.specs.Valid.{In, Standard}
use Rattle.trees.specs.Numbering.{row_of}
use Rattle.trees.specs.Tables.{Tabled, entry}
use Rattle.trees.specs.Merging.{flagged, merged, Mergeable}
use Rattle.trees.specs.Reporting.{Run, support, agreed}
use Rattle.trees.specs.Thresholds.{InRange}
use Rattle.trees.specs.Majority.{majority, references}
use Rattle.trees.proofs.GroupLaws.{size_whole}
use Rattle.trees.specs.Groups.{under}
use Rattle.trees.proofs.MemberLaws.{in_none, in_head, in_cases}
use Rattle.trees.proofs.RowLaws.{in_groups, inner_in}
use Rattle.trees.proofs.NodeLaws.{big_inner}
use Rattle.trees.proofs.FamilyLaws.{Family}
use Rattle.trees.proofs.PlantingLaws.{planted_standard}
use Rattle.trees.proofs.ReportingLaws.{Holder, total_length}
use Rattle.trees.proofs.MajorityLaws.{majority_held, majority_early}
use Rattle.runs.specs.Words.{runs, run_at}
use Rattle.count.specs.Studies.{Study, row_at}
use Rattle.count.specs.StudyLaws.{study_least, study_most, study_few, study_length, study_run, study_valid}
use Rattle.count.specs.StudyLaws.{study_some, study_sound, study_standard}
use Rattle.count.specs.Plain.{bare_row}
use Rattle.count.specs.Holders.{holders_at, Marked}
use Rattle.count.specs.HolderLaws.{marked_majority}
use Rattle.merge.specs.Carrying.{CarriedOver}
use Rattle.sides.specs.Sides.{against}
use Rattle.sides.proofs.SideLaws.{shown_ahead}
use Rattle.sides.specs.Counters.{Tally, blank, step, tallied, tally_at}
use Rattle.sides.proofs.CounterLaws.{Keeps, final_keeps}
use Rattle.sides.proofs.TallyLaws.{tally_next, tally_keeps, tally_most}
use Rattle.counters.specs.Rounds.{Tied, weight, Room, Ready, Rounded}
use Rattle.candidates.specs.Candidates.{Candidates, Enough, Agreed}
use Rattle.candidates.specs.FinalLaws.{final_mergeable, final_row, final_holders}

-- a list of one has that one alone
only : (x y : Run) → Memᴰ x (y ∷ []) → x ≡ y
only x y (Memᴰ.head e) = e
only x y (Memᴰ.tail m) = absurd (Memᴰ.not-nil m)

-- ---- the start

module _ (n : ℕ) (least : fewest_samples ≤ n) (most : n ≤ most_samples) where
  bare_family : Family n (whole n ∷ [])
  bare_family = record {
    strict = (λ h m. absurd (in_none h m), tt);
    long = λ g m. rw (is g m) (length-replicate n true);
    big = λ g m. rw (is g m, size_whole) (omega arith);
    agree = λ g h m k. rw (is g m, is h k) (under (λ s e. e));
    top = in_head (whole n) [];
  }
    where
      is : (g : Group) → In g (whole n ∷ []) → g ≡ whole n
      is g m = ⊎_elim (λ e. e) (λ k. absurd (in_none g k)) (in_cases g (whole n) [] m)

  -- the bare row has no candidate
  blank_tied : (t : List ℕ) → ((v : ℕ) → entry t v ≡ 0) → Tied n blank (bare_row n) t
  unfolding blank row_of nodes
  blank_tied t z = record {
    standard = planted_standard n (whole n ∷ []) bare_family most;
    counted = record { is = λ v a b. z v };
    listed = λ g i h. absurd (omega arith);
    alive = λ v a b. absurd (omega arith);
  }

module _ (w : List ℕ) (n k : ℕ) (study : Study w n k) where
  pub candidates_start : (t : List ℕ) → ((v : ℕ) → entry t v ≡ 0) → Tied n (tally_at n (runs w) 0) (bare_row n) t
  unfolding tallied
  candidates_start t z = blank_tied n (study_least w n k study) (study_most w n k study) t z

  -- ---- one run more

  module _ (i : ℕ) (h : i < k) (q t r : List ℕ) (tied : Tied n (tally_at n (runs w) i) q t) (is : r ≡ row_at n w i) where
    abbrev d : Run
    d = run_at n w i

    pub run_standard : Standard n r
    run_standard = rw is (study_standard w n k study i h)

    keeps : Keeps (support n (take i (runs w))) (against n (take i (runs w))) (tally_at n (runs w) i)
    keeps = tally_keeps n (runs w) (study_valid w n k study) i

    pub take_ready : Ready n q t
    take_ready = record { f = _; a = _; s = tally_at n (runs w) i; keeps = keeps; tied = tied }

    pub take_room : Room n (nodes q) weight t
    take_room = record {
      fits = λ v a b. omega (
        arith,
        tied.counted.is v a b,
        tally_most n (runs w) i (group_at n q v),
        total_length (take i (runs w)),
        length-take i (runs w),
        study_few w n k study,
      );
    }

    pub take_step : (q' t' : List ℕ) → Rounded n weight r q t q' t' → Tied n (tally_at n (runs w) (i + 1)) q' t'
    take_step q' t' y = subst (λ (s : Tally). Tied n s q' t') next (y.ties _ _ (tally_at n (runs w) i) keeps tied)
      where
        same : (get_or (runs w) i d).row ≡ r
        same = ap (λ (run : Run). run.row) (study_run w n k study i d h) ∙ sym is

        next : step n weight r (tally_at n (runs w) i) ≡ tally_at n (runs w) (i + 1)
        next = ap (λ (x : List ℕ). step n weight x (tally_at n (runs w) i)) (sym same)
            ∙ sym (tally_next n (runs w) i d (rw (study_length w n k study) h)) ∙ ap (tally_at n (runs w)) (sym (add-one i))

  -- ---- what has to be counted

  module _ (p : ℕ) (some : 0 < k) (range : InRange p) where
    -- the candidates of all runs are enough
    pub candidates_enough : (q : List ℕ) → Candidates n w k q → Enough n w p q
    candidates_enough q c = record {
      standard = c.tied.standard;
      all = λ g z e. tied_all.listed g z (omega (
        arith,
        (final_keeps n (runs w) (study_valid w n k study)).ahead g,
        shown_ahead n (runs w) (study_valid w n k study) p range.0 (study_some w n k study some) g e,
      ));
    }
      where
        tied_all : Tied n (tallied n (runs w) blank) q c.counters
        tied_all = subst (λ (xs : List Run). Tied n (tallied n xs blank) q c.counters)
            (take_all k (runs w) (omega (arith, study_length w n k study))) c.tied

    -- and so is the first run, where a group that it misses cannot be shown
    pub first_enough : references p k ≡ 1 → (q : List ℕ) → q ≡ row_at n w 0 → Enough n w p q
    first_enough one q is = record { standard = std; all = λ g z e. of_run g z (early g e) }
      where
        d : Run
        d = run_at n w 0

        std : Standard n q
        std = rw is (study_standard w n k study 0 some)

        same : (get_or (runs w) 0 d).row ≡ q
        same = ap (λ (run : Run). run.row) (study_run w n k study 0 d some) ∙ sym is

        -- the one run that is tried holds it
        early : (g : Group) → majority p n (runs w) g ≡ true → holds n g q ≡ true
        early g e =
            let r : references p (length (runs w)) ≡ 1 = ap (references p) (study_length w n k study) ∙ one in
            let h = subst (λ (j : ℕ). Holder n g (take j (runs w))) r (majority_early p n (runs w) (study_some w n k study some) g e) in
            let t = subst (λ (xs : List Run). Holder n g xs) (take-suc (runs w) 0 d (study_some w n k study some)) h in
            rw (← same, ← only t.0 (get_or (runs w) 0 d) t.1) t.2

        of_run : (g : Group) → 2 ≤ size g → holds n g q ≡ true → In g (inner n q)
        of_run g z e =
            let v = in_groups n q g e in
            rw (← v.2) (inner_in n q v.0 (big_inner n q std.valid v.0 v.1 (rw v.2 z)) v.1)

  -- ---- the end

  module _ (p : ℕ) (some : 0 < k) (range : InRange p) (q : List ℕ) (y : Enough n w p q) (counts : List ℕ) (m : ℕ) (e : m ≡ nodes q)
      (keep : List Bool) (exact : Tabled (holders_at n (runs w) q) n (nodes q) counts) (sh : Marked p k counts n m keep) where
    holder : (g : Group) → majority p n (runs w) g ≡ true → Holder n g (runs w)
    holder = majority_held p n (runs w) (study_some w n k study some)

    marked : (v : ℕ) → n ≤ v → v < nodes q → flagged keep v ≡ majority p n (runs w) (group_at n q v)
    marked = marked_majority p n (runs w) q counts k keep (study_length w n k study) exact (rw e at sh)

    pub study_mergeable : Mergeable n q keep q keep
    study_mergeable = final_mergeable (majority p) n (runs w) (study_valid w n k study) (study_sound w n k study some p range) holder
        q y.standard y.all keep marked

    row : row_of n (merged n q keep q keep) ≡ agreed (majority p) n (runs w)
    row = final_row (majority p) n (runs w) (study_valid w n k study) (study_sound w n k study some p range) holder
        q y.standard y.all keep marked

    -- the agreed row, and how many runs hold the group of each of its inner nodes
    pub study_rows : (old t out : List ℕ) → CarriedOver n q keep q keep counts old t out → Agreed n w p out t
    study_rows old t out c = record {
      row = c.row ∙ row;
      holders = rw c.row (final_holders (majority p) n (runs w) (study_valid w n k study) (study_sound w n k study some p range) holder
          q y.standard y.all keep marked c.num counts old t (rw c.row at c.settled) exact c.carried);
    }
