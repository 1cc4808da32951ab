-- Each slot's answer decides, or the rest does; what the code makes of a file stands for what is listed; the lines by number. Assumes nothing.
use Prim.Native.Nat.{ℕ, zero, suc, ◌+◌, ◌-◌, ◌≤◌, ◌<◌}
use Rattle.std.specs.Prelude.{◌≡◌, length, get_or, take, Some, None, Ok, Err}
use Rattle.std.proofs.Math.Path.{refl, ap}
use Rattle.std.proofs.Common.{sym, subst, ◌∙◌, length-take, length-append, take_all, get_or-take}
use mathlib.Core.List.{List, [], ◌∷◌, ◌++◌}
use native.Mathlib.Omega.{arith}
use Rattle.std.proofs.lemmas.List.{length-replicate, take-append-le}
use Rattle.trees.specs.Lists.{tabulate, zeros}
use Rattle.trees.specs.Rows.{nodes}
use Rattle.trees.specs.Checks.{Verdict, accepted, fewest_samples, most_samples, row_words}
use Rattle.trees.specs.Valid.{Standard}
use Rattle.trees.proofs.ListLaws.{length_tabulate, get_d_tabulate}
use Rattle.runs.specs.Calls.{opened, open_checks}
use Rattle.runs.proofs.CallLaws.{opened_words, opened_kept}
use Rattle.runs.specs.Formed.{Kept}
use Rattle.runs.specs.Histories.{Call, called, answers, after}
use Rattle.runs.specs.Reports.{reported, report_checks, report_formed_checks}
use Rattle.runs.specs.Words.{samples, most_identifier}
use Rattle.runs.proofs.ReportLaws.{reported_rows, reported_standard, reported_length}
use Rattle.std.specs.Result.{IsErrAnd}
use Rattle.std.proofs.lemmas.Result.{err_from_is_err_and}
use Rattle.judge.specs.Verdicts.{Answer, number_of, verdict}
use Rattle.file.specs.declared.Sizes.{Sizes}
use Rattle.file.specs.Files.{good, file_of, file_bytes, word_at, slot_identifier}
use Rattle.text.specs.Lines.{refusal_line, head_line, node_line, tree_lines}
use Rattle.listing.specs.Listing.{Listed, refusal, study_words, unless, first_refused, slot_call, reports, adds_and_reports}
use Rattle.listing.specs.Listing.{listed_file, listed_of, listed, lines_of}
use Rattle.listing.specs.Told.{Told, told_of, goes_on, Loaded, shows, row_room, Printable}
use Rattle.listing.specs.declared.told.Refused.{Refused}

-- ---- the slots

module _ (n k : ℕ) (w : List ℕ) (call : ℕ → Call) (j : ℕ) where
  -- the next slot's answer, or the rest
  pub adds_next : j < k → adds_and_reports n k w (tabulate (k - j) call j) j ≡ unless (called w (call j)).verdict j
      (adds_and_reports n k (called w (call j)).words (tabulate (k - (j + 1)) call (j + 1)) (j + 1))
  unfolding adds_and_reports first_refused answers after tabulate
  adds_next h =
      let e : k - j ≡ suc (k - suc j) = omega arith in
      let s : j + 1 ≡ suc j = omega arith in
      rw (e, s) refl

  pub adds_end : k ≤ j → adds_and_reports n k w (tabulate (k - j) call j) j ≡ reports n k w
  unfolding adds_and_reports first_refused answers after tabulate
  adds_end h = let e : k - j ≡ 0 = omega arith in rw e refl

-- ---- what the code makes of an answer

-- what `?` hands on is the refusal that it met
pub handed_on : (t : Told) (x : Refused) → IsErrAnd t (λ y. y ≡ x) → t ≡ Err x
handed_on t x h = let p = err_from_is_err_and t h in rw (p.1, p.2) refl

-- a refusal is passed on, and nothing comes next
pub told_stops : (a : Answer) (slot : ℕ) (z : Sizes) {x : Refused} (next : Listed) (w : List ℕ) → told_of a slot z ≡ Err x
    → (goes_on (Err x) w ≡ unless (verdict a) slot next) × Loaded (Err x) w
told_stops (Ok _) slot z {x} next w e = let q : ◌≡◌ {A = ℕ} 0 1 = cc in absurd (omega arith)
told_stops (Err r) slot z {x} next w e =
    let q : record { why = r; slot = slot } ≡ x = cc in
    (ap (λ (y : Refused). refusal (number_of y.why.reason) y.slot y.why.place) (sym q), tt)

pub told_goes : (a : Answer) (slot : ℕ) (z : Sizes) {y : Sizes} → told_of a slot z ≡ Ok y → (verdict a ≡ accepted) × (y ≡ z)
told_goes (Ok _) slot z e = (refl, cc)
told_goes (Err r) slot z e = let q : ◌≡◌ {A = ℕ} 0 1 = cc in absurd (omega arith)

module _ (z : Sizes) (w : List ℕ) (call : ℕ → Call) (j : ℕ) (h : j < z.runs) (a : Answer) (e : verdict a ≡ (called w (call j)).verdict) where
  pub adds_stops : {x : Refused} (v : List ℕ) → told_of a j z ≡ Err x
      → (goes_on (Err x) v ≡ adds_and_reports z.samples z.runs w (tabulate (z.runs - j) call j) j) × Loaded (Err x) v
  adds_stops v q =
      let next = adds_and_reports z.samples z.runs (called w (call j)).words (tabulate (z.runs - (j + 1)) call (j + 1)) (j + 1) in
      let s = told_stops a j z next v q in
      (s.0 ∙ ap (λ (o : Verdict). unless o j next) e ∙ sym (adds_next z.samples z.runs w call j h), s.1)

  pub adds_goes : {y : Sizes} (v : List ℕ) → told_of a j z ≡ Ok y → v ≡ (called w (call j)).words
      → adds_and_reports z.samples z.runs v (tabulate (z.runs - (j + 1)) call (j + 1)) (j + 1)
      ≡ adds_and_reports z.samples z.runs w (tabulate (z.runs - j) call j) j
  adds_goes v q d = rw (d, adds_next z.samples z.runs w call j h, ← e, (told_goes a j z q).0) refl

-- ---- opening

pub listed_bad : (bytes : List ℕ) → file_of bytes ≡ None → listed bytes ≡ refusal 15 0 0
unfolding listed
listed_bad bytes e = ap (listed_of bytes) e

-- the verdict asks only how many words there are
same_open : (n : ℕ) (w v : List ℕ) → length w ≡ length v → (opened n w).verdict ≡ (opened n v).verdict
unfolding opened open_checks
same_open n w v e = rw e

-- words of any content do as well as zeros
pub listed_good : (bytes : List ℕ) (n k : ℕ) (w : List ℕ) (a : Answer) → file_of bytes ≡ good n k → length w ≡ study_words → verdict a ≡ (opened n w).verdict
    → listed bytes ≡ unless (verdict a) 0 (adds_and_reports n k (opened n w).words (tabulate k (slot_call bytes n) 0) 0)
unfolding listed listed_file
listed_good bytes n k w a e l v = ap (listed_of bytes) e ∙ go a (v ∙ same)
  where
    same : (opened n w).verdict ≡ (opened n (zeros study_words)).verdict
    same = same_open n w (zeros study_words) (rw length-replicate l)

    go : (b : Answer) → verdict b ≡ (opened n (zeros study_words)).verdict
        → listed_file bytes n k ≡ unless (verdict b) 0 (adds_and_reports n k (opened n w).words (tabulate k (slot_call bytes n) 0) 0)
    go (Ok _) q = rw (← q, opened_words n w (same ∙ sym q), opened_words n (zeros study_words) (sym q), l, length-replicate)
    go (Err x) q = rw (← q) refl

module _ (bytes : List ℕ) (z : Sizes) (w : List ℕ) (a : Answer) (e : file_of bytes ≡ Some z) (l : length w ≡ study_words)
    (o : verdict a ≡ (opened z.samples w).verdict) where
  abbrev rest : Listed
  rest = adds_and_reports z.samples z.runs (opened z.samples w).words (tabulate z.runs (slot_call bytes z.samples) 0) 0

  pub load_stops : {x : Refused} (v : List ℕ) → told_of a 0 z ≡ Err x → (goes_on (Err x) v ≡ listed bytes) × Loaded (Err x) v
  load_stops v q =
      let s = told_stops a 0 z rest v q in
      (s.0 ∙ sym (listed_good bytes z.samples z.runs w a e l o), s.1)

  pub load_goes : {y : Sizes} (v : List ℕ) → told_of a 0 z ≡ Ok y → v ≡ (opened z.samples w).words
      → Kept study_words z.samples v × (adds_and_reports z.samples z.runs v (tabulate z.runs (slot_call bytes z.samples) 0) 0 ≡ listed bytes)
  load_goes v q d =
      let t = (told_goes a 0 z q).0 in
      (rw (d, ← l) (opened_kept z.samples w (sym o ∙ t)), rw d (sym (listed_good bytes z.samples z.runs w a e l o ∙ rw t)))

-- an identifier in a file is a word
pub slot_word : (bytes : List ℕ) (n j : ℕ) → ((i : ℕ) → get_or bytes i 0 < 256) → slot_identifier bytes n j ≤ most_identifier
unfolding slot_identifier word_at
slot_word bytes n j h = omega (arith, h (file_bytes n j), h (suc (file_bytes n j)))

-- ---- reporting

-- the verdict asks only how long the two buffers are
same_report : (w : List ℕ) (p : ℕ) (a s b t : List ℕ) → length a ≡ length b → length s ≡ length t → (reported w p a s).verdict ≡ (reported w p b t).verdict
unfolding reported report_checks report_formed_checks
same_report w p a s b t e f = rw (e, f)

pub report_shows : (n k : ℕ) (w a s x y : List ℕ) (answer : Answer) → samples w ≡ n → length a ≡ row_words n → length s ≡ row_words n
    → verdict answer ≡ (reported w 0 a s).verdict → x ≡ (reported w 0 a s).agreed_row → y ≡ (reported w 0 a s).support_row
    → (shows (told_of answer 0 (record { samples = n; runs = k })) x y ≡ reports n k w) × Printable (told_of answer 0 (record { samples = n; runs = k })) x y
unfolding reports
report_shows n k w a s x y answer q la ls v ex ey = go answer v
  where
    z : List ℕ
    z = zeros (row_words n)

    same : (reported w 0 a s).verdict ≡ (reported w 0 z z).verdict
    same = same_report w 0 a s z z (rw length-replicate la) (rw length-replicate ls)

    go : (b : Answer) → verdict b ≡ (reported w 0 a s).verdict → (shows (told_of b 0 (record { samples = n; runs = k })) x y ≡ reports n k w)
        × Printable (told_of b 0 (record { samples = n; runs = k })) x y
    go (Err x) e = (rw (← same, ← e) refl, tt)
    go (Ok _) e =
        let std : Standard n x = rw (ex, ← q) (reported_standard w 0 a s (sym e)) in
        let long : length y ≡ row_words n = rw (ey, ← q) (reported_length w 0 a s (sym e)) in
        let r = reported_rows w 0 a s (sym e) in
        let t = reported_rows w 0 z z (sym (e ∙ same)) in
        let whole = take_all (row_words n) x (omega (arith, std.valid.words)) in
        let p : take (row_words n) x ≡ (reported w 0 z z).agreed_row = whole ∙ ex ∙ r.0 ∙ sym t.0 in
        let d : take (row_words n) y ≡ (reported w 0 z z).support_row = take_all (row_words n) y (omega arith) ∙ ey ∙ r.1 ∙ sym t.1 in
        (rw (← same, ← e, p, d) refl, (rw whole std, omega arith))

-- ---- the lines of a tree

module _ (n k : ℕ) (row support : List ℕ) where
  pub tree_count : length (tree_lines n k row support) ≡ nodes row - n + 1
  unfolding tree_lines
  tree_count = ap suc (length_tabulate (nodes row - n) (node_line n row support) n) ∙ omega arith

  pub tree_first : get_or (tree_lines n k row support) 0 [] ≡ head_line n k
  unfolding tree_lines
  tree_first = refl

  pub tree_next : (i : ℕ) → 0 < i → i < length (tree_lines n k row support) → get_or (tree_lines n k row support) i [] ≡ node_line n row support (n + i - 1)
  unfolding tree_lines
  tree_next zero h l = absurd (omega arith)
  tree_next (suc i) h l = let e : n + suc i - 1 ≡ n + i = omega arith in
      get_d_tabulate (nodes row - n) (node_line n row support) n i [] (omega (arith, tree_count)) ∙ rw e

-- ---- the lines of what the code makes of a file

pub refused_line : {t : Told} {r : Refused} (i : ℕ) (a s : List ℕ) → t ≡ Err r → i < length (lines_of (shows t a s))
    → get_or (lines_of (shows t a s)) i [] ≡ refusal_line (number_of r.why.reason) r.slot r.why.place
refused_line {t} {r} i a s e h = ap (λ (u : Told). get_or (lines_of (shows u a s)) i []) e ∙ go i (rw e at h)
  where
    go : (j : ℕ) → j < 1 → get_or (refusal_line (number_of r.why.reason) r.slot r.why.place ∷ []) j [] ≡ refusal_line (number_of r.why.reason) r.slot r.why.place
    go zero l = refl
    go (suc j) l = absurd (omega arith)

-- the number of nodes of a row at the front of a buffer
front_nodes : (n : ℕ) (a : List ℕ) → fewest_samples ≤ n → nodes (take (row_words n) a) ≡ nodes a
unfolding nodes
front_nodes n a h = get_or-take (row_words n) a 0 0 (omega arith)

module _ {t : Told} {z : Sizes} (a s : List ℕ) (e : t ≡ Ok z) where
  abbrev n : ℕ
  n = z.samples

  abbrev k : ℕ
  k = z.runs

  pub ready_lines : lines_of (shows t a s) ≡ tree_lines n k (take (row_words n) a) (take (row_words n) s)
  ready_lines = ap (λ (u : Told). lines_of (shows u a s)) e

  module _ (p : Printable t a s) where
    printable : Standard n (take (row_words n) a) × (row_words n ≤ length s)
    printable = subst (λ (u : Told). Printable u a s) e p

    pub ready_standard : Standard n (take (row_words n) a)
    ready_standard = printable.0

    -- both rows lie within their buffers
    pub ready_fits : (0 < n) × (n ≤ most_samples) × (row_words n ≤ length a) × (row_words n ≤ length s)
    ready_fits =
        let v = ready_standard.valid in
        (omega (arith, v.least), v.most, omega (arith, v.words, length-take (row_words n) a), printable.1)

    pub ready_count : (n < nodes a) × (nodes a < row_room) × (length (lines_of (shows t a s)) ≡ nodes a - n + 1)
    ready_count =
        let v = ready_standard.valid in
        let same : nodes (take (row_words n) a) ≡ nodes a = front_nodes n a v.least in
        let count = tree_count n k (take (row_words n) a) (take (row_words n) s) in
        (rw same at v.low, omega (arith, v.high, v.most, same), ap length ready_lines ∙ count ∙ rw same)

pub told_refused : {t : Told} {x : Refused} (w a s : List ℕ) (r : Listed) → t ≡ Err x → goes_on t w ≡ r → (shows t a s ≡ r) × Printable t a s
told_refused w a s r e = subst (λ (u : Told). goes_on u w ≡ r → (shows u a s ≡ r) × Printable u a s) (sym e) (λ q. (q, tt))

pub ready_kept : {t : Told} {z : Sizes} (w : List ℕ) → t ≡ Ok z → Loaded t w → Kept study_words z.samples w
ready_kept w e = subst (λ (u : Told). Loaded u w) e

pub ready_listed : {t : Told} {z : Sizes} (w : List ℕ) (r : Listed) → t ≡ Ok z → goes_on t w ≡ r → reports z.samples z.runs w ≡ r
ready_listed w r e = subst (λ (u : Told). goes_on u w ≡ r) e

-- what stands after the rows is not shown
pub shows_front : (t : Told) (a s u v : List ℕ) → Printable t a s → (shows t (a ++ u) (s ++ v) ≡ shows t a s) × Printable t (a ++ u) (s ++ v)
shows_front (Err x) a s u v p = (refl, tt)
shows_front (Ok z) a s u v p =
    let n = z.samples in
    let h : row_words n ≤ length a = omega (arith, p.0.valid.words, length-take (row_words n) a) in
    let e : take (row_words n) (a ++ u) ≡ take (row_words n) a = take-append-le (row_words n) a u h in
    let f : take (row_words n) (s ++ v) ≡ take (row_words n) s = take-append-le (row_words n) s v p.1 in
    (rw (e, f) refl, (rw e p.0, omega (arith, p.1, length-append s v)))
