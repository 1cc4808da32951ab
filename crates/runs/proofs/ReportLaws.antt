-- Demands 1 and 2 of reporting: each number exactly when its check applies, and exactly the groups that the rule asks for with their exact supports.
-- Assumes nothing.
use Rattle.std.specs.Prelude.{ℕ, suc, ◌+◌, ◌*◌, ◌≤◌, ◌<◌, ◌≡◌, ◌↔◌, ◌⊎◌, Bool, true, false, ◌||◌, eqb, ltb, length, get_or}
use Rattle.std.proofs.Math.Path.{refl, ap}
use Rattle.std.proofs.Common.{sym, ◌∙◌, inr, arith}
use mathlib.Core.List.{List, [], ◌∷◌, Memᴰ}
use Rattle.std.proofs.Math.Bool.{not, cond}
use borrow.Author.Tests.{eqb-false, ne_eqb, not-false}
use Rattle.trees.specs.Lists.{nowhere, weigh}
use Rattle.trees.specs.Groups.{Group, member}
use Rattle.trees.specs.Rows.{nodes, group_at, groups, holds}
use Rattle.trees.specs.Checks.{Verdict, accepted, refused, ◌⊳◌, row_words, outside}
use Rattle.trees.specs.Valid.{In, Standard, is_accepted}
use Rattle.trees.specs.Reporting.{Run, support, agreed, supports_of, supports}
use Rattle.trees.specs.Thresholds.{least_threshold, most_threshold, InRange, threshold}
use Rattle.trees.specs.Majority.{is_shown, majority}
use Rattle.trees.proofs.BoolLaws.{not_yes}
use Rattle.trees.proofs.ChainLaws.{numbers, Exactly, accepted_other, refused_exactly, passed_chain, chain_passed, line_passes, line_pass}
use Rattle.trees.proofs.CheckLaws.{outside_not, not_outside}
use Rattle.trees.proofs.PlacedLaws.{Placed, placed_none, most_places}
use Rattle.trees.proofs.RowCallLaws.{both_lengths, both_fit}
use Rattle.trees.specs.Groups.{Agree}
use Rattle.trees.proofs.NumberingLaws.{standard_unique}
use Rattle.trees.proofs.ReportingLaws.{Runs, total_length, support_most, supports_length, supports_first, supports_node, supports_filler}
use Rattle.trees.proofs.ThresholdLaws.{threshold_again, threshold_range}
use Rattle.trees.proofs.MajorityLaws.{shown_exactly, shown_fewer, shown_some, shown_more, shown_half, shown_whole, support_exactly}
use Rattle.trees.proofs.MajorityLaws.{majority_agree, majority_standard, majority_groups, majority_supports}
use Rattle.runs.specs.Words.{samples, in_force, runs}
use Rattle.runs.specs.Formed.{well_formed, Formed}
use Rattle.runs.proofs.WordLaws.{length_runs}
use Rattle.runs.proofs.FormedLaws.{formed_to, formed_from, formed_valid}
use Rattle.runs.proofs.PlacedLaws.{front}
use Rattle.runs.specs.Reports.{check16, report_formed_checks, report_checks, rule_of, reported}

-- check 16 in its own figures (RULES 5.7)
pub threshold_exactly : (p : ℕ) → ((check16 (threshold p)).fault ≡ nowhere) ↔ ((p ≡ 0) ⊎ ((50 ≤ p) × (p ≤ 100)))
threshold_exactly p = (
  λ e. (threshold_range p).0 (outside_not least_threshold most_threshold (threshold p) (line_passes 16 _ e)),
  λ h. let t = (threshold_range p).1 h in line_pass 16 _ (not_outside least_threshold most_threshold (threshold p) t.0 t.1),
)

-- what reporting asks for
pub record Reportable (w : List ℕ) (p : ℕ) (a s : List ℕ) : Type 0 where
  pub formed : Formed w
  pub agreed_words : length a ≡ row_words (samples w)
  pub support_words : length s ≡ row_words (samples w)
  pub in_range : InRange (threshold p)
  pub some : 0 < in_force w

module _ (w : List ℕ) (p : ℕ) (a s : List ℕ) where
  -- the order of its checks (RULES 7.8)
  pub reported_numbers : numbers (report_checks w p a s) ≡ (2 ∷ 3 ∷ 16 ∷ 14 ∷ [])
  unfolding report_checks report_formed_checks
  reported_numbers = refl

  -- none of them has a place
  pub reported_placed : Placed most_places (report_checks w p a s)
  unfolding report_checks report_formed_checks
  reported_placed = front 2 (not (well_formed w)) _ (front 3
      (not (eqb (length a) (row_words (samples w))) || not (eqb (length s) (row_words (samples w)))) _
      (front 16 (outside least_threshold most_threshold (threshold p)) _ (front 14 (eqb (in_force w) 0) _ (placed_none most_places))))

  -- DEMAND 1 of reporting (RULES D1)
  pub reported_exactly : (k i : ℕ) → ((reported w p a s).verdict ≡ refused k i) ↔ Exactly k i (report_checks w p a s)
  unfolding reported
  reported_exactly = refused_exactly (report_checks w p a s) accepted accepted_other

  -- and neither buffer differs then
  pub reported_refused : (k i : ℕ) → (reported w p a s).verdict ≡ refused k i → ((reported w p a s).agreed_row ≡ a) × ((reported w p a s).support_row ≡ s)
  unfolding reported
  reported_refused k i e = (
    ap (λ (v : Verdict). cond (is_accepted v) (agreed (rule_of p) (samples w) (runs w)) a) e,
    ap (λ (v : Verdict). cond (is_accepted v) (supports (rule_of p) (samples w) (runs w)) s) e,
  )

  -- an accepted report leaves the agreed row and the support row of the runs in force
  pub reported_rows : (reported w p a s).verdict ≡ accepted
      → ((reported w p a s).agreed_row ≡ agreed (rule_of p) (samples w) (runs w))
      × ((reported w p a s).support_row ≡ supports (rule_of p) (samples w) (runs w))
  unfolding reported
  reported_rows e = (
    ap (λ (v : Verdict). cond (is_accepted v) (agreed (rule_of p) (samples w) (runs w)) a) e,
    ap (λ (v : Verdict). cond (is_accepted v) (supports (rule_of p) (samples w) (runs w)) s) e,
  )

  -- it is accepted exactly if the study is well formed, both buffers have 2n words, p stands for a threshold in range and a run is in force
  pub reported_accepts : ((reported w p a s).verdict ≡ accepted) ↔ Reportable w p a s
  unfolding reported report_checks report_formed_checks
  reported_accepts = (to, from)
    where
      to : report_checks w p a s ⊳ accepted ≡ accepted → Reportable w p a s
      to e =
          let h = chain_passed (report_checks w p a s) e in
          let l = both_lengths (samples w) a s h.1.0 in
          let none = eqb-false (in_force w) 0 (line_passes 14 (eqb (in_force w) 0) h.1.1.1.0) in
          record {
            formed = formed_to w (not-false (well_formed w) (line_passes 2 _ h.0));
            agreed_words = l.0;
            support_words = l.1;
            in_range = outside_not least_threshold most_threshold (threshold p) (line_passes 16 _ h.1.1.0);
            some = omega arith;
          }

      from : Reportable w p a s → report_checks w p a s ⊳ accepted ≡ accepted
      from t = passed_chain (report_checks w p a s) accepted (
        line_pass 2 (not (well_formed w)) (ap not (formed_from w t.formed)),
        (
          both_fit (samples w) a s t.agreed_words t.support_words,
          (
            line_pass 16 _ (not_outside least_threshold most_threshold (threshold p) t.in_range.0 t.in_range.1),
            (line_pass 14 (eqb (in_force w) 0) (ne_eqb (in_force w) 0 (λ e. omega (arith, t.some))), tt),
          ),
        ),
      )

  -- p differs in nothing from the threshold that it stands for (RULES 5.8)
  pub reported_named : reported w p a s ≡ reported w (threshold p) a s
  unfolding reported report_checks report_formed_checks
  reported_named = rw (threshold_again p)

-- ---- DEMAND 2, of what an accepted report leaves (RULES D2)

module _ (w : List ℕ) (p : ℕ) (a s : List ℕ) (e : (reported w p a s).verdict ≡ accepted) where
  abbrev n : ℕ
  n = samples w

  abbrev t : ℕ
  t = threshold p

  abbrev shown_row : List ℕ
  shown_row = agreed (majority t) n (runs w)

  fits : Reportable w p a s
  fits = (reported_accepts w p a s).0 e

  ok : Runs n (runs w)
  ok = formed_valid w fits.formed

  some : 0 < length (runs w)
  some = rw (length_runs w) fits.some

  row : (reported w p a s).agreed_row ≡ shown_row
  row = (reported_rows w p a s e).0

  words : (reported w p a s).support_row ≡ supports_of n (runs w) shown_row
  words = (reported_rows w p a s e).1

  std : Standard n shown_row
  std = majority_standard t n (runs w) some fits.in_range.0 ok

  -- the agreed row is standard
  pub reported_standard : Standard (samples w) (reported w p a s).agreed_row
  reported_standard = rw row std

  -- none missing, none added: any group whatever is one of its groups exactly if it is shown
  pub reported_shown : (g : Group) → member g (groups (samples w) (reported w p a s).agreed_row)
      ≡ is_shown (threshold p) (in_force w) (support (samples w) (runs w) g)
  reported_shown g = rw (row, ← length_runs w) (majority_groups t n (runs w) some fits.in_range.0 ok g)

  -- the same with the rule written out: 100s > tk, or s = k (RULES 5.1)
  pub reported_groups : (g : Group) → member g (groups (samples w) (reported w p a s).agreed_row)
      ≡ (ltb (threshold p * in_force w) (100 * support (samples w) (runs w) g) || eqb (support (samples w) (runs w) g) (in_force w))
  unfolding is_shown
  reported_groups g = reported_shown g

  -- its groups agree pairwise (RULES 5.3)
  pub reported_agree : (g h : Group) → In g (groups (samples w) (reported w p a s).agreed_row) → In h (groups (samples w) (reported w p a s).agreed_row)
      → Agree g h
  reported_agree g h i j = majority_agree t n (runs w) some fits.in_range.0 ok g h (asked g i) (asked h j)
    where
      asked : (x : Group) → In x (groups n (reported w p a s).agreed_row) → majority t n (runs w) x ≡ true
      asked x m = rw (total_length (runs w)) (sym (majority_groups t n (runs w) some fits.in_range.0 ok x) ∙ (rw row at m))

  -- the support of each node is the exact count (RULES 5.5)
  pub reported_support : (v : ℕ) → v < nodes (reported w p a s).agreed_row
      → get_or (reported w p a s).support_row (suc v) 0 ≡ support (samples w) (runs w) (group_at (samples w) (reported w p a s).agreed_row v)
  reported_support v h = rw (words, row) (supports_node n (runs w) shown_row v (rw row at h))

  -- the rule holds of it; so it lies above k/2, and is k at most (RULES 5.6)
  pub reported_bounds : (v : ℕ) → v < nodes (reported w p a s).agreed_row
      → ((threshold p * in_force w < 100 * get_or (reported w p a s).support_row (suc v) 0) ⊎ (get_or (reported w p a s).support_row (suc v) 0 ≡ in_force w))
      × (in_force w < 2 * get_or (reported w p a s).support_row (suc v) 0) × (get_or (reported w p a s).support_row (suc v) 0 ≤ in_force w)
  reported_bounds v h = rw (reported_support v h, row, ← length_runs w) (
      let x = support n (runs w) (group_at n shown_row v) in
      let b = majority_supports t n (runs w) some fits.in_range.0 ok v (rw row at h) in
      ((shown_exactly t (length (runs w)) x).0 b.0, shown_more t (length (runs w)) x fits.in_range.0 some b.0, b.1)
      )

  -- the first word is k, the words after the last node's are 0, and there are 2n of them (RULES 5.4, 5.5)
  pub reported_first : get_or (reported w p a s).support_row 0 0 ≡ in_force w
  reported_first = rw words (supports_first n (runs w) shown_row ∙ total_length (runs w) ∙ length_runs w)

  pub reported_filler : (i : ℕ) → nodes (reported w p a s).agreed_row < i → get_or (reported w p a s).support_row i 0 ≡ 0
  reported_filler i h = rw words (supports_filler n (runs w) shown_row i (rw row at h))

  pub reported_length : length (reported w p a s).support_row ≡ row_words (samples w)
  reported_length = rw words (supports_length n (runs w) shown_row (omega (arith, std.valid.high, std.valid.least)))

  -- at 50 its groups are those that more than half of the runs hold (RULES 5.2)
  pub reported_half : threshold p ≡ 50 → (g : Group)
      → member g (groups (samples w) (reported w p a s).agreed_row) ≡ ltb (in_force w) (2 * support (samples w) (runs w) g)
  reported_half h g = reported_shown g ∙ ap (λ (u : ℕ). is_shown u (in_force w) (support n (runs w) g)) h
      ∙ shown_half (in_force w) (support n (runs w) g) fits.some

  -- at 100 they are those that all runs hold (RULES 5.9)
  pub reported_whole : threshold p ≡ 100 → (g : Group)
      → In g (groups (samples w) (reported w p a s).agreed_row) ↔ ((run : Run) → Memᴰ run (runs w) → holds (samples w) g run.row ≡ true)
  reported_whole h g = (λ m. (support_exactly n (runs w) g).0 (sym is ∙ m), λ f. is ∙ (support_exactly n (runs w) g).1 f)
    where
      is : member g (groups n (reported w p a s).agreed_row) ≡ eqb (support n (runs w) g) (length (runs w))
      is = reported_shown g ∙ ap (λ (u : ℕ). is_shown u (in_force w) (support n (runs w) g)) h
          ∙ ap (λ (k : ℕ). is_shown 100 k (support n (runs w) g)) (sym (length_runs w))
          ∙ shown_whole (length (runs w)) (support n (runs w) g) (omega (arith, support_most n (runs w) g, total_length (runs w)))

-- a greater threshold shows no group more (RULES 5.10)
pub reported_fewer : (w : List ℕ) (p q : ℕ) (a s b r : List ℕ) → (reported w p a s).verdict ≡ accepted → (reported w q b r).verdict ≡ accepted
    → threshold p ≤ threshold q → (g : Group) → In g (groups (samples w) (reported w q b r).agreed_row)
    → In g (groups (samples w) (reported w p a s).agreed_row)
reported_fewer w p q a s b r e f h g m = reported_shown w p a s e g
    ∙ shown_fewer (threshold p) (threshold q) (in_force w) (support (samples w) (runs w) g) h (sym (reported_shown w q b r f g) ∙ m)

-- a single run is its own report, at every threshold (RULES 10.7)
pub reported_one : (w : List ℕ) (p : ℕ) (a s : List ℕ) (run : Run) → (reported w p a s).verdict ≡ accepted → runs w ≡ run ∷ []
    → (reported w p a s).agreed_row ≡ run.row
unfolding support weigh
reported_one w p a s run e q = standard_unique (samples w) (reported w p a s).agreed_row run.row (reported_standard w p a s e)
    (((reported_accepts w p a s).0 e).formed.stored run (rw q (Memᴰ.head refl))).standard
    (λ x. reported_shown w p a s e x ∙ (rw (← length_runs w, q) (go (holds (samples w) x run.row))))
  where
    go : (b : Bool) → is_shown (threshold p) 1 (cond b 1 0 + 0) ≡ b
    go true = (shown_exactly (threshold p) 1 1).1 (inr refl)
    go false = not_yes (is_shown (threshold p) 1 0) (λ m. absurd (omega (arith, shown_some (threshold p) 1 0 (omega arith) m)))
