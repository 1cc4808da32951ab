-- At a threshold of half or more the majority rule shows a tree, of exactly the groups that it asks for; and few runs need be tried. Assumes nothing.
use Rattle.std.specs.Prelude.{ℕ, ◌+◌, ◌-◌, ◌*◌, ◌/◌, ◌≤◌, ◌<◌, ◌≡◌, ◌↔◌, ◌⊎◌, true, ◌&&◌, eqb, ltb, length, take}
use Rattle.std.proofs.Common.{sym, ap, ◌∙◌, mul-le-mul_right, arith, eqb-true, eq-eqb, ltb-true, lt-ltb}
use Rattle.std.proofs.Math.Logic.{inl, inr, ⊎_elim}
use mathlib.Core.List.{List, Memᴰ}
use Rattle.std.proofs.lemmas.Bool.{eqb-false}
use Rattle.trees.specs.Groups.{Group, member}
use Rattle.trees.specs.Rows.{nodes, group_at, groups, holds}
use Rattle.trees.specs.Valid.{Standard}
use Rattle.trees.specs.Reporting.{Run, worth, support, total, held, agreed}
use Rattle.trees.specs.Thresholds.{least_threshold, most_threshold}
use Rattle.trees.specs.Majority.{percent, is_shown, majority, references}
use Rattle.trees.proofs.BoolLaws.{and_l, and_both, or_cases, or_l, or_r, true_eq, decide}
use Rattle.trees.proofs.ListLaws.{weigh_found, weigh_both, count_every, count_early}
use Rattle.trees.specs.Groups.{Agree}
use Rattle.trees.proofs.RowLaws.{groups-in}
use Rattle.trees.proofs.NumberingLaws.{row_tree}
use Rattle.trees.proofs.ReportingLaws.{Runs, Holder, in_held, total_length, support_most, support_all, Sound, shown_member, agreed_standard, agreed_groups}

-- ---- by numbers: s of k runs hold a group

-- as many runs are tried as are left of k when tk/100, rounded down, are taken off, and one at least
pub references_exactly : (t k : ℕ) → ((k ≤ (t * k) / 100) × (references t k ≡ 1)) ⊎ (((t * k) / 100 < k) × (references t k + (t * k) / 100 ≡ k))
unfolding references
references_exactly t k = ⊎_elim
    (λ q. inl (omega (arith, eqb-true (k - (t * k) / percent) 0 q), rw q))
    (λ q. let h : (t * k) / percent < k = omega (arith, eqb-false (k - (t * k) / percent) 0 q) in inr (h, rw q (omega arith)))
    (decide (eqb (k - (t * k) / percent) 0))

module _ (t k s : ℕ) where
  -- a group is shown exactly if 100s > tk, or all runs hold it (RULES 5.1)
  pub shown_exactly : (is_shown t k s ≡ true) ↔ ((t * k < 100 * s) ⊎ (s ≡ k))
  unfolding is_shown
  shown_exactly = (
    λ e. ⊎_elim (λ q. inl (ltb-true (t * k) (percent * s) q)) (λ q. inr (eqb-true s k q)) (or_cases (ltb (t * k) (percent * s)) (eqb s k) e),
    ⊎_elim (λ h. or_l _ (eqb s k) (lt-ltb (t * k) (percent * s) h)) (λ h. or_r (ltb (t * k) (percent * s)) _ (eq-eqb s k h)),
  )

  -- what is shown is held
  pub shown_some : 0 < k → is_shown t k s ≡ true → 1 ≤ s
  shown_some h e = ⊎_elim (λ q. omega arith) (λ q. omega arith) (shown_exactly.0 e)

  -- by more than half of the runs, at a threshold of half or more
  pub shown_more : least_threshold ≤ t → 0 < k → is_shown t k s ≡ true → k < 2 * s
  shown_more l h e = ⊎_elim (λ q. omega (arith, mul-le-mul_right k l)) (λ q. omega arith) (shown_exactly.0 e)

  -- and fewer runs than are tried miss it
  pub shown_early : 0 < k → s ≤ k → is_shown t k s ≡ true → k < s + references t k
  shown_early h l e = go (references_exactly t k) (shown_exactly.0 e)
    where
      go : ((k ≤ (t * k) / 100) × (references t k ≡ 1)) ⊎ (((t * k) / 100 < k) × (references t k + (t * k) / 100 ≡ k))
          → (t * k < 100 * s) ⊎ (s ≡ k) → k < s + references t k
      go (inl r) (inl x) = omega (arith, r.0, r.1)
      go (inl r) (inr x) = omega (arith, r.1)
      go (inr r) (inl x) = omega (arith, r.1)
      go (inr r) (inr x) = omega (arith, r.0, r.1)

-- none is tried in vain: a group that all of them but the last miss is shown
pub references_needed : (t k : ℕ) → t ≤ most_threshold → 0 < k → is_shown t k (k + 1 - references t k) ≡ true
references_needed t k m h = (shown_exactly t k (k + 1 - references t k)).1
    (⊎_elim (λ r. inr (omega (arith, r.1))) (λ r. inl (omega (arith, r.1, mul-le-mul_right k m))) (references_exactly t k))

-- no more runs are tried than there are
pub references_most : (t k : ℕ) → 0 < k → references t k ≤ k
references_most t k h = ⊎_elim (λ r. omega (arith, r.1)) (λ r. omega (arith, r.1)) (references_exactly t k)

-- a greater threshold shows no group more (RULES 5.10)
pub shown_fewer : (t u k s : ℕ) → t ≤ u → is_shown u k s ≡ true → is_shown t k s ≡ true
shown_fewer t u k s h e = (shown_exactly t k s).1 (⊎_elim (λ q. inl (omega (arith, mul-le-mul_right k h))) inr ((shown_exactly u k s).0 e))

-- at 50 the rule is 2s > k, and half is not enough (RULES 5.2)
pub shown_half : (k s : ℕ) → 0 < k → is_shown 50 k s ≡ ltb k (2 * s)
shown_half k s h = true_eq _ _ (λ e. lt-ltb k (2 * s) (shown_more 50 k s (omega arith) h e))
    (λ e. (shown_exactly 50 k s).1 (inl (omega (arith, ltb-true k (2 * s) e))))

-- at 100 it is s = k (RULES 5.9)
pub shown_whole : (k s : ℕ) → s ≤ k → is_shown 100 k s ≡ eqb s k
shown_whole k s h = true_eq _ _ (λ e. ⊎_elim (λ q. absurd (omega arith)) (eq-eqb s k) ((shown_exactly 100 k s).0 e))
    (λ e. (shown_exactly 100 k s).1 (inr (eqb-true s k e)))

-- ---- of runs and a group

module _ (t n : ℕ) (rs : List Run) (some : 0 < length rs) where
  runs_some : 0 < total rs
  runs_some = rw (total_length rs) some

  -- a group that is shown is held by some run
  pub majority_held : (g : Group) → majority t n rs g ≡ true → Holder n g rs
  unfolding support
  majority_held g e = weigh_found worth (λ run. holds n g run.row) rs (shown_some t (total rs) (support n rs g) runs_some e)

  -- and by one of the runs that are tried
  pub majority_early : (g : Group) → majority t n rs g ≡ true → Holder n g (take (references t (length rs)) rs)
  unfolding support
  majority_early g e = count_early (λ run. holds n g run.row) rs (references t (length rs)) (shown_some t (total rs) (support n rs g) runs_some e)
      (rw (← total_length rs) (shown_early t (total rs) (support n rs g) runs_some (support_most n rs g) e))

  module _ (half : least_threshold ≤ t) where
    -- two groups that are shown are held together by one run (RULES 5.3)
    pub majority_together : (g h : Group) → majority t n rs g ≡ true → majority t n rs h ≡ true
        → (run : Run) × Memᴰ run rs × (holds n g run.row ≡ true) × (holds n h run.row ≡ true)
    unfolding support total
    majority_together g h a b = weigh_both worth (λ run. holds n g run.row) (λ run. holds n h run.row) rs
        (omega (arith, shown_more t (total rs) (support n rs g) half runs_some a, shown_more t (total rs) (support n rs h) half runs_some b))

    module _ (ok : Runs n rs) where
      -- so they agree
      pub majority_agree : (g h : Group) → majority t n rs g ≡ true → majority t n rs h ≡ true → Agree g h
      majority_agree g h a b = let r = majority_together g h a b in (row_tree n r.0.row (ok r.0 r.1)).agree g h r.2 r.3

      pub majority_sound : Sound (majority t) n rs
      majority_sound = record {
        agree = λ g h m k. majority_agree g h (and_l _ (member g (held n rs)) (sym (shown_member (majority t) n rs g) ∙ m))
            (and_l _ (member h (held n rs)) (sym (shown_member (majority t) n rs h) ∙ k));
        unanimous = λ g f. (shown_exactly t (total rs) (support n rs g)).1 (inr (support_all n rs g f ∙ sym (total_length rs)));
      }

      pub majority_standard : Standard n (agreed (majority t) n rs)
      majority_standard = agreed_standard (majority t) n rs ok some majority_sound

      -- DEMAND 2, of the definition: of all groups whatever, exactly those that the rule asks for are groups of the agreed row (RULES D2)
      pub majority_groups : (g : Group) → member g (groups n (agreed (majority t) n rs)) ≡ is_shown t (length rs) (support n rs g)
      majority_groups g = agreed_groups (majority t) n rs ok some majority_sound g ∙ shown_member (majority t) n rs g
          ∙ true_eq (majority t n rs g && member g (held n rs)) (majority t n rs g) (and_l _ (member g (held n rs)))
          (λ e. and_both _ _ e (in_held n rs g (majority_held g e)))
          ∙ ap (λ (k : ℕ). is_shown t k (support n rs g)) (total_length rs)

      -- the support of each node of it is shown, and is k at most (RULES 5.6)
      pub majority_supports : (v : ℕ) → v < nodes (agreed (majority t) n rs)
          → (is_shown t (length rs) (support n rs (group_at n (agreed (majority t) n rs) v)) ≡ true)
          × (support n rs (group_at n (agreed (majority t) n rs) v) ≤ length rs)
      majority_supports v h = let g = group_at n (agreed (majority t) n rs) v in
          (sym (majority_groups g) ∙ groups-in n (agreed (majority t) n rs) v h, omega (arith, total_length rs, support_most n rs g))

-- all runs hold a group exactly if its support is k
pub support_exactly : (n : ℕ) (rs : List Run) (g : Group)
    → (eqb (support n rs g) (length rs) ≡ true) ↔ ((run : Run) → Memᴰ run rs → holds n g run.row ≡ true)
unfolding support
support_exactly n rs g = (λ e. count_every (λ run. holds n g run.row) rs (eqb-true _ _ e), λ f. eq-eqb _ _ (support_all n rs g f))
