-- Runs that pass a test, such as holders, are counted run by run; and marks by holders are the majority rule. Assumes nothing.
use Rattle.std.specs.Prelude.{ℕ, suc, ◌+◌, ◌≤◌, ◌<◌, ◌≡◌, refl, List, [], ◌∷◌, Bool, true, not, cond, eqb, length, get_or, take}
use Rattle.std.proofs.Common.{sym, ap, subst, ◌∙◌, add-one, take-suc, take_all}
use native.Mathlib.Omega.{arith}
use Rattle.std.proofs.Math.ListN.{length-take}
use Rattle.trees.specs.Lists.{weigh, zeros}
use Rattle.trees.specs.Groups.{Group}
use Rattle.trees.specs.Rows.{nodes, group_at, holds}
use Rattle.trees.specs.Valid.{Standard}
use Rattle.trees.specs.Tables.{Tabled, table_words, entry}
use Rattle.trees.specs.Mates.{no_mate, mate_of}
use Rattle.trees.specs.Merging.{flagged}
use Rattle.trees.specs.Reporting.{Run, worth, support, total}
use Rattle.trees.specs.Majority.{is_shown, majority}
use Rattle.trees.proofs.ListLaws.{get_or_zeros, weigh_append, weigh_mono}
use Rattle.trees.proofs.RowLaws.{inner_two}
use Rattle.trees.proofs.MateLaws.{mate_holds}
use Rattle.trees.proofs.ReportingLaws.{total_length}
use Rattle.count.specs.Holders.{holders_at, Test, passing_at, with_mate, with_run, Under, Counting, Marked}

-- a mate is counted exactly where the run holds the group
pub tallied : (n : ℕ) (q r mate old t : List ℕ) → Standard n q → Standard n r → Tabled (mate_of n q r) n (nodes q) mate
    → Tabled (with_mate mate old) n (nodes q) t → Tabled (with_run (holds n) n q r old) n (nodes q) t
tallied n q r mate old t qs rs m i = record {
  is = λ v h k. i.is v h k ∙ ap (λ (b : Bool). entry old v + cond b 1 0)
      (ap (λ (b : ℕ). not (eqb b no_mate)) (m.is v h k) ∙ mate_holds n q r v rs (inner_two n q qs v h k));
}

-- ---- the runs one by one

module _ (p : Test) (rs : List Run) (g : Group) where
  abbrev passing : List Run → ℕ
  passing xs = weigh worth (λ run. p g run.row) xs

  passing_one : (run : Run) → passing (run ∷ []) ≡ cond (p g run.row) 1 0
  unfolding weigh
  passing_one run = omega arith

  passing_more : (j : ℕ) (d : Run) → j < length rs → passing (take (suc j) rs) ≡ passing (take j rs) + cond (p g (get_or rs j d).row) 1 0
  passing_more j d h = ap (λ (xs : List Run). passing xs) (take-suc rs j d h)
      ∙ weigh_append worth (λ run. p g run.row) (take j rs) (get_or rs j d ∷ []) ∙ ap (λ (y : ℕ). passing (take j rs) + y)
      (passing_one (get_or rs j d))

  passing_few : (j : ℕ) → passing (take j rs) ≤ j
  unfolding total
  passing_few j = omega (
    arith,
    weigh_mono worth (λ run. p g run.row) (λ run. true) (take j rs) (λ run m e. refl),
    total_length (take j rs),
    length-take j rs,
  )

module _ (p : Test) (n : ℕ) (rs : List Run) (q : List ℕ) where
  pub counting_start : Counting p n rs q 0 (zeros table_words)
  unfolding weigh
  counting_start = record { high = omega arith; counts = record { is = λ v h k. get_or_zeros table_words v } }

  -- there is room for one more
  pub counting_under : (k j : ℕ) (t : List ℕ) → j < k → Counting p n rs q j t → Under k n (nodes q) t
  counting_under k j t h i = record { lt = λ v a b. omega (arith, i.counts.is v a b, passing_few p rs (group_at n q v) j) }

  pub counting_step : (j : ℕ) (d : Run) (r t t' : List ℕ) → j < length rs → (get_or rs j d).row ≡ r → Counting p n rs q j t
      → Tabled (with_run p n q r t) n (nodes q) t' → Counting p n rs q (j + 1) t'
  counting_step j d r t t' h e i x = record { high = omega arith; counts = record { is = λ v a b. step v a b } }
    where
      step : (v : ℕ) → n ≤ v → v < nodes q → get_or t' v 0 ≡ passing_at p n (take (j + 1) rs) q v
      step v a b = let g : Group = group_at n q v in
          x.is v a b ∙ ap (λ (y : ℕ). y + cond (p g r) 1 0) (i.counts.is v a b)
          ∙ ap (λ (z : List ℕ). passing p rs g (take j rs) + cond (p g z) 1 0) (sym e) ∙ sym (passing_more p rs g j d h)
          ∙ ap (λ (m : ℕ). passing p rs g (take m rs)) (sym (add-one j))

  pub counting_end : (j : ℕ) (t : List ℕ) → length rs ≤ j → Counting p n rs q j t → Tabled (passing_at p n rs q) n (nodes q) t
  counting_end j t h i = subst (λ (xs : List Run). Tabled (passing_at p n xs q) n (nodes q) t) (take_all j rs h) i.counts

-- the runs that pass where the test is that they hold the group are its holders
pub holding_end : (n : ℕ) (rs : List Run) (q : List ℕ) (j : ℕ) (t : List ℕ) → length rs ≤ j → Counting (holds n) n rs q j t
    → Tabled (holders_at n rs q) n (nodes q) t
unfolding support
holding_end n rs q j t h i = counting_end (holds n) n rs q j t h i

-- ---- marks

pub marked_majority : (t n : ℕ) (rs : List Run) (q holders : List ℕ) (k : ℕ) (keep : List Bool) → length rs ≡ k
    → Tabled (holders_at n rs q) n (nodes q) holders → Marked t k holders n (nodes q) keep
    → (v : ℕ) → n ≤ v → v < nodes q → flagged keep v ≡ majority t n rs (group_at n q v)
marked_majority t n rs q holders k keep l i m v h j = m.is v h j ∙ ap (is_shown t k) (i.is v h j)
    ∙ ap (λ (x : ℕ). is_shown t x (support n rs (group_at n q v))) (sym (total_length rs ∙ l))
