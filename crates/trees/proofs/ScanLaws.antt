-- What a loop over a range keeps: what is left decides the whole. Assumes nothing.
use Rattle.std.specs.Prelude.{ℕ, suc, ◌+◌, ◌-◌, ◌≤◌, ◌<◌, ◌≡◌, List, Bool, true, false, cond}
use Rattle.std.proofs.Common.{ap, ◌∙◌, add-one, arith}
use Rattle.trees.specs.Lists.{range, first, weigh, count}
use Rattle.trees.specs.Rows.{parent, root_mark, child_of, ends}
use Rattle.trees.specs.Checks.{accepted, refused, line_at, asked}
use Rattle.trees.proofs.ListLaws.{range_cons, range_none, first_end, first_hit, first_pass}
use Rattle.trees.proofs.WayLaws.{ends_up, ends_here}

-- ---- scans

-- what is left of a to b, from v on, decides the whole
pub record ScanLeft (t : ℕ → Bool) (a b v : ℕ) : Type 0 where
  pub decides : first t (range a b) ≡ first t (range v b)

pub scan_start : {t : ℕ → Bool} {a b v : ℕ} → v ≡ a → ScanLeft t a b v
scan_start e = record { decides = rw e }

module _ {t : ℕ → Bool} {a b v : ℕ} (rest : ScanLeft t a b v) where
  pub scan_pass : v < b → t v ≡ false → ScanLeft t a b (v + 1)
  scan_pass h e = record { decides = rest.decides ∙ rw add-one (first_pass t v b h e) }

  pub scan_hit : (k : ℕ) → v < b → t v ≡ true → refused k v ≡ asked (line_at k t (range a b))
  scan_hit k h e = rw (rest.decides, first_hit t v b h e)

  pub scan_end : (k : ℕ) → b ≤ v → accepted ≡ asked (line_at k t (range a b))
  scan_end k h = rw (rest.decides, first_end t v b h)

-- ---- counts

-- k is counted of a to b, and what is left from v on makes the whole
pub record CountLeft (t : ℕ → Bool) (a b k v : ℕ) : Type 0 where
  pub whole : k + count t (range v b) ≡ count t (range a b)
  pub few : k ≤ v

pub count_start : (t : ℕ → Bool) (a b : ℕ) → CountLeft t a b 0 a
count_start t a b = record { whole = omega arith; few = omega arith }

count_cons : (t : ℕ → Bool) (a b : ℕ) → a < b → count t (range a b) ≡ cond (t a) 1 0 + count t (range (a + 1) b)
unfolding weigh
count_cons t a b h = rw (add-one a, range_cons a b h)

count_none : (t : ℕ → Bool) (a b : ℕ) → b ≤ a → count t (range a b) ≡ 0
unfolding weigh
count_none t a b h = rw (range_none a b h)

module _ {t : ℕ → Bool} {a b k v : ℕ} (so_far : CountLeft t a b k v) where
  pub count_yes : v < b → t v ≡ true → CountLeft t a b (k + 1) (v + 1)
  count_yes h e = record { whole = omega (arith, so_far.whole, rw e at (count_cons t v b h)); few = omega (arith, so_far.few) }

  pub count_no : v < b → t v ≡ false → CountLeft t a b k (v + 1)
  count_no h e = record { whole = omega (arith, so_far.whole, rw e at (count_cons t v b h)); few = omega (arith, so_far.few) }

  pub count_end : b ≤ v → k ≡ count t (range a b)
  count_end h = omega (arith, so_far.whole, count_none t v b h)

-- ---- the way up, in steps that are counted down

module _ (r : List ℕ) (f v : ℕ) (h : 0 < f) where
  one_step : ends f r v ≡ ends (suc (f - 1)) r v
  one_step = let e : f ≡ suc (f - 1) = omega arith in ap (λ (g : ℕ). ends g r v) e

  pub ends_root : child_of r root_mark v ≡ true → ends f r v ≡ true
  ends_root e = one_step ∙ ends_here r (f - 1) v e

  pub ends_parent : child_of r root_mark v ≡ false → ends f r v ≡ ends (f - 1) r (parent r v)
  ends_parent e = one_step ∙ ends_up r (f - 1) v e
