-- After all runs every group that is ahead is a candidate, and the candidates agree; for any weights. Assumes nothing.
use Rattle.std.specs.Prelude.{ℕ, ◌+◌, ◌-◌, ◌≤◌, ◌<◌, max, ◌≡◌, refl, ◌⊎◌, Bool, false, ◌||◌, cond, not, length}
use Rattle.std.proofs.Common.{zero-le, sym, ap, ◌∙◌, inl, inr, ⊎_elim, arith}
use mathlib.Core.List.{List, [], ◌∷◌, ◌++◌, Memᴰ}
use Rattle.std.proofs.Math.Bool.{true}
use Rattle.std.proofs.lemmas.Bool.{false≢true}
use Rattle.std.proofs.Math.Dec.{ltb}
use borrow.Author.Tests.{ltb-true, ltb-false, lt-ltb}
use Rattle.trees.specs.Lists.{weigh}
use Rattle.trees.specs.Groups.{Group, agree, conflict, member}
use Rattle.trees.specs.Rows.{groups, holds}
use Rattle.trees.specs.Valid.{Valid, In}
use Rattle.trees.specs.Reporting.{Run, worth, support}
use Rattle.trees.specs.Thresholds.{least_threshold}
use Rattle.trees.specs.Majority.{majority}
use Rattle.trees.proofs.BoolLaws.{and_l, and_both, or_l, or_r, not_yes, decide}
use Rattle.trees.proofs.GroupLaws.{agree_to}
use Rattle.trees.specs.Groups.{Agree}
use Rattle.trees.proofs.MemberLaws.{in_none, in_cases, member_append, member_filter}
use Rattle.trees.proofs.ReportingLaws.{Runs}
use Rattle.sides.specs.Sides.{crossed, conflicts, against}
use Rattle.sides.proofs.SideLaws.{conflict_swap, crossed_by, crossed_in, holder_conflicts, held_peaceful, shown_ahead}
use Rattle.sides.specs.Counters.{Tally, blank, largest, rival, moved, step, tallied, finalists}

-- ---- the largest counter

-- it is no smaller than any
pub largest_most : (c : Group → ℕ) (t : Group → Bool) (gs : List Group) (x : Group) → In x gs → t x ≡ true → c x ≤ largest c t gs
unfolding largest
largest_most c t [] x m e = absurd (in_none x m)
largest_most c t (g ∷ gs) x m e = go (in_cases x g gs m) (λ k. largest_most c t gs x k e)
  where
    go : (x ≡ g) ⊎ In x gs → (In x gs → c x ≤ largest c t gs) → c x ≤ max (cond (t g) (c g) 0) (largest c t gs)
    go (inl q) f = let h : t g ≡ true = ap t (sym q) ∙ e in rw (h, q) (omega arith)
    go (inr k) f = omega (arith, f k)

-- and is one of them, where it is not 0
pub largest_is : (c : Group → ℕ) (t : Group → Bool) (gs : List Group)
    → (largest c t gs ≡ 0) ⊎ ((x : Group) × (t x ≡ true) × (c x ≡ largest c t gs))
unfolding largest
largest_is c t [] = inl refl
largest_is c t (g ∷ gs) = go (decide (t g)) (decide (ltb (largest c t gs) (c g))) (largest_is c t gs)
  where
    go : (t g ≡ true) ⊎ (t g ≡ false) → (ltb (largest c t gs) (c g) ≡ true) ⊎ (ltb (largest c t gs) (c g) ≡ false)
        → (largest c t gs ≡ 0) ⊎ ((x : Group) × (t x ≡ true) × (c x ≡ largest c t gs))
        → (max (cond (t g) (c g) 0) (largest c t gs) ≡ 0) ⊎ ((x : Group) × (t x ≡ true) × (c x ≡ max (cond (t g) (c g) 0) (largest c t gs)))
    go (inl e) (inl l) r = inr (g, e, rw e (omega (arith, ltb-true (largest c t gs) (c g) l)))
    go (inl e) (inr l) (inl z) = inl (rw e (omega (arith, ltb-false (largest c t gs) (c g) l)))
    go (inl e) (inr l) (inr y) = inr (y.0, y.1, rw e (omega (arith, ltb-false (largest c t gs) (c g) l, y.2)))
    go (inr e) l (inl z) = inl (rw e (omega arith))
    go (inr e) l (inr y) = inr (y.0, y.1, rw e (omega (arith, y.2)))

-- ---- what the counters say

-- Of every group whatever, with f runs for it and a against: what it is ahead by is no more than its counter; each counter in
-- conflict with it counts against it; groups in conflict are not both candidates; and what has a counter is a candidate, and
-- nothing else is.
pub record Keeps (f a : Group → ℕ) (s : Tally) : Type 0 where
  pub ahead : (g : Group) → f g ≤ a g + s.counter g
  pub behind : (g x : Group) → conflict g x ≡ true → f g + s.counter x ≤ a g + s.counter g
  pub peace : (g x : Group) → conflict g x ≡ true → 0 < s.counter g → s.counter x ≡ 0
  pub listed : (g : Group) → 0 < s.counter g → In g s.candidates
  pub alive : (g : Group) → In g s.candidates → 0 < s.counter g

pub blank_keeps : Keeps (λ g. 0) (λ g. 0) blank
unfolding blank
blank_keeps = record {
  ahead = λ g. zero-le;
  behind = λ g x e. zero-le;
  peace = λ g x e h. refl;
  listed = λ g h. absurd (omega arith);
  alive = λ g m. absurd (in_none g m);
}

-- what a run does to one group
pub data Side (n : ℕ) (r : List ℕ) (g : Group) : Type 0 where
  pro : holds n g r ≡ true → conflicts n g r ≡ false → Side n r g
  contra : holds n g r ≡ false → conflicts n g r ≡ true → Side n r g
  neither : holds n g r ≡ false → conflicts n g r ≡ false → Side n r g

pub side : (n : ℕ) (r : List ℕ) → Valid n r → (g : Group) → Side n r g
side n r ok g = go (decide (holds n g r)) (decide (conflicts n g r))
  where
    go : (holds n g r ≡ true) ⊎ (holds n g r ≡ false) → (conflicts n g r ≡ true) ⊎ (conflicts n g r ≡ false) → Side n r g
    go (inl p) q = pro p (held_peaceful n r ok g p)
    go (inr p) (inl q) = contra p q
    go (inr p) (inr q) = neither p q

-- a count of runs, with one more of weight w that passes a test or not
abbrev pub with_run : ℕ → (Group → Bool) → (Group → ℕ) → Group → ℕ
with_run w t f g = f g + cond (t g) w 0

module _ (n w : ℕ) (r : List ℕ) (s : Tally) where
  -- the counter after a run, by cases
  pub moved_pro : (g : Group) → holds n g r ≡ true → moved n w r s g ≡ s.counter g + (w - rival s g)
  unfolding moved
  moved_pro g e = rw e

  pub moved_contra : (g : Group) → holds n g r ≡ false → conflicts n g r ≡ true → moved n w r s g ≡ s.counter g - w
  unfolding moved
  moved_contra g e q = rw (e, q)

  pub moved_neither : (g : Group) → holds n g r ≡ false → conflicts n g r ≡ false → moved n w r s g ≡ s.counter g
  unfolding moved
  moved_neither g e q = rw (e, q)

  -- a counter grows only where the run holds the group
  pub moved_falls : (g : Group) → holds n g r ≡ false → moved n w r s g ≤ s.counter g
  moved_falls g e = ⊎_elim (λ q. omega (arith, moved_contra g e q)) (λ q. omega (arith, moved_neither g e q)) (decide (conflicts n g r))

module _ (n w : ℕ) (r : List ℕ) (ok : Valid n r) (f a : Group → ℕ) (s : Tally) (k : Keeps f a s) where
  -- a candidate in conflict with g is no larger than the rival of g
  pub under_rival : (g x : Group) → conflict g x ≡ true → s.counter x ≤ rival s g
  under_rival g x c = go (decide (ltb 0 (s.counter x)))
    where
      go : (ltb 0 (s.counter x) ≡ true) ⊎ (ltb 0 (s.counter x) ≡ false) → s.counter x ≤ rival s g
      go (inl e) = largest_most s.counter (conflict g) s.candidates x (k.listed x (ltb-true 0 (s.counter x) e)) c
      go (inr e) = omega (arith, ltb-false 0 (s.counter x) e)

  -- what a group that the run holds gains is enough
  gain : (g : Group) → f g + w ≤ a g + (s.counter g + (w - rival s g))
  gain g = go (largest_is s.counter (conflict g) s.candidates)
    where
      go : (rival s g ≡ 0) ⊎ ((x : Group) × (conflict g x ≡ true) × (s.counter x ≡ rival s g))
          → f g + w ≤ a g + (s.counter g + (w - rival s g))
      go (inl z) = omega (arith, k.ahead g)
      go (inr t) = omega (arith, k.behind g t.0 t.1, t.2)

  -- a run that is not against g does not hold what conflicts with g
  not_held : (g x : Group) → conflict g x ≡ true → conflicts n g r ≡ false → holds n x r ≡ false
  not_held g x c q = not_yes (holds n x r) (λ e. false≢true (sym q ∙ holder_conflicts n r x g (conflict_swap g x c) e))

  ahead' : (g : Group) → with_run w (λ x. holds n x r) f g ≤ with_run w (λ x. conflicts n x r) a g + moved n w r s g
  ahead' g = go (side n r ok g)
    where
      go : Side n r g → with_run w (λ x. holds n x r) f g ≤ with_run w (λ x. conflicts n x r) a g + moved n w r s g
      go (pro p q) = rw (p, q) (omega (arith, moved_pro n w r s g p, gain g))
      go (contra p q) = rw (p, q) (omega (arith, moved_contra n w r s g p q, k.ahead g))
      go (neither p q) = rw (p, q) (omega (arith, moved_neither n w r s g p q, k.ahead g))

  behind' : (g x : Group) → conflict g x ≡ true
      → with_run w (λ y. holds n y r) f g + moved n w r s x ≤ with_run w (λ y. conflicts n y r) a g + moved n w r s g
  behind' g x c = go (side n r ok g) (side n r ok x)
    where
      swapped : conflict x g ≡ true
      swapped = conflict_swap g x c

      go : Side n r g → Side n r x
          → with_run w (λ y. holds n y r) f g + moved n w r s x ≤ with_run w (λ y. conflicts n y r) a g + moved n w r s g
      go (pro p q) (pro u v) = absurd (false≢true (sym q ∙ holder_conflicts n r x g swapped u))
      go (pro p q) (contra u v) = rw (p, q) (omega (arith, moved_pro n w r s g p, moved_contra n w r s x u v, gain g, k.behind g x c))
      go (pro p q) (neither u v) = absurd (false≢true (sym v ∙ holder_conflicts n r g x c p))
      go (contra p q) (pro u v) = rw (p, q)
          (omega (arith, moved_contra n w r s g p q, moved_pro n w r s x u, under_rival x g swapped, k.behind g x c))
      go (contra p q) (contra u v) = rw (p, q) (omega (arith, moved_contra n w r s g p q, moved_contra n w r s x u v, k.behind g x c))
      go (contra p q) (neither u v) = rw (p, q) (omega (arith, moved_contra n w r s g p q, moved_neither n w r s x u v, k.behind g x c))
      go (neither p q) y = rw (p, q) (omega (arith, moved_neither n w r s g p q, moved_falls n w r s x (not_held g x c q), k.behind g x c))

  peace' : (g x : Group) → conflict g x ≡ true → 0 < moved n w r s g → moved n w r s x ≡ 0
  peace' g x c h = go (side n r ok g) (side n r ok x) (decide (ltb 0 (s.counter g)))
    where
      swapped : conflict x g ≡ true
      swapped = conflict_swap g x c

      -- where g had a counter, x has none
      was : 0 < s.counter g → s.counter x ≡ 0
      was = k.peace g x c

      go : Side n r g → Side n r x → (ltb 0 (s.counter g) ≡ true) ⊎ (ltb 0 (s.counter g) ≡ false) → moved n w r s x ≡ 0
      go (pro p q) (pro u v) e = absurd (false≢true (sym q ∙ holder_conflicts n r x g swapped u))
      go (pro p q) (contra u v) (inl e) = omega (arith, moved_contra n w r s x u v, was (ltb-true 0 (s.counter g) e))
      go (pro p q) (contra u v) (inr e) =
          omega (arith, moved_contra n w r s x u v, moved_pro n w r s g p, ltb-false 0 (s.counter g) e, under_rival g x c)
      go (pro p q) (neither u v) e = absurd (false≢true (sym v ∙ holder_conflicts n r g x c p))
      go (contra p q) (pro u v) e = let l = moved_contra n w r s g p q in
          omega (arith, moved_pro n w r s x u, was (omega arith), under_rival x g swapped)
      go (contra p q) (contra u v) e = let l = moved_contra n w r s g p q in omega (arith, moved_contra n w r s x u v, was (omega arith))
      go (contra p q) (neither u v) e = let l = moved_contra n w r s g p q in omega (arith, moved_neither n w r s x u v, was (omega arith))
      go (neither p q) y e = let l = moved_neither n w r s g p q in
          omega (arith, moved_falls n w r s x (not_held g x c q), was (omega arith))

  listed' : (g : Group) → 0 < moved n w r s g → In g (step n w r s).candidates
  unfolding step
  listed' g h = member_filter g (λ x. ltb 0 (moved n w r s x)) (s.candidates ++ groups n r)
      ∙ and_both (ltb 0 (moved n w r s g)) (member g (s.candidates ++ groups n r)) (lt-ltb 0 (moved n w r s g) h)
      (member_append g s.candidates (groups n r) ∙ go (decide (holds n g r)))
    where
      go : (holds n g r ≡ true) ⊎ (holds n g r ≡ false) → member g s.candidates || member g (groups n r) ≡ true
      go (inl p) = or_r (member g s.candidates) (member g (groups n r)) p
      go (inr p) = or_l (member g s.candidates) (member g (groups n r)) (k.listed g (omega (arith, moved_falls n w r s g p)))

  alive' : (g : Group) → In g (step n w r s).candidates → 0 < moved n w r s g
  unfolding step
  alive' g m = ltb-true 0 (moved n w r s g) (and_l (ltb 0 (moved n w r s g)) (member g (s.candidates ++ groups n r))
      (sym (member_filter g (λ x. ltb 0 (moved n w r s x)) (s.candidates ++ groups n r)) ∙ m))

  -- one run of any weight
  pub step_keeps : Keeps (with_run w (λ g. holds n g r) f) (with_run w (λ g. conflicts n g r) a) (step n w r s)
  unfolding step
  step_keeps = record { ahead = ahead'; behind = behind'; peace = peace'; listed = listed'; alive = alive' }

pub keeps_same : (f a p q : Group → ℕ) (s : Tally) → ((g : Group) → f g ≡ p g) → ((g : Group) → a g ≡ q g) → Keeps f a s → Keeps p q s
keeps_same f a p q s e d k = record {
  ahead = λ g. omega (arith, k.ahead g, e g, d g);
  behind = λ g x c. omega (arith, k.behind g x c, e g, d g);
  peace = k.peace;
  listed = k.listed;
  alive = k.alive;
}

-- ---- a round: no counter in conflict with the run is below w, as where w is 1

module _ (n w : ℕ) (r : List ℕ) (f a : Group → ℕ) (s : Tally) (k : Keeps f a s)
    (round : (x : Group) → In x s.candidates → conflicts n x r ≡ true → w ≤ s.counter x) where
  -- a group of the run gains w where it agrees with all candidates, and otherwise nothing
  pub round_gain : (g : Group) → holds n g r ≡ true → moved n w r s g ≡ s.counter g + cond (crossed g s.candidates) 0 w
  round_gain g p = moved_pro n w r s g p ∙ go (decide (crossed g s.candidates))
    where
      go : (crossed g s.candidates ≡ true) ⊎ (crossed g s.candidates ≡ false)
          → s.counter g + (w - rival s g) ≡ s.counter g + cond (crossed g s.candidates) 0 w
      go (inl e) = let t = crossed_in g s.candidates e in rw e (omega (
        arith,
        round t.0 t.1 (holder_conflicts n r g t.0 t.2 p),
        largest_most s.counter (conflict g) s.candidates t.0 t.1 t.2,
      ))
      go (inr e) = rw e (⊎_elim (λ z. omega arith) (λ t. omega (arith, calm t.0 t.1, t.2))
          (largest_is s.counter (conflict g) s.candidates))
        where
          calm : (x : Group) → conflict g x ≡ true → s.counter x ≤ 0
          calm x c = ⊎_elim
              (λ q. absurd (false≢true (sym e ∙ crossed_by g x s.candidates (k.listed x (ltb-true 0 (s.counter x) q)) c)))
              (λ q. ltb-false 0 (s.counter x) q) (decide (ltb 0 (s.counter x)))

-- ---- all runs

pub tallied_keeps : (n : ℕ) (rs : List Run) → Runs n rs → (f a : Group → ℕ) (s : Tally) → Keeps f a s
    → Keeps (λ g. f g + support n rs g) (λ g. a g + against n rs g) (tallied n rs s)
unfolding tallied support against weigh
tallied_keeps n [] ok f a s k = keeps_same f a _ _ s (λ g. omega arith) (λ g. omega arith) k
tallied_keeps n (run ∷ rs) ok f a s k = keeps_same _ _ _ _ (tallied n rs (step n (worth run) run.row s))
    (λ g. omega arith) (λ g. omega arith)
    (tallied_keeps n rs (λ q m. ok q (Memᴰ.tail m)) _ _ (step n (worth run) run.row s)
    (step_keeps n (worth run) run.row (ok run (Memᴰ.head refl)) f a s k))

module _ (n : ℕ) (rs : List Run) (ok : Runs n rs) where
  pub final_keeps : Keeps (support n rs) (against n rs) (tallied n rs blank)
  final_keeps = keeps_same _ _ (support n rs) (against n rs) (tallied n rs blank) (λ g. omega arith) (λ g. omega arith)
      (tallied_keeps n rs ok (λ g. 0) (λ g. 0) blank blank_keeps)

  -- every group that more runs hold than conflict with is a candidate in the end
  pub ahead_candidate : (g : Group) → against n rs g < support n rs g → In g (finalists n rs)
  ahead_candidate g h = final_keeps.listed g (omega (arith, final_keeps.ahead g))

  -- so is every group that a report shows, at any threshold that it accepts
  pub shown_candidate : (t : ℕ) → least_threshold ≤ t → 0 < length rs → (g : Group) → majority t n rs g ≡ true → In g (finalists n rs)
  shown_candidate t l some g e = ahead_candidate g (shown_ahead n rs ok t l some g e)

  -- candidates agree pairwise
  pub candidates_agree : (g h : Group) → In g (finalists n rs) → In h (finalists n rs) → Agree g h
  candidates_agree g h m k = agree_to g h (⊎_elim (λ e. e) (λ e. absurd (omega (
    arith,
    final_keeps.alive h k,
    final_keeps.peace g h (ap not e) (final_keeps.alive g m),
  ))) (decide (agree g h)))
