-- What `all` over a range of numbers answers is whether a scan of them finds nothing. Assumes nothing.
use Rattle.std.proofs.Common.{ℕ, ◌+◌, ◌-◌, ◌<◌, ◌≤◌, ◌≡◌, List, length, Bool, true, false, not, Option, sym, ◌∙◌, refl, arith, add-one, suc, ltb, leb, zero-le, ◌⊎◌, inl, inr}
use borrow.Author.Tests.{lt-ltb, le-ltb, le-leb, lt-leb}
use Rattle.std.proofs.lemmas.Bool.{false≢true}
use Rattle.std.proofs.lemmas.Iterator.{cases_from_all, YieldsList-from_range}
use Rattle.std.proofs.lemmas.List.FromFn.{length-range_with_len, get_or-range_with_len}
use Rattle.std.proofs.iter.Yields.{nat_range_steps}
use Rattle.std.specs.Bool.{MatchBool}
use Rattle.std.specs.Fn.{Called}
use Rattle.std.specs.Iterator.{YieldsThen}
use Rattle.std.specs.List.{range_with_len, AllWithin, HoldsAt, FoldsTo}
use Rattle.std.specs.Option.{MatchOption}
use denote.Param.Members.{Mut}
use Rattle.std.specs.declared.ops.Range.{Range}
use Rattle.trees.specs.Linear.{falters}
use Rattle.trees.specs.Scans.{never}
use Rattle.trees.proofs.BoolLaws.{decide}
use Rattle.trees.proofs.NeverLaws.{side, never_to, never_from}

module _ (t : ℕ → Bool) (a b : ℕ) where
  -- each of them is there, at its place
  all_pass : AllWithin (λ x. t x ≡ false) (range_with_len a (b - a)) 0 (length (range_with_len a (b - a))) → never t a b ≡ true
  all_pass h = never_from t a b (λ i j k. let e : a + (i - a) ≡ i = omega arith in
      rw (get_or-range_with_len a (b - a) (i - a) 0 (omega arith), e) at (h (i - a) 0 zero-le (rw (length-range_with_len a (b - a)) (omega arith))))

  one_stops : (k : ℕ) → k < length (range_with_len a (b - a)) → HoldsAt (λ x. t x ≡ true) (range_with_len a (b - a)) k → never t a b ≡ false
  one_stops k l h = go (decide (never t a b))
    where
      below : k < b - a
      below = rw (length-range_with_len a (b - a)) at l

      here : t (a + k) ≡ true
      here = rw (get_or-range_with_len a (b - a) k 0 below) at (h 0)

      go : (never t a b ≡ true) ⊎ (never t a b ≡ false) → never t a b ≡ false
      go (inl e) = absurd (false≢true (sym (never_to t a b e (a + k) (omega arith) (omega (arith, below))) ∙ here))
      go (inr e) = e

  pub never_from_all : {F : Type 0} {g : Mut F (ℕ × Unit {0}) Bool} (u : Range ℕ) (f : F) (r : Bool)
      → (xs : List ℕ) × (o : Option ℕ) × (j : F) × YieldsThen nat_range_steps (record { start = a; end = b }) xs o u
      × FoldsTo (λ p x q. Called g p (x, tt) true q) f xs j
      × MatchOption o (r ≡ true) (λ x. (r ≡ false) × ((h : F) × Called g j (x, tt) false h))
      → ((x : ℕ) (v : Bool) (q : F) → Called g f (x, tt) v q → (q ≡ f) × (t x ≡ not v)) → r ≡ never t a b
  never_from_all u f r ran each = go r (cases_from_all u f r (λ x. t x ≡ false) (λ x. t x ≡ true) ran (YieldsList-from_range a b (b - a) refl refl)
      (λ x q k. each x true q k) (λ x q k. (each x false q k).1))
    where
      go : (r : Bool) → MatchBool r (AllWithin (λ x. t x ≡ false) (range_with_len a (b - a)) 0 (length (range_with_len a (b - a))))
          ((k : ℕ) × (k < length (range_with_len a (b - a))) × HoldsAt (λ x. t x ≡ true) (range_with_len a (b - a)) k) → r ≡ never t a b
      go true h = sym (all_pass h)
      go false h = sym (one_stops h.0 h.1 h.2)

leb_not_ltb : (a b : ℕ) → leb b a ≡ not (ltb a b)
leb_not_ltb a b = go (side b a)
  where
    go : (a < b) ⊎ (b ≤ a) → leb b a ≡ not (ltb a b)
    go (inl h) = rw (lt-ltb a b h, lt-leb b a h)
    go (inr h) = rw (le-ltb a b h, le-leb b a h)

-- a rank that is not below the next, as a test of the two
pub falters_not : (rank : ℕ → ℕ) (v : ℕ) → falters rank v ≡ not (ltb (rank v) (rank (v + 1)))
falters_not rank v = rw add-one (leb_not_ltb (rank v) (rank (suc v)))
