-- What the loops that look a study over keep: what is left decides the whole. Assumes nothing.
use Prim.Native.Nat.{ℕ, suc, ◌+◌, ◌-◌, ◌<◌, ◌≤◌}
use mathlib.Core.Path.{◌≡◌, refl, ap, ◌∙◌}
use mathlib.Core.List.{List, [], ◌∷◌}
use mathlib.Core.Bool.{Bool, true, false, ◌&&◌, not}
use native.Mathlib.Nat.{add-zero}
use native.Mathlib.Numerals.{add-one}
use native.Mathlib.Omega.{arith}
use lib.Dec.{ltb, leb}
use lib.ListN.{length, get_or, take, drop, length-drop}
use lib.Seq.{get_or-drop, length-take-le}
use Rattle.std.proofs.lemmas.Bool.Decides.{nat_tests}
use borrow.Author.Tests.{leb-true, not-true}
use Rattle.std.specs.List.{list_all, starts_with}
use Rattle.std.specs.Cmp.Lexicographic.{pointwise}
use lib.Dec.{eqb}
use Rattle.trees.specs.Lists.{tabulate}
use Rattle.trees.specs.Checks.{fewest_samples, most_samples, row_words, outside}
use Rattle.trees.specs.Reporting.{Run}
use Rattle.trees.proofs.BoolLaws.{and_l, and_r, not_yes}
use Rattle.trees.proofs.CheckLaws.{outside_not}
use Rattle.runs.specs.Runs.{every, rising}
use Rattle.runs.specs.Words.{header, samples, in_force, header_words, row_offset, slot_words, slot_start, read_run, run_at, runs, most_runs, capacity}
use Rattle.runs.specs.Formed.{same_words, is_stored, zero_from, headed, sized, well_formed}
use Rattle.runs.proofs.WordLaws.{capacity_short, capacity_most, capacity_room}
use Rattle.runs.proofs.FormedLaws.{formed_to}
use Rattle.study.specs.Scans.{sizes_fit, follows, stored_from}

-- ---- the library's tests of lists

eqb_swap : (x y : ℕ) → eqb x y ≡ eqb y x
eqb_swap x y = grind (arith, nat_tests)

-- whether words begin with others
pub starts_same : (xs ys : List ℕ) → pointwise eqb xs ys ≡ same_words ys xs
unfolding same_words
starts_same [] [] = refl
starts_same [] (y ∷ ys) = refl
starts_same (x ∷ xs) [] = refl
starts_same (x ∷ xs) (y ∷ ys) = rw (eqb_swap x y, starts_same xs ys)

-- whether all pass a test
pub all_every : {A : Type 0} (t : A → Bool) (xs : List A) → list_all t xs ≡ every t xs
unfolding every
all_every t [] = refl
all_every t (x ∷ xs) = rw (all_every t xs)

-- ---- slot i of k, at word p

-- the row in it is as long as it should be
pub row_long : (n p : ℕ) (w : List ℕ) → p + slot_words n ≤ length w → length (read_run n (drop p w)).row ≡ row_words n
row_long n p w h = length-take-le (row_words n) (drop row_offset (drop p w)) (omega (arith, length-drop row_offset (drop p w), length-drop p w))

pub slot_named : (n p : ℕ) (w : List ℕ) → (read_run n (drop p w)).identifier ≡ get_or w p 0
slot_named n p w = get_or-drop p w 0 0 ∙ ap (λ (i : ℕ). get_or w i 0) (add-zero p)

table_next : (f : ℕ → Run) (k i : ℕ) → i < k → tabulate (k - i) f i ≡ f i ∷ tabulate (k - (i + 1)) f (i + 1)
unfolding tabulate
table_next f k i h = let e : k - i ≡ suc (k - (i + 1)) = omega arith in rw (e, add-one i)

table_end : (f : ℕ → Run) (k i : ℕ) → k ≤ i → tabulate (k - i) f i ≡ []
unfolding tabulate
table_end f k i h = let e : k - i ≡ 0 = omega arith in rw e

module _ (w : List ℕ) (n k i p : ℕ) (h : i < k) (e : p ≡ slot_start n i) where
  left : List Run
  left = tabulate (k - (i + 1)) (run_at n w) (i + 1)

  split : tabulate (k - i) (run_at n w) i ≡ read_run n (drop p w) ∷ left
  unfolding left
  split = rw e (table_next (run_at n w) k i h)

  stored_next : (b : ℕ) → stored_from n b (tabulate (k - i) (run_at n w) i) ≡ follows n b (read_run n (drop p w)) && stored_from n (get_or w p 0) left
  unfolding rising every
  stored_next b = rw (split, ← slot_named n p w)
      (swap (ltb b (read_run n (drop p w)).identifier) (rising (read_run n (drop p w)).identifier left) (is_stored n (read_run n (drop p w)))
      (every (is_stored n) left))
    where
      swap : (a b c d : Bool) → (a && b) && (c && d) ≡ (a && c) && (b && d)
      swap true true true d = refl
      swap true true false d = refl
      swap true false true d = refl
      swap true false false d = refl
      swap false b c d = refl

  pub stored_on : (b : ℕ) → follows n b (read_run n (drop p w)) ≡ true
      → stored_from n b (tabulate (k - i) (run_at n w) i) ≡ stored_from n (get_or w p 0) (tabulate (k - (i + 1)) (run_at n w) (i + 1))
  unfolding left
  stored_on b q = stored_next b ∙ rw q

  pub stored_off : (b : ℕ) → follows n b (read_run n (drop p w)) ≡ false → stored_from n b (tabulate (k - i) (run_at n w) i) ≡ false
  stored_off b q = stored_next b ∙ rw q

pub stored_end : (w : List ℕ) (n k i : ℕ) → k ≤ i → (b : ℕ) → stored_from n b (tabulate (k - i) (run_at n w) i) ≡ true
unfolding rising every
stored_end w n k i h b = rw (table_end (run_at n w) k i h)

-- ---- the whole test

-- what fitting sizes leave room for
pub record Fitting (len n k : ℕ) : Type 0 where
  pub least : fewest_samples ≤ n
  pub most : n ≤ most_samples
  pub few : k ≤ most_runs
  pub room : slot_start n k ≤ len

pub sizes_fitting : (len n k : ℕ) → sizes_fit len n k ≡ true → Fitting len n k
sizes_fitting len n k e = record { least = range.0; most = range.1; few = omega (arith, fits, capacity_most len n); room = capacity_room len n k one fits }
  where
    both : not (outside fewest_samples most_samples n) && leb 1 (capacity len n) ≡ true
    both = and_l _ (leb k (capacity len n)) e

    range : (fewest_samples ≤ n) × (n ≤ most_samples)
    range = outside_not fewest_samples most_samples n (not-true _ (and_l (not (outside fewest_samples most_samples n)) (leb 1 (capacity len n)) both))

    one : 1 ≤ capacity len n
    one = leb-true 1 (capacity len n) (and_r (not (outside fewest_samples most_samples n)) (leb 1 (capacity len n)) both)

    fits : k ≤ capacity len n
    fits = leb-true k (capacity len n) (and_r (not (outside fewest_samples most_samples n) && leb 1 (capacity len n)) (leb k (capacity len n)) e)

-- words too few for a header are no study
pub short_unformed : (w : List ℕ) → length w < header_words → well_formed w ≡ false
short_unformed w h = not_yes (well_formed w) (λ e. omega (arith, capacity_short (length w) (samples w) h, (formed_to w e).one))

-- the test is that of the header, of the sizes, of the slots and of the words after them
pub formed_parts : (w head : List ℕ) (n k : ℕ) → n ≡ samples w → k ≡ in_force w → head ≡ header n k
    → well_formed w ≡ starts_with eqb w head && sizes_fit (length w) n k && stored_from n 0 (tabulate k (run_at n w) 0)
    && list_all (λ x. eqb x 0) (drop (slot_start n k) w)
unfolding well_formed runs
formed_parts w head n k a b c =
    let e : head ≡ header (samples w) (in_force w) = c ∙ ap (λ (i : ℕ). header i k) a ∙ ap (header (samples w)) b in
    let e₁ : starts_with eqb w head ≡ headed w = rw e (starts_same (header (samples w) (in_force w)) (take header_words w)) in
    let e₂ : list_all (λ x. eqb x 0) (drop (slot_start n k) w) ≡ zero_from (slot_start n k) w = all_every (λ x. eqb x 0) (drop (slot_start n k) w) in
    rw (e₁, e₂, a, b) (assoc (headed w && sized w) _ _ _)
  where
    assoc : (p q r z : Bool) → p && q && r && z ≡ p && (q && r) && z
    assoc true q r z = refl
    assoc false q r z = refl
