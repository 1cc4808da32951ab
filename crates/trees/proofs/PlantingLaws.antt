-- Planting: the row of a family has just its groups, and is a standard row. Assumes nothing.
use Prim.Native.Nat.{ℕ, zero, suc, ◌+◌, ◌-◌, ◌≤◌, ◌<◌, zero-le}
use Rattle.std.specs.Prelude.{◌≡◌, Bool, ◌&&◌, ◌||◌, not, cond, eqb, ltb, take}
use Rattle.std.proofs.Math.Path.{refl}
use Rattle.std.proofs.Common.{sym, ◌∙◌, subst, add-sub_of_le, arith}
use mathlib.Core.List.{List, []}
use Rattle.std.proofs.Math.Bool.{true, false}
use Rattle.std.proofs.Math.Nat.{zero-add}
use Rattle.std.proofs.Math.ListN.{length}
use Rattle.std.proofs.Math.Seq.{take-length}
use borrow.Author.Tests.{lt-ltb, le-ltb, eq-eqb, ne_eqb}
use Rattle.trees.specs.Groups.{Group, has, lowest}
use Rattle.trees.specs.Rows.{nodes, parent, root_mark, meets, group_at, inner}
use Rattle.trees.specs.Checks.{most_samples, children}
use Rattle.trees.specs.Valid.{Valid, Standard}
use Rattle.trees.specs.Numbering.{last_with, row_of}
use Rattle.trees.proofs.ListLaws.{tabulate_eq}
use Rattle.trees.specs.Falls.{Falls}
use Rattle.trees.proofs.NeverLaws.{Tri, less, equal, more, tri}
use Rattle.trees.proofs.MemberLaws.{in_at}
use Rattle.trees.specs.Groups.{nth}
use Rattle.trees.proofs.RowOfLaws.{last_suc, nodes_row, length_row, filler_row, parent_leaf, parent_inner}
use Rattle.trees.proofs.TurnLaws.{falls_valid}
use Rattle.trees.proofs.FamilyLaws.{Family, Nested, Parents, two, nested, some, root, leaf_range, inner_range, two_children, fewer}

-- ---- climbing in the row of nested groups

-- whether v is met from p on, where p may be no node
abbrev above : ℕ → List ℕ → ℕ → ℕ → Bool
above f r v p = not (eqb p root_mark) && meets f r v p

module _ (n : ℕ) (gs : List Group) (few : n + length gs < root_mark) (nest : Nested gs) where
  skip : (i j s : ℕ) → has (nth gs i) s ≡ false → (ltb j i && has (nth gs j) s) ≡ (ltb j (suc i) && has (nth gs j) s)
  skip i j s q = go (tri i j)
    where
      go : Tri i j → (ltb j i && has (nth gs j) s) ≡ (ltb j (suc i) && has (nth gs j) s)
      go (less h) = rw (le-ltb j i (omega arith), le-ltb j (suc i) (omega arith))
      go (equal h) = rw (← h, q, le-ltb i i (omega arith), lt-ltb i (suc i) (omega arith))
      go (more h) = rw (lt-ltb j i h, lt-ltb j (suc i) (omega arith))

  step : (i j s : ℕ) → i < length gs → has (nth gs i) s ≡ true
      → (eqb (n + i) (n + j) || (ltb j i && has (nth gs j) (lowest (nth gs i)))) ≡ (ltb j (suc i) && has (nth gs j) s)
  step i j s b q = go (tri i j)
    where
      go : Tri i j → (eqb (n + i) (n + j) || (ltb j i && has (nth gs j) (lowest (nth gs i)))) ≡ (ltb j (suc i) && has (nth gs j) s)
      go (less h) = rw (ne_eqb (n + i) (n + j) (λ e. omega arith), le-ltb j i (omega arith), le-ltb j (suc i) (omega arith))
      go (equal h) = rw (← h, eq-eqb (n + i) (n + i) refl, lt-ltb i (suc i) (omega arith), q)
      go (more h) = rw (ne_eqb (n + i) (n + j) (λ e. omega arith), lt-ltb j i h, lt-ltb j (suc i) (omega arith)) (sym (nest.all i j s h b q))

  -- the climb from the last of the first i groups that has s meets just those of them that have s
  climb : (i f j s : ℕ) → i ≤ f → i ≤ length gs → above f (row_of n gs) (n + j) (last_with s (take i gs) n root_mark) ≡ (ltb j i && has (nth gs j) s)
  unfolding last_with meets
  climb zero f j s a b = rw (le-ltb j 0 zero-le)
  climb (suc i) zero j s a b = absurd (omega arith)
  climb (suc i) (suc f) j s a b = rw (last_suc s gs i n root_mark b)
      (go (has (nth gs i) s) refl (climb i (suc f) j s (omega arith) (omega arith)) (climb i f j (lowest (nth gs i)) (omega arith) (omega arith)))
    where
      go : (x : Bool) → has (nth gs i) s ≡ x → above (suc f) (row_of n gs) (n + j) (last_with s (take i gs) n root_mark) ≡ (ltb j i && has (nth gs j) s)
          → above f (row_of n gs) (n + j) (last_with (lowest (nth gs i)) (take i gs) n root_mark) ≡ (ltb j i && has (nth gs j) (lowest (nth gs i)))
          → above (suc f) (row_of n gs) (n + j) (cond x (n + i) (last_with s (take i gs) n root_mark)) ≡ (ltb j (suc i) && has (nth gs j) s)
      go false q h k = h ∙ skip i j s q
      go true q h k = rw (ne_eqb (n + i) root_mark (λ e. omega arith), parent_inner n gs i b, k) (step i j s b q)

  met : (f j s : ℕ) → length gs < f → j < length gs → s < n → meets f (row_of n gs) (n + j) s ≡ has (nth gs j) s
  unfolding meets
  met zero j s a b c = absurd (omega arith)
  met (suc f) j s a b c = rw (ne_eqb s (n + j) (λ e. omega arith), parent_leaf n gs s c)
      (rw (take-length, lt-ltb j (length gs) b) at (climb (length gs) f j s (omega arith) (omega arith)))

  group_at_lem : (j : ℕ) → 0 < n → j < length gs → length (nth gs j) ≡ n → group_at n (row_of n gs) (n + j) ≡ nth gs j
  unfolding group_at
  group_at_lem j z b l = rw nodes_row (tabulate_eq (nth gs j) n _ 0 false l (λ s c. rw zero-add (met (n + length gs) j s (omega arith) b c)))

  inner_row : 0 < n → ((j : ℕ) → j < length gs → length (nth gs j) ≡ n) → inner n (row_of n gs) ≡ gs
  unfolding inner
  inner_row z l = rw nodes_row (tabulate_eq gs (n + length gs - n) _ n [] (omega arith) (λ j b. group_at_lem j z (omega arith) (l j (omega arith))))

-- ---- a family's row

module _ (n : ℕ) (gs : List Group) (ok : Family n gs) (most : n ≤ most_samples) where
  room : n + length gs < root_mark
  room = omega (arith, fewer n gs ok)

  -- THE PLANTING THEOREM
  pub planted : inner n (row_of n gs) ≡ gs
  planted = inner_row n gs room (nested n gs ok) (omega (arith, two n gs ok)) (λ j h. ok.long _ (in_at gs j h))

  is : Parents n gs root_mark (parent (row_of n gs))
  is = record { leaf = parent_leaf n gs; inner = parent_inner n gs }

  -- an inner node by its index
  by_inner : (P : ℕ → Type 0) → ((i : ℕ) → i < length gs → P (n + i)) → (v : ℕ) → n ≤ v → v < n + length gs → P v
  by_inner P b v a h = subst P (add-sub_of_le a) (b (v - n) (omega arith))

  down : (v : ℕ) → n < v → v < n + length gs → (n ≤ parent (row_of n gs) v) × (parent (row_of n gs) v < v)
  down v a h = by_inner (λ u. n < u → (n ≤ parent (row_of n gs) u) × (parent (row_of n gs) u < u))
      (λ i k l. inner_range n gs ok root_mark _ is i (omega arith) k) v (omega arith) h a

  planted_falls : Falls n (row_of n gs)
  planted_falls = record {
    most = most;
    words = length_row n gs ∙ omega (arith, fewer n gs ok);
    low = rw nodes_row (omega (arith, some n gs ok));
    high = rw nodes_row (omega (arith, fewer n gs ok));
    leaf = λ s h. rw nodes_row (leaf_range n gs ok root_mark _ is s h);
    root = root n gs ok root_mark _ is;
    down = rw nodes_row down;
  }

  planted_two : (v : ℕ) → n ≤ v → v < nodes (row_of n gs) → 2 ≤ children (row_of n gs) v
  planted_two = rw nodes_row (by_inner _ (two_children n gs ok root_mark _ is))

  pub planted_valid : Valid n (row_of n gs)
  planted_valid = falls_valid n (row_of n gs) planted_falls (rw nodes_row (λ w a b. filler_row n gs w a)) (λ v a h. omega (arith, planted_two v a h))

  pub planted_standard : Standard n (row_of n gs)
  planted_standard = record { valid = planted_valid; two = planted_two; strict = rw planted ok.strict }
