-- The children of a node stand in its text by rising smallest sample, each once; and behind the last bracket of a text no support stands.
-- Assumes nothing.
use Prim.Native.Nat.{ℕ, zero, suc, ◌+◌, ◌<◌}
use Rattle.std.specs.Prelude.{◌≡◌, refl, Bool, ◌&&◌, length}
use Rattle.std.proofs.Common.{sym, subst, ◌∙◌, ⊎_elim, arith}
use mathlib.Core.List.{List, [], ◌∷◌, ◌++◌, append_assoc, Memᴰ}
use Rattle.std.proofs.Math.Dec.{eqb}
use borrow.Author.Tests.{eqb-true, eq-eqb, le-ltb}
use Rattle.trees.specs.Lists.{range, filter, count}
use Rattle.trees.specs.Groups.{lowest}
use Rattle.trees.specs.Rows.{nodes, parent, root_mark, child_of, group_at}
use Rattle.trees.specs.Valid.{Valid}
use Rattle.trees.proofs.BoolLaws.{and_l, and_r, and_both}
use Rattle.trees.proofs.ListLaws.{in-range, range_cons, range_none}
use Rattle.newick.specs.Bytes.{opening_byte, closing_byte, semicolon_byte}
use Rattle.newick.specs.RowText.{Wanted, gather, nodes_at, by_lowest, children_of, RisesBy, listed, mark_text, node_text, root_of, written}
use Rattle.newick.proofs.ListedLaws.{count_unique, count_filtered, length_filter, in_filter}
use Rattle.newick.proofs.FilterLaws.{filter_append, one_long, in_gather}
use Rattle.newick.proofs.ChildLaws.{lowest_differ, root_at}

rises_append : (key : ℕ → ℕ) (xs ys : List ℕ) → RisesBy key xs → RisesBy key ys
    → ((x y : ℕ) → Memᴰ x xs → Memᴰ y ys → key x < key y)
    → RisesBy key (xs ++ ys)
rises_append key [] ys p q h = q
rises_append key (x ∷ xs) ys p q h = (
  λ y m. ⊎_elim (p.0 y) (h x y (mathlib.Core.List.Memᴰ.head refl)) (mathlib.Core.List.Memᴰ.append_cases xs m),
  rises_append key xs ys p.1 q (λ z y m. h z y (mathlib.Core.List.Memᴰ.tail m)),
)

-- ---- the children of v

module _ (n : ℕ) (r : List ℕ) (ok : Valid n r) (v : ℕ) (h : v < nodes r) where
  abbrev key : ℕ → ℕ
  key u = lowest (group_at n r u)

  in_bucket : (s c : ℕ) → Memᴰ c (filter (child_of r v) (nodes_at n r s)) → (c < nodes r) × (key c ≡ s) × (parent r c ≡ v)
  in_bucket s c m =
      let t = in_filter (child_of r v) m in
      let b = in_filter (λ u. eqb (key u) s) t.0 in
      ((in-range 0 (nodes r) c b.0).1, eqb-true (key c) s b.1, eqb-true (parent r c) v t.1)

  -- at most one child of v has the smallest sample s
  bucket_rises : (s : ℕ) (xs : List ℕ) → filter (child_of r v) (nodes_at n r s) ≡ xs → RisesBy key xs
  bucket_rises s [] e = tt
  bucket_rises s (x ∷ xs) e =
      let m : Memᴰ x (filter (child_of r v) (nodes_at n r s)) = rw e (mathlib.Core.List.Memᴰ.head refl) in
      let b = in_bucket s x m in
      let both : ℕ → Bool = λ u. eqb (key u) s && child_of r v u in
      let one : count both (range 0 (nodes r)) ≡ 1 = count_unique both 0 (nodes r) x (omega arith) b.0
      (and_both _ _ (eq-eqb (key x) s b.1) (eq-eqb (parent r x) v b.2))
      (λ c i k t. lowest_differ n r ok v x c h b.0 k b.2 (eqb-true (parent r c) v (and_r (eqb (key c) s) (child_of r v c) t))
      (b.1 ∙ sym (eqb-true (key c) s (and_l (eqb (key c) s) (child_of r v c) t)))) in
      let l : length (filter (child_of r v) (nodes_at n r s)) ≡ 1 =
      length_filter (child_of r v) (nodes_at n r s) ∙ count_filtered (λ u. eqb (key u) s) (child_of r v) (range 0 (nodes r)) ∙ one in
      subst (RisesBy key) (sym (one_long x _ l m) ∙ e) (λ y k. absurd (mathlib.Core.List.Memᴰ.not-nil k), tt)

  from_rises : (k s : ℕ) → s + k ≡ n → RisesBy key (filter (child_of r v) (gather (nodes_at n r) (range s n)))
  unfolding gather filter
  from_rises zero s e = rw (range_none s n (omega arith)) tt
  from_rises (suc k) s e = rw (range_cons s n (omega arith), filter_append)
      (rises_append key (filter (child_of r v) (nodes_at n r s)) (filter (child_of r v) (gather (nodes_at n r) (range (suc s) n)))
      (bucket_rises s _ refl) (from_rises k (suc s) (omega arith)) later)
    where
      later : (x y : ℕ) → Memᴰ x (filter (child_of r v) (nodes_at n r s))
          → Memᴰ y (filter (child_of r v) (gather (nodes_at n r) (range (suc s) n))) → key x < key y
      later x y m q =
          let t = in_filter (child_of r v) {xs = gather (nodes_at n r) (range (suc s) n)} q in
          let g = in_gather (nodes_at n r) y (range (suc s) n) t.0 in
          let b = in_filter (λ u. eqb (key u) g.0) {xs = range 0 (nodes r)} g.2 in
          omega (arith, (in_bucket s x m).1, eqb-true (key y) g.0 b.1, in-range (suc s) n g.0 g.1)

  -- the children of a node rise by smallest sample (RULES 14.10)
  pub children_rise : RisesBy (λ u. lowest (group_at n r u)) (children_of n r v)
  unfolding children_of by_lowest
  children_rise = from_rises n 0 (omega arith)

-- ---- the end of a text

-- the last bracket stands right before the semicolon, with supports and without (RULES 14.11)
pub written_ends : (n : ℕ) (r : List ℕ) → Valid n r → (w : Wanted)
    → (l : List ℕ) × (written n r w ≡ l ++ (closing_byte ∷ semicolon_byte ∷ []))
unfolding written node_text
written_ends n r ok w = go (nodes r) (omega (arith, ok.low))
  where
    v : ℕ
    v = root_of n r

    inside : ℕ → List ℕ
    inside f = opening_byte ∷ listed (node_text f n r w) (children_of n r v)

    unmarked : mark_text r w v ≡ []
    unmarked = rw (eq-eqb (parent r v) root_mark (root_at n r ok).2)

    go : (f : ℕ) → 0 < f → (l : List ℕ) × (node_text f n r w v ++ (semicolon_byte ∷ []) ≡ l ++ (closing_byte ∷ semicolon_byte ∷ []))
    go zero i = absurd (omega arith)
    go (suc f) i = (
      inside f,
      rw (le-ltb v n (root_at n r ok).0, unmarked)
          (append_assoc (inside f) (closing_byte ∷ []) (semicolon_byte ∷ [])),
    )
