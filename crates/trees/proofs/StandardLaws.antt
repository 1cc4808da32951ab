-- A standard row: its inner groups are a family, it is the row of them, and its groups settle it. Assumes nothing.
use Prim.Native.Nat.{ℕ, zero, suc, ◌+◌, ◌-◌, ◌≤◌, ◌<◌}
use Rattle.std.specs.Prelude.{◌≡◌, refl, ◌↔◌, ◌⊎◌, List, true, false, ◌&&◌, ltb, eqb, length, get_or, take}
use Rattle.std.proofs.Math.Path.{sym}
use Rattle.std.proofs.Common.{ap, ◌∙◌, subst, inl, inr, add-zero, arith, ext_get_or}
use Rattle.std.proofs.Math.Logic.{⊎_elim}
use Rattle.std.proofs.Math.Nat.{add-sub_of_le}
use Rattle.std.proofs.Math.Seq.{take-length}
use borrow.Author.Tests.{eqb-true, eqb-false, ltb-true, ltb-false, le-ltb}
use Rattle.trees.specs.Groups.{Group, has, whole, lowest, before}
use Rattle.trees.specs.Rows.{nodes, parent, root_mark, child_of, group_at, inner}
use Rattle.trees.specs.Checks.{children, judged}
use Rattle.trees.specs.Valid.{Valid, Standard, is_accepted, in_order, branches, standard}
use Rattle.trees.specs.Rooted.{Rooted}
use Rattle.trees.specs.Numbering.{last_with, row_of}
use Rattle.trees.proofs.BoolLaws.{and_l, and_r, and_both, not_yes, decide}
use Rattle.trees.proofs.NeverLaws.{never_to, never_from}
use Rattle.trees.proofs.GroupLaws.{within_eq, lowest_has}
use Rattle.trees.proofs.OrderLaws.{Earlier, before_irrefl, before_size, before_earlier}
use Rattle.trees.proofs.MemberLaws.{strict_table, strict_at, in_order_strict, strict_in_order}
use Rattle.trees.specs.Groups.{nth}
use Rattle.trees.proofs.ValidLaws.{accepted_to, judged_valid, valid_judged}
use Rattle.trees.proofs.RowOfLaws.{nodes_row, parent_leaf, parent_inner, filler_row}
use Rattle.trees.proofs.FamilyLaws.{Family, last_is, first_whole}
use Rattle.trees.proofs.PlantingLaws.{planted_valid}
use Rattle.trees.proofs.WayLaws.{meets_refl, meets_past, meets_line}
use Rattle.trees.proofs.RowLaws.{Above, length_group, group_has, in_group, length_inner, at_inner, in_inner}
use Rattle.trees.proofs.RowLaws.{no_mark, own_parent, child_above, below_child, no_leaf_above, top_of, above_within}
use Rattle.trees.proofs.RowLaws.{parent_range, valid_rooted, group_agree, group_full, one_root, inner_two, whole_inner}

-- ---- the test is the record

pub standard_to : (n : ℕ) (r : List ℕ) → standard n r ≡ true → Standard n r
unfolding standard
standard_to n r e = record {
  valid = judged_valid n r (accepted_to (judged n r) (and_l (is_accepted (judged n r)) (branches n r && in_order (inner n r)) e));
  two = λ v a h. ltb-false (children r v) 2 (never_to (λ u. ltb (children r u) 2) n (nodes r)
      (and_l (branches n r) (in_order (inner n r)) (and_r (is_accepted (judged n r)) _ e)) v a h);
  strict = in_order_strict (inner n r) (and_r (branches n r) _ (and_r (is_accepted (judged n r)) _ e));
}

pub standard_from : (n : ℕ) (r : List ℕ) → Standard n r → standard n r ≡ true
unfolding standard
standard_from n r ok = and_both (is_accepted (judged n r)) (branches n r && in_order (inner n r)) (ap is_accepted (valid_judged n r ok.valid))
    (and_both (branches n r) (in_order (inner n r)) (never_from (λ u. ltb (children r u) 2) n (nodes r) (λ v a h. le-ltb (children r v) 2 (ok.two v a h)))
    (strict_in_order (inner n r) ok.strict))

module _ (n : ℕ) (r : List ℕ) (std : Standard n r) where
  ok : Valid n r
  ok = std.valid

  up : Rooted n r
  up = valid_rooted n r ok

  pub standard_family : Family n (inner n r)
  standard_family = record {
    strict = std.strict;
    long = λ g m. let t = in_inner n r g m in rw (← t.3) (length_group n r t.0);
    big = λ g m. let t = in_inner n r g m in rw (← t.3) (inner_two n r std t.0 t.1 t.2);
    agree = λ g h m k. let t = in_inner n r g m in let u = in_inner n r h k in rw (← t.3, ← u.3) (group_agree n r ok t.0 u.0);
    top = whole_inner n r ok;
  }

  -- the root is node n (RULES 4.2): its group is the whole
  pub root_whole : group_at n r n ≡ whole n
  root_whole = ap (group_at n r) (sym (add-zero n)) ∙ sym (at_inner n r 0 (omega (arith, ok.low))) ∙ first_whole n (inner n r) standard_family

  -- an inner node comes before each of a higher number
  pub node_before : (v w : ℕ) → n ≤ v → v < w → w < nodes r → before (group_at n r v) (group_at n r w) ≡ true
  node_before v w a h k =
      let e : n + (v - n) ≡ v = add-sub_of_le a in
      let f : n + (w - n) ≡ w = add-sub_of_le (omega arith) in
      rw (at_inner n r (v - n) (omega arith), at_inner n r (w - n) (omega arith), e, f) at
      (strict_at (inner n r) std.strict (w - n) (v - n) (omega arith) (omega (arith, length_inner n r)))

  -- different inner nodes have different groups
  pub standard_distinct : (v w : ℕ) → n ≤ v → v < w → w < nodes r → group_at n r v ≡ group_at n r w → ⊥
  standard_distinct v w a h k e = before_irrefl (group_at n r w) (rw e at (node_before v w a h k))

  -- a node is above none of a lower number
  pub not_up : (v w : ℕ) → n ≤ v → v < w → w < nodes r → Above r w v → ⊥
  not_up v w a h k m = standard_distinct v w a h k
      (within_eq (group_at n r v) (group_at n r w) (length_group n r v ∙ sym (length_group n r w)) (above_within n r up v w m)
      (before_size (group_at n r v) (group_at n r w) (node_before v w a h k)))

  -- ---- the last of the groups below c that has s is the parent of u, where u has s and is not among those, nor above one of them

  last_parent : (c u s : ℕ) → c ≤ length (inner n r) → u < nodes r → s < n → Above r u s → child_of r root_mark u ≡ false → parent r u < n + c
      → ((l : ℕ) → l < c → (u ≡ n + l → ⊥) × (Above r u (n + l) → ⊥)) → last_with s (take c (inner n r)) n root_mark ≡ parent r u
  last_parent c u s a h z m e b d =
      last_is n root_mark (inner n r) c (parent r u - n) s (omega (arith, p)) a
      (rw (at_inner n r (parent r u - n) (omega (arith, p)), q)
      (in_group n r (parent r u) s z (below_child n r up u (parent r u) s h p.1 (omega (arith, ok.low)) refl m)))
      (λ l i k. not_yes _ (λ f. none l i k f))
      ∙ q
    where
      p : (n ≤ parent r u) × (parent r u < nodes r)
      p = parent_range n r ok u h e

      q : n + (parent r u - n) ≡ parent r u
      q = add-sub_of_le p.0

      none : (l : ℕ) → parent r u - n < l → l < c → has (nth (inner n r) l) s ≡ true → ⊥
      none l i k f =
          let j : n + l < nodes r = omega (arith, length_inner n r) in
          ⊎_elim (d l k).1 (λ x. not_up (parent r u) (n + l) p.0 (omega (arith, p.0)) j (meets_past r (nodes r) (n + l) u (d l k).0 x))
          (meets_line r (nodes r) (n + l) u s (group_has n r (n + l) s (rw (at_inner n r l j) at f)).1 m)

  leaf_same : (s : ℕ) → s < n → last_with s (inner n r) n root_mark ≡ parent r s
  leaf_same s h =
      let p = ok.leaf s h in
      rw take-length at (last_parent (length (inner n r)) s s (omega arith) (omega (arith, ok.low)) h (meets_refl r (nodes r) s)
      (no_mark n r up (parent r s) p.1) (omega (arith, length_inner n r))
      (λ l k. (λ q. omega arith, λ m. omega (arith, no_leaf_above n r up s (n + l) h (omega (arith, length_inner n r)) m))))

  -- the parent of an inner node is the mark, of the first alone, or an inner node of a smaller number
  pub parent_below : (v : ℕ) → n ≤ v → v < nodes r
      → ((v ≡ n) × (parent r v ≡ root_mark)) ⊎ ((child_of r root_mark v ≡ false) × (n ≤ parent r v) × (parent r v < v))
  parent_below v a h = go (decide (child_of r root_mark v))
    where
      first : child_of r root_mark v ≡ true → (eqb v n ≡ true) ⊎ (eqb v n ≡ false) → v ≡ n
      first e (inl q) = eqb-true v n q
      first e (inr q) =
          let t = top_of n r up n ok.low in
          let x : t.0 ≡ v = one_root n r ok t.0 v t.1 a t.2 h t.3 (eqb-true (parent r v) root_mark e) in
          absurd (not_up n v (omega arith) (omega (arith, eqb-false v n q)) h (rw x at t.4))

      less : child_of r root_mark v ≡ false → (ltb (parent r v) v ≡ true) ⊎ (ltb (parent r v) v ≡ false) → parent r v < v
      less e (inl q) = ltb-true (parent r v) v q
      less e (inr q) = absurd (back (decide (eqb (parent r v) v)))
        where
          p : (n ≤ parent r v) × (parent r v < nodes r)
          p = parent_range n r ok v h e

          back : (eqb (parent r v) v ≡ true) ⊎ (eqb (parent r v) v ≡ false) → ⊥
          back (inl x) = own_parent n r up v h (eqb-true _ _ x)
          back (inr x) = not_up v (parent r v) a (omega (arith, ltb-false (parent r v) v q, eqb-false (parent r v) v x)) p.1
              (child_above n r up v (parent r v) h p.1 refl)

      go : (child_of r root_mark v ≡ true) ⊎ (child_of r root_mark v ≡ false)
          → ((v ≡ n) × (parent r v ≡ root_mark)) ⊎ ((child_of r root_mark v ≡ false) × (n ≤ parent r v) × (parent r v < v))
      go (inl e) = inl (first e (decide (eqb v n)), eqb-true (parent r v) root_mark e)
      go (inr e) = inr (e, (parent_range n r ok v h e).0, less e (decide (ltb (parent r v) v)))

  inner_same : (j : ℕ) → n + j < nodes r → last_with (lowest (nth (inner n r) j)) (take j (inner n r)) n root_mark ≡ parent r (n + j)
  unfolding last_with
  inner_same j h = ⊎_elim (λ q. top q.0 q.1) (λ q. other q.0 q.2) (parent_below (n + j) (omega arith) h)
    where
      s : ℕ
      s = lowest (nth (inner n r) j)

      full : has (group_at n r (n + j)) s ≡ true
      full = subst (λ (g : Group). has g s ≡ true) (at_inner n r j h)
          (lowest_has (nth (inner n r) j) (rw (at_inner n r j h) (omega (arith, inner_two n r std (n + j) (omega arith) h))))

      top : n + j ≡ n → parent r (n + j) ≡ root_mark → last_with s (take j (inner n r)) n root_mark ≡ parent r (n + j)
      top q e = let z : j ≡ 0 = omega arith in ap (λ (c : ℕ). last_with s (take c (inner n r)) n root_mark) z ∙ sym e

      other : child_of r root_mark (n + j) ≡ false → parent r (n + j) < n + j → last_with s (take j (inner n r)) n root_mark ≡ parent r (n + j)
      other e q = let t = group_has n r (n + j) s full in
          last_parent j (n + j) s (omega (arith, length_inner n r)) h t.0 t.1 e q
          (λ l i. (λ x. omega arith, not_up (n + l) (n + j) (omega arith) (omega arith) h))

  same_word : (w : ℕ) → w < length (row_of n (inner n r)) → get_or (row_of n (inner n r)) w 0 ≡ get_or r w 0
  unfolding parent nodes
  same_word zero h = nodes_row n (inner n r) ∙ omega (arith, length_inner n r, ok.low)
  same_word (suc v) h = go (decide (ltb v n)) (decide (ltb v (nodes r)))
    where
      go : (ltb v n ≡ true) ⊎ (ltb v n ≡ false) → (ltb v (nodes r) ≡ true) ⊎ (ltb v (nodes r) ≡ false) → parent (row_of n (inner n r)) v ≡ parent r v
      go (inl p) q = parent_leaf n (inner n r) v (ltb-true v n p) ∙ leaf_same v (ltb-true v n p)
      go (inr p) (inl q) =
          let e : n + (v - n) ≡ v = add-sub_of_le (ltb-false v n p) in
          let l : v < nodes r = ltb-true v (nodes r) q in
          rw e at (parent_inner n (inner n r) (v - n) (omega (arith, length_inner n r, ltb-false v n p)) ∙ inner_same (v - n) (omega arith))
      go (inr p) (inr q) =
          let l : nodes r ≤ v = ltb-false v (nodes r) q in
          filler_row n (inner n r) (suc v) (omega (arith, length_inner n r, ok.low))
          ∙ sym (ok.filler (suc v) (omega arith) (omega (arith, (planted_valid n (inner n r) standard_family ok.most).words)))

  -- a standard row is the row of its inner groups
  pub standard_row : row_of n (inner n r) ≡ r
  standard_row = ext_get_or 0 (row_of n (inner n r)) r ((planted_valid n (inner n r) standard_family ok.most).words ∙ sym ok.words) same_word

-- `standard` is RULES 4.1 and 4.5, for every valid row: each inner node has two children or more, and of any two the one with the lower number has
-- the earlier group
pub standard_order : (n : ℕ) (r : List ℕ) → Valid n r
    → (standard n r ≡ true) ↔ (((v : ℕ) → n ≤ v → v < nodes r → 2 ≤ children r v)
    × ((u v : ℕ) → n ≤ u → u < v → v < nodes r → Earlier (group_at n r u) (group_at n r v)))
unfolding inner
standard_order n r ok = (
  λ e. ((standard_to n r e).two, λ u v a h k. (each u v h k).0 (node_before n r (standard_to n r e) u v a h k)),
  λ f. standard_from n r record {
    valid = ok;
    two = f.0;
    strict = strict_table (nodes r - n) (group_at n r) n (λ u v a h k. let l : v < nodes r = omega (arith, ok.low) in (each u v h l).1 (f.1 u v a h l));
  },
)
  where
    each : (u v : ℕ) → u < v → v < nodes r → (before (group_at n r u) (group_at n r v) ≡ true) ↔ Earlier (group_at n r u) (group_at n r v)
    each u v h k = before_earlier (group_at n r u) (group_at n r v) (length_group n r u ∙ sym (length_group n r v)) (group_agree n r ok u v)
        (group_full n r ok u (omega arith)) (group_full n r ok v k)
