-- A single branch has the group of its child, and renumbering leaves the inner nodes that are none. Assumes nothing.
use Rattle.std.specs.Prelude.{ℕ, zero, suc, ◌+◌, ◌≤◌, ◌<◌, ◌≡◌, refl, ◌⊎◌, List, Bool, true, false, ◌||◌, eqb, ltb, leb}
use Rattle.std.proofs.Common.{zero-le, sym, ap, ◌∙◌, inl, inr, ⊎_elim, zero-add, arith, eqb-true, eq-eqb, ltb-true, ltb-false, leb-true, leb-false}
use Rattle.std.proofs.lemmas.Bool.{false≢true, eqb-false}
use Rattle.trees.specs.Lists.{tabulate, range, first, weigh, count}
use Rattle.trees.specs.Groups.{size, same, list_first, before}
use Rattle.trees.specs.Rows.{nodes, parent, child_of, meets, ends, group_at, inner}
use Rattle.trees.specs.Checks.{accepted, ◌⊳◌, children, row_checks, judge_checks, judged}
use Rattle.trees.specs.Valid.{Valid, in_order, standard}
use Rattle.trees.specs.Numbering.{renumbered}
use Rattle.trees.specs.Choosing.{OneEach}
use Rattle.trees.specs.Case.{over_one}
use Rattle.trees.proofs.BoolLaws.{or_cases, or_r, decide}
use Rattle.trees.proofs.ListLaws.{count_two, range_in}
use Rattle.trees.proofs.GroupLaws.{within_size, within_eq}
use Rattle.trees.specs.Groups.{Within}
use Rattle.trees.proofs.WayLaws.{ends_up, ends_none}
use Rattle.trees.proofs.RowLaws.{Above, length_group, group_has, in_group, no_mark, above_trans, step_down}
use Rattle.trees.proofs.RowLaws.{child_inner, child_within, valid_rooted, some_child, leaf_beside, two_samples}
use Rattle.trees.proofs.NodeLaws.{in_line, big_inner}
use Rattle.trees.proofs.ChoosingLaws.{one_each_nodes}

-- whether a node is no single branch: it is a sample, or has two children or more
abbrev proper : ℕ → List ℕ → ℕ → Bool
proper n r v = ltb v n || leb 2 (children r v)

module _ (n : ℕ) (r : List ℕ) (ok : Valid n r) where
  pub only_child : (v c d : ℕ) → children r v < 2 → c < nodes r → d < nodes r → parent r c ≡ v → parent r d ≡ v → c ≡ d
  only_child v c d few h k p q = ⊎_elim (eqb-true c d)
      (λ e. absurd (omega (
        arith,
        count_two (child_of r v) (range 0 (nodes r)) c d (range_in 0 (nodes r) c zero-le h) (range_in 0 (nodes r) d zero-le k)
            (eqb-false c d e) (eq-eqb _ _ p) (eq-eqb _ _ q),
      )))
      (decide (eqb c d))

  -- A SINGLE BRANCH HAS THE GROUP OF ITS CHILD (RULES 2.5)
  pub single_group : (v c : ℕ) → v < nodes r → children r v < 2 → c < nodes r → parent r c ≡ v → group_at n r c ≡ group_at n r v
  single_group v c h few k p = sym (within_eq _ _ (length_group n r v ∙ sym (length_group n r c)) inside
      (within_size _ _ (child_within n r (valid_rooted n r ok) c v k h p)))
    where
      low : n ≤ v
      low = child_inner n r (valid_rooted n r ok) c v k h p

      inside : Within (group_at n r v) (group_at n r c)
      inside s e =
          let t = group_has n r v s e in
          let d = step_down n r (valid_rooted n r ok) v s t.1 (omega (arith, t.0, ok.low)) (λ q. omega (arith, t.0, low)) in
          in_group n r c s t.0 (rw (only_child v d.0 c few d.1 k d.2 p) at d.3)

  -- below each node there is one with its group that is no single branch
  proper_from : (d f v : ℕ) → f + d ≡ nodes r → v < nodes r → ends f r v ≡ false
      → (u : ℕ) × (u < nodes r) × (proper n r u ≡ true) × (group_at n r u ≡ group_at n r v)
  proper_from zero f v p h e = absurd (false≢true (sym e ∙ ap (λ (g : ℕ). ends g r v) (omega arith) ∙ ok.reach v h))
  proper_from (suc d) f v p h e = go (decide (ltb v n)) (decide (leb 2 (children r v)))
      (λ c k q. proper_from d (suc f) c (omega arith) k (ends_up r f c (rw q (no_mark n r (valid_rooted n r ok) v h)) ∙ (rw q e)))
    where
      go : (ltb v n ≡ true) ⊎ (ltb v n ≡ false) → (leb 2 (children r v) ≡ true) ⊎ (leb 2 (children r v) ≡ false)
          → ((c : ℕ) → c < nodes r → parent r c ≡ v → (u : ℕ) × (u < nodes r) × (proper n r u ≡ true) × (group_at n r u ≡ group_at n r c))
          → (u : ℕ) × (u < nodes r) × (proper n r u ≡ true) × (group_at n r u ≡ group_at n r v)
      go (inl q) w k = (v, h, rw q, refl)
      go (inr q) (inl w) k = (v, h, or_r (ltb v n) (leb 2 (children r v)) w, refl)
      go (inr q) (inr w) k =
          let c = some_child n r ok v (ltb-false v n q) h in
          let u = k c.0 c.1 c.2 in
          (u.0, u.1, u.2, u.3 ∙ single_group v c.0 h (leb-false 2 (children r v) w) c.1 c.2)

  proper_of : (v : ℕ) → v < nodes r → (u : ℕ) × (u < nodes r) × (proper n r u ≡ true) × (group_at n r u ≡ group_at n r v)
  proper_of v h = proper_from (nodes r) 0 v (zero-add _) h (ends_none r v)

  -- a node that is no single branch has a larger group than those below it
  proper_above : (v w : ℕ) → v < nodes r → w < nodes r → proper n r v ≡ true → (w ≡ v → ⊥) → Above r v w → group_at n r v ≡ group_at n r w → ⊥
  proper_above v w h k p x m e =
      let up = valid_rooted n r ok in
      let t = step_down n r up v w m k x in
      let a : n ≤ v = child_inner n r up t.0 v t.1 h t.2 in
      let two : 2 ≤ children r v = ⊎_elim (λ l. absurd (omega (arith, ltb-true v n l))) (leb-true 2 (children r v))
      (or_cases (ltb v n) (leb 2 (children r v)) p) in
      let b = leaf_beside n r ok v t.0 two h t.1 t.2 in
      b.3 (above_trans n r up t.0 w b.0 (omega (arith, ok.low))
      (group_has n r w b.0 (rw (← e) (in_group n r v b.0 b.1 b.2))).1 t.3)

  -- so no two of these nodes have one group
  proper_once : (v w : ℕ) → v < nodes r → w < nodes r → proper n r v ≡ true → proper n r w ≡ true → group_at n r v ≡ group_at n r w
      → v ≡ w
  proper_once v w h k p q e = ⊎_elim (eqb-true v w) (λ d. absurd (other (eqb-false v w d))) (decide (eqb v w))
    where
      other : (v ≡ w → ⊥) → ⊥
      other x = ⊎_elim (λ m. proper_above w v k h q x m (sym e)) (λ m. proper_above v w h k p (λ y. x (sym y)) m e)
          (in_line n r ok v w h (λ s i. rw (← e) i))

  -- the nodes with two children or more are one for each group of two samples or more
  forks_one : OneEach n r (λ v. leb 2 (children r v))
  forks_one = record {
    large = λ u a h p. two_samples n r ok u a h (leb-true 2 (children r u) p);
    found = λ v h z.
        let u = proper_of v h in
        let a = big_inner n r ok u.0 u.1 (rw u.3 z) in (
          u.0,
          a,
          u.1,
          ⊎_elim (λ l. absurd (omega (arith, ltb-true u.0 n l))) (λ p. p)
              (or_cases (ltb u.0 n) (leb 2 (children r u.0)) u.2),
          u.3,
        );
    once = λ u w a b h k p q. proper_once u w h k (or_r (ltb u n) (leb 2 (children r u)) p) (or_r (ltb w n) (leb 2 (children r w)) q);
  }

  -- RENUMBERING LEAVES AS MANY INNER NODES AS HAVE TWO CHILDREN OR MORE (RULES 4.5)
  pub proper_left : nodes (renumbered n r) ≡ n + count (λ v. leb 2 (children r v)) (range n (nodes r))
  proper_left = one_each_nodes n r ok (λ v. leb 2 (children r v)) forks_one

-- the order of RULES 4.1 does not rule single branches out: a node above one sample may stand in it (RULES 11.14)
pub order_alone : (judged 3 over_one ≡ accepted) × (in_order (inner 3 over_one) ≡ true) × (standard 3 over_one ≡ false)
unfolding standard tabulate first weigh nodes parent meets ends group_at inner ◌⊳◌ row_checks judge_checks judged in_order before size same
    list_first
order_alone = (refl, refl, refl)
