-- The node that is joined for a group tells by its hull whether a row agrees with the group, and by its size whether the row holds it.
-- Assumes nothing.
use Rattle.std.specs.Prelude.{ℕ, ◌+◌, ◌-◌, ◌≤◌, ◌<◌, ◌≡◌, ◌⊎◌, List, Bool, true, false, not, eqb, leb, ltb}
use Rattle.std.proofs.Common.{sym, ap, ◌∙◌, subst, inl, inr, ⊎_elim, true≢false, arith, eqb-true, eq-eqb, leb-true, ltb-true, le-leb, lt-ltb}
use Rattle.std.proofs.lemmas.Bool.{eqb-false, not-true}
use Rattle.trees.specs.Groups.{Group, has, size, agree, conflict}
use Rattle.trees.specs.Rows.{nodes, group_at, groups, holds}
use Rattle.trees.specs.Rooted.{Rooted}
use Rattle.trees.specs.Falls.{Falls}
use Rattle.trees.specs.Tables.{size_at, least_at}
use Rattle.trees.specs.Passes.{Starts}
use Rattle.trees.specs.Mates.{from_end}
use Rattle.trees.proofs.BoolLaws.{and_l, and_r, and_both, true_eq, not_yes, decide}
use Rattle.trees.proofs.WayLaws.{meets_line}
use Rattle.trees.proofs.GroupLaws.{conflict_to, agree_to, within_size, within_eq, single_small}
use Rattle.trees.specs.Groups.{under, over, aside}
use Rattle.trees.specs.Groups.{Within, Agree}
use Rattle.trees.proofs.RowLaws.{Above, length_group, group_has, groups-in, in_groups, leaf_group, above_within, step_down, no_leaf_above}
use Rattle.trees.proofs.TurnLaws.{falls_rooted}
use Rattle.trees.proofs.TableLaws.{least_le, least_ge}
use Rattle.trees.proofs.PlaceLaws.{place_low, placed}
use Rattle.sides.specs.Sides.{conflicts}
use Rattle.sides.proofs.SideLaws.{crossed_by, crossed_in}
use Rattle.conflict.specs.declared.reach.Reach.{Reach}
use Rattle.conflict.specs.Spans.{Touches, Joined, covers}

covers_to : (n size start lo hi : ℕ) → covers n size start lo hi ≡ true → (start ≤ lo) × (n ≤ start + size + hi)
covers_to n size start lo hi e =
    (leb-true _ _ (and_l (leb start lo) (leb n (start + size + hi)) e), leb-true _ _ (and_r (leb start lo) (leb n (start + size + hi)) e))

covers_from : (n size start lo hi : ℕ) → start ≤ lo → n ≤ start + size + hi → covers n size start lo hi ≡ true
covers_from n size start lo hi a b =
    and_both (leb start lo) (leb n (start + size + hi)) (le-leb start lo a) (le-leb n (start + size + hi) b)

module _ (n : ℕ) (r : List ℕ) (ok : Falls n r) (q : List ℕ) (qk : Falls n q) (start : ℕ → ℕ) (laid : Starts n q start)
    (h : ℕ) (hq : h < nodes q) where
  up : Rooted n r
  up = falls_rooted n r ok

  abbrev g : Group
  g = group_at n q h

  abbrev firsts : ℕ → ℕ
  firsts u = least_at n r start u

  abbrev lasts : ℕ → ℕ
  lasts u = least_at n r (from_end n start) u

  -- a node lies in h exactly if its first and its last place do
  covered_within : (u : ℕ) → start h ≤ firsts u → n ≤ start h + size_at n q h + lasts u → Within (group_at n r u) g
  covered_within u a b s m = let k : s < n = (group_has n r u s m).0 in
      placed n q qk start laid h s hq k ∙ and_both _ _ (le-leb (start h) (start s) (omega (arith, least_le start (group_at n r u) s m)))
      (lt-ltb (start s) (start h + size_at n q h)
      (omega (arith, place_low n q qk start laid s k, least_le (from_end n start) (group_at n r u) s m)))

  within_covered : (u s : ℕ) → has (group_at n r u) s ≡ true → Within (group_at n r u) g
      → (start h ≤ firsts u) × (n ≤ start h + size_at n q h + lasts u)
  within_covered u s e w = (
    least_ge (start h) start (group_at n r u) (omega (arith, qk.most, lies s e)) (λ t m. (lies t m).0),
    omega (
      arith,
      least_ge (n - (start h + size_at n q h)) (from_end n start) (group_at n r u) (omega (arith, qk.most)) (λ t m. omega (arith, lies t m)),
    ),
  )
    where
      lies : (s : ℕ) → has (group_at n r u) s ≡ true → (start h ≤ start s) × (start s < start h + size_at n q h) × (start s < n)
      lies t m = let k : t < n = (group_has n r u t m).0 in let i = sym (placed n q qk start laid h t hq k) ∙ w t m in (
        leb-true _ _ (and_l (leb (start h) (start t)) (ltb (start t) (start h + size_at n q h)) i),
        ltb-true _ _ (and_r (leb (start h) (start t)) (ltb (start t) (start h + size_at n q h)) i),
        place_low n q qk start laid t k,
      )

  module _ (t : Reach) (i : Joined n r firsts lasts g t) where
    abbrev p : ℕ
    p = t.node

    abbrev fits : Bool
    fits = covers n (size_at n q h) (start h) t.first t.last

    -- where the hull lies in h, each touched child does
    child_inside : fits ≡ true → (u : ℕ) → Touches n r g p u → Within (group_at n r u) g
    child_inside e u m =
        let k = covers_to n (size_at n q h) (start h) t.first t.last e in
        covered_within u (omega (arith, k.0, i.spans.under u m)) (omega (arith, k.1, i.spans.under u m))

    -- so every node that shares a sample with h contains it or lies inside it
    settled : fits ≡ true → (v s : ℕ) → v < nodes r → has g s ≡ true → has (group_at n r v) s ≡ true → Agree g (group_at n r v)
    settled e v s k m z = ⊎_elim (λ a. under (λ x j. above_within n r up p v a x (i.spans.inside x j)))
        (λ a. ⊎_elim (λ y. under (rw (eqb-true v p y) i.spans.inside)) (λ y. over (below a (eqb-false v p y))) (decide (eqb v p)))
        (meets_line r (nodes r) p v s (group_has n r p s (i.spans.inside s m)).1 (group_has n r v s z).1)
      where
        below : Above r p v → (v ≡ p → ⊥) → Within (group_at n r v) g
        below a y x j =
            let c = step_down n r up p v a k y in
            let w : Within (group_at n r v) (group_at n r c.0) = above_within n r up v c.0 c.3 in
            child_inside e c.0 (record { low = c.1; up = c.2; sample = s; mine = m; its = w s z }) x (w x j)

    fits_peaceful : fits ≡ true → not (conflicts n g r) ≡ true
    fits_peaceful e = ap not (not_yes (conflicts n g r) never)
      where
        never : conflicts n g r ≡ true → ⊥
        never c =
            let y = crossed_in g (groups n r) c in
            let v = in_groups n r y.0 y.1 in
            let x : conflict g (group_at n r v.0) ≡ true = (rw v.2 y.2) in
            conflict_to g (group_at n r v.0) x
            (aside (λ s m. not_yes _ (λ z. conflict_to g (group_at n r v.0) x (settled e v.0 s v.1 m z))))

    -- in a row that does not conflict each touched child lies inside h
    peaceful_inside : conflicts n g r ≡ false → (u : ℕ) → Touches n r g p u → Within (group_at n r u) g
    peaceful_inside e u y = go (agree_to g (group_at n r u) (calm (decide (agree g (group_at n r u)))))
      where
        calm : (agree g (group_at n r u) ≡ true) ⊎ (agree g (group_at n r u) ≡ false) → agree g (group_at n r u) ≡ true
        calm (inl a) = a
        calm (inr a) = absurd (true≢false (sym (crossed_by g (group_at n r u) (groups n r) (groups-in n r u y.low) (ap not a)) ∙ e))

        -- a sample that it touches is in h
        leaf : u < n → Within (group_at n r u) g
        leaf k s m =
            let one : (j : ℕ) → has (group_at n r u) j ≡ true → j ≡ u = λ j d. no_leaf_above n r up u j k
            (omega (arith, (group_has n r u j d).0, ok.low)) (group_has n r u j d).1 in
            subst (λ (j : ℕ). has g j ≡ true) (one y.sample y.its ∙ sym (one s m)) y.mine

        go : Agree g (group_at n r u) → Within (group_at n r u) g
        go (under w) = leaf (i.least u y.low y.up w)
        go (over w) = w
        go (aside w) = absurd (true≢false (sym y.its ∙ w y.sample y.mine))

    peaceful_fits : not (conflicts n g r) ≡ true → fits ≡ true
    peaceful_fits e =
        let c = not-true (conflicts n g r) e in
        let a = i.spans.first in
        let b = i.spans.last in
        covers_from n (size_at n q h) (start h) t.first t.last
        (omega (arith, a.2, (within_covered a.0 a.1.sample a.1.its (peaceful_inside c a.0 a.1)).0))
        (omega (arith, b.2, (within_covered b.0 b.1.sample b.1.its (peaceful_inside c b.0 b.1)).1))

    -- THE HULL: a row agrees with a reference node exactly if the hull of what the node touches lies in its interval
    pub covers_agrees : covers n (size_at n q h) (start h) t.first t.last ≡ not (conflicts n g r)
    covers_agrees = true_eq _ _ fits_peaceful peaceful_fits

    -- THE SIZE: where h has two samples, the row holds its group exactly if it is the group of that node, so that the sizes are equal
    pub sizes_hold : 2 ≤ size g → eqb (size_at n q h) (size_at n r p) ≡ holds n g r
    sizes_hold two = true_eq _ _ (λ e. held (eqb-true (size g) (size_at n r p) e))
        (λ e. eq-eqb (size g) (size_at n r p) (equal (in_groups n r g e)))
      where
        held : size g ≡ size_at n r p → holds n g r ≡ true
        held e = rw (within_eq g (group_at n r p) (length_group n q h ∙ sym (length_group n r p)) i.spans.inside (omega arith))
            (groups-in n r p i.spans.high)

        equal : (v : ℕ) × (v < nodes r) × (group_at n r v ≡ g) → size g ≡ size_at n r p
        equal (v, k, e) = over (meets_line r (nodes r) p v s (group_has n r p s (i.spans.inside s m)).1 (group_has n r v s (rw e m)).1)
          where
            s : ℕ
            s = i.spans.first.1.sample

            m : has g s ≡ true
            m = i.spans.first.1.mine

            over : Above r v p ⊎ Above r p v → size g ≡ size_at n r p
            over (inl a) = omega (
              arith,
              within_size g (group_at n r p) i.spans.inside,
              within_size (group_at n r p) g (rw e at (above_within n r up p v a)),
            )
            over (inr a) = ⊎_elim (λ y. ap size (sym e) ∙ ap (size_at n r) (eqb-true v p y)) (λ y. absurd (below (eqb-false v p y)))
                (decide (eqb v p))
              where
                -- a child of p with the group would be a sample
                below : (v ≡ p → ⊥) → ⊥
                below y =
                    let c = step_down n r up p v a k y in
                    let w : Within g (group_at n r c.0) = rw e at (above_within n r up v c.0 c.3) in
                    omega (
                      arith,
                      within_size g (group_at n r c.0) w,
                      ap size (leaf_group n r up c.0 (i.least c.0 c.1 c.2 w)),
                      single_small n c.0,
                    )
