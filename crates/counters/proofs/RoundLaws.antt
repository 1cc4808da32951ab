-- A round over rows is a step of the counters: the new row has the new candidates, and the new table their counters. Assumes nothing.
use Rattle.std.specs.Prelude.{ℕ, ◌+◌, ◌≤◌, ◌<◌, ◌≡◌, ◌⊎◌, List, Bool, true, false, not, cond, eqb, ltb, length}
use Rattle.std.proofs.Common.{sym, ap, ◌∙◌, subst, inl, inr, ⊎_elim, true≢false, arith, eqb-true, ltb-true, ltb-false, lt-ltb}
use Rattle.std.proofs.lemmas.Bool.{eqb-false, not-true, not-false}
use Rattle.std.proofs.lemmas.List.{get_or-replicate}
use Rattle.trees.specs.Groups.{Group, has, whole, size, lowest, agree, conflict, member}
use Rattle.trees.specs.Rows.{nodes, group_at, groups, inner, holds}
use Rattle.trees.specs.Valid.{In, Standard}
use Rattle.trees.specs.Numbering.{row_of}
use Rattle.trees.specs.Tables.{Flags, table_words, entry}
use Rattle.trees.specs.Merging.{flagged, kept, merged, Mergeable}
use Rattle.trees.proofs.BoolLaws.{true_eq, not_yes, or_r, decide}
use Rattle.trees.proofs.NeverLaws.{side}
use Rattle.trees.proofs.GroupLaws.{conflict_to, agree_to, lowest_has, size_one, size_two}
use Rattle.trees.specs.Groups.{under, over, aside}
use Rattle.trees.specs.Groups.{Agree}
use Rattle.trees.proofs.GroupLaws.{within_whole, single_small}
use Rattle.trees.proofs.RowLaws.{length_group, in_inner, inner_in, in_groups, groups-in, leaf_group, valid_rooted, inner_two}
use Rattle.trees.proofs.StandardLaws.{root_whole}
use Rattle.trees.proofs.NodeLaws.{big_inner, node_distinct}
use Rattle.trees.proofs.FallsLaws.{standard_falls, few}
use Rattle.trees.proofs.NumberingLaws.{row_tree}
use Rattle.trees.proofs.MergingLaws.{agree_sym, in_kept, kept_in, merged_standard, merged_exactly}
use Rattle.sides.specs.Sides.{crossed, conflicts}
use Rattle.sides.proofs.SideLaws.{conflict_swap, crossed_by, crossed_in, held_peaceful}
use Rattle.sides.specs.Counters.{Tally, moved, step}
use Rattle.sides.proofs.CounterLaws.{Keeps, moved_contra, moved_neither, moved_falls, round_gain}
use Rattle.merge.specs.Settling.{Settled}
use Rattle.merge.specs.Carrying.{Carried, CarriedOver}
use Rattle.counters.specs.Rounds.{Tied, Round, turned, turned_in, turned_by, Turned, Entering, weight, weights, Ready, Rounded}

-- ---- groups in conflict are not trivial

pub conflict_two : (g x : Group) → conflict g x ≡ true → 2 ≤ size x
conflict_two g x c = ⊎_elim (λ e. absurd (conflict_to g x c (calm (ltb-true (size x) 2 e) (decide (has g (lowest x))))))
    (λ e. ltb-false (size x) 2 e) (decide (ltb (size x) 2))
  where
    only : size x < 2 → (s : ℕ) → has x s ≡ true → s ≡ lowest x
    only h s m = ⊎_elim (eqb-true s (lowest x))
        (λ e. absurd (omega (arith, size_two x s (lowest x) m (lowest_has x (omega (arith, size_one x s m))) (eqb-false s (lowest x) e))))
        (decide (eqb s (lowest x)))

    calm : size x < 2 → (has g (lowest x) ≡ true) ⊎ (has g (lowest x) ≡ false) → Agree g x
    calm h (inl e) = over (λ s m. rw (only h s m) e)
    calm h (inr e) = aside (λ s m. not_yes _ (λ k. true≢false (sym m ∙ ap (has g) (only h s k) ∙ e)))

pub whole_peaceful : (n : ℕ) (g : Group) → length g ≡ n → conflict g (whole n) ≡ true → ⊥
whole_peaceful n g l c = conflict_to g (whole n) c (under (within_whole n g l))

inner_group : (n : ℕ) (q : List ℕ) (g : Group) → In g (inner n q) → In g (groups n q)
inner_group n q g m = let t = in_inner n q g m in rw (← t.3) (groups-in n q t.0 t.2)

module _ (n w : ℕ) (r : List ℕ) (f a : Group → ℕ) (s : Tally) (k : Keeps f a s) (rs : Standard n r) (q t : List ℕ)
    (tied : Tied n s q t) where
  -- a candidate that conflicts with something is a node
  at_node : (x y : Group) → conflict y x ≡ true → 0 < s.counter x → In x (inner n q)
  at_node x y c h = tied.listed x (conflict_two y x c) h

  -- what conflicts with a candidate conflicts with the row
  pub crossed_row : (g : Group) → length g ≡ n → crossed g s.candidates ≡ conflicts n g q
  crossed_row g l = true_eq _ _ to from
    where
      to : crossed g s.candidates ≡ true → conflicts n g q ≡ true
      to e = let x = crossed_in g s.candidates e in
          crossed_by g x.0 (groups n q) (inner_group n q x.0 (at_node x.0 g x.2 (k.alive x.0 x.1))) x.2

      from : conflicts n g q ≡ true → crossed g s.candidates ≡ true
      from e =
          let x = crossed_in g (groups n q) e in
          let v = in_groups n q x.0 x.1 in
          let c : conflict g (group_at n q v.0) ≡ true = (rw v.2 x.2) in
          ⊎_elim
          (λ h. absurd (omega (
            arith,
            conflict_two g (group_at n q v.0) c,
            single_small n v.0,
            ap size (leaf_group n q (valid_rooted n q tied.standard.valid) v.0 h),
          )))
          (λ h. ⊎_elim (λ z. absurd (whole_peaceful n g l (rw (eqb-true v.0 n z, root_whole n q tied.standard) at c)))
          (λ z. crossed_by g (group_at n q v.0) s.candidates
          (k.listed (group_at n q v.0) (tied.alive v.0 (omega (arith, eqb-false v.0 n z)) v.1)) c)
          (decide (eqb v.0 n))) (side n v.0)

  module _ (pos : 0 < w) (round : Round n w r q t) where
    -- the same, of the candidates
    all_round : (x : Group) → In x s.candidates → conflicts n x r ≡ true → w ≤ s.counter x
    all_round x m e =
        let y = crossed_in x (groups n r) e in
        let h = k.alive x m in
        let v = in_inner n q x (at_node x y.0 (conflict_swap x y.0 y.2) h) in
        omega (arith, round.low v.0 v.1 v.2 (rw v.3 e), tied.counted.is v.0 v.1 v.2, ap s.counter v.3)

    gained : (g : Group) → length g ≡ n → holds n g r ≡ true → moved n w r s g ≡ s.counter g + cond (conflicts n g q) 0 w
    gained g l p = round_gain n w r f a s k all_round g p ∙ ap (λ (b : Bool). s.counter g + cond b 0 w) (crossed_row g l)

    -- a group of the row does not conflict with it
    calm : (v : ℕ) → v < nodes q → conflicts n (group_at n q v) q ≡ false
    calm v h = held_peaceful n q tied.standard.valid (group_at n q v) (groups-in n q v h)

    -- THE CANDIDATES' COUNTERS
    pub moved_node : (v : ℕ) → n ≤ v → v < nodes q
        → moved n w r s (group_at n q v) ≡ turned_by n w q r t v
    moved_node v i h = go (decide (holds n g r)) (decide (conflicts n g r))
      where
        g : Group
        g = group_at n q v

        e : entry t v ≡ s.counter g
        e = tied.counted.is v i h

        go : (holds n g r ≡ true) ⊎ (holds n g r ≡ false) → (conflicts n g r ≡ true) ⊎ (conflicts n g r ≡ false)
            → moved n w r s g ≡ turned_by n w q r t v
        go (inl p) c = rw (p, gained g (length_group n q v) p, calm v h, e)
        go (inr p) (inl c) = rw (p, c, moved_contra n w r s g p c, e)
        go (inr p) (inr c) = rw (p, c, moved_neither n w r s g p c, e)

    -- a group with a counter does not conflict with the row
    fresh : (g : Group) → 2 ≤ size g → conflicts n g q ≡ true → s.counter g ≡ 0
    fresh g z c = ⊎_elim (λ e. absurd (true≢false (sym c ∙ held_peaceful n q tied.standard.valid g
        (inner_group n q g (tied.listed g z (ltb-true 0 (s.counter g) e)))))) (λ e. omega (arith, ltb-false 0 (s.counter g) e))
        (decide (ltb 0 (s.counter g)))

    -- THE RUN'S GROUPS: one enters, or stays, exactly if it does not conflict with the row
    pub moved_run : (u : ℕ) → n ≤ u → u < nodes r → ltb 0 (moved n w r s (group_at n r u)) ≡ not (conflicts n (group_at n r u) q)
    moved_run u i h = go (decide (conflicts n g q))
      where
        g : Group
        g = group_at n r u

        e : moved n w r s g ≡ s.counter g + cond (conflicts n g q) 0 w
        e = gained g (length_group n r u) (groups-in n r u h)

        go : (conflicts n g q ≡ true) ⊎ (conflicts n g q ≡ false) → ltb 0 (moved n w r s g) ≡ not (conflicts n g q)
        go (inl c) = rw (e, c, fresh g (inner_two n r rs u i h) c)
        go (inr c) = rw (e, c) (lt-ltb 0 (s.counter g + w) (omega arith))

    abbrev moved_at : ℕ → ℕ
    moved_at v = moved n w r s (group_at n q v)

    module _ (t' : List ℕ) (keep enter : List Bool) (ta : Turned (turned_by n w q r t) n (nodes q) t' keep) (eb : Entering n q r enter) where
      -- a candidate is kept exactly if its counter is not 0 then
      kept_exactly : (v : ℕ) → n ≤ v → v < nodes q → flagged keep v ≡ ltb 0 (moved_at v)
      kept_exactly v i h = ta.kept.is v i h ∙ ap (ltb 0) (sym (moved_node v i h))

      -- and a group of the run
      enters_exactly : (u : ℕ) → n ≤ u → u < nodes r → flagged enter u ≡ ltb 0 (moved n w r s (group_at n r u))
      enters_exactly u i h = eb.is u i h ∙ sym (moved_run u i h)

      -- what is flagged on one side has a counter
      kept_counts : (x : Group) → In x (kept n q keep) → 0 < moved n w r s x
      kept_counts x m = let v = in_kept n q keep n x m in
          ltb-true 0 (moved n w r s x)
          (ap (λ (y : Group). ltb 0 (moved n w r s y)) (sym v.4) ∙ sym (kept_exactly v.0 v.1 v.2) ∙ v.3)

      enters_counts : (x : Group) → In x (kept n r enter) → 0 < moved n w r s x
      enters_counts x m = let u = in_kept n r enter n x m in
          ltb-true 0 (moved n w r s x)
          (ap (λ (y : Group). ltb 0 (moved n w r s y)) (sym u.4) ∙ sym (enters_exactly u.0 u.1 u.2) ∙ u.3)

      -- and what has one is flagged
      counts_kept : (v : ℕ) → n ≤ v → v < nodes q → 0 < moved_at v → In (group_at n q v) (kept n q keep)
      counts_kept v i h z = kept_in n q keep n v i h (kept_exactly v i h ∙ lt-ltb 0 (moved_at v) z)

      -- a group that enters does not conflict with the row
      enters_calm : (x : Group) → In x (kept n r enter) → conflicts n x q ≡ false
      enters_calm x m = let u = in_kept n r enter n x m in
          not-true (conflicts n x q) (ap (λ (y : Group). not (conflicts n y q)) (sym u.4) ∙ sym (eb.is u.0 u.1 u.2) ∙ u.3)

      pub round_mergeable : Mergeable n q keep r enter
      round_mergeable = record {
        first = tied.standard;
        second = rs;
        agree = λ g h m o. meet g h m o;
        top = or_r (flagged keep n) (flagged enter n) (eb.is n (omega arith) rs.valid.low ∙ ap not top);
      }
        where
          top : conflicts n (group_at n r n) q ≡ false
          top = rw (root_whole n r rs, ← root_whole n q tied.standard) (calm n tied.standard.valid.low)

          meet : (g h : Group) → In g (kept n q keep) → In h (kept n r enter) → Agree g h
          meet g h m o = let v = in_kept n q keep n g m in
              agree_sym h g (agree_to h g (not-false (agree h g) (not_yes (conflict h g) (λ e. true≢false
              (sym (crossed_by h g (groups n q) (rw (← v.4) (groups-in n q v.0 v.2)) e) ∙ enters_calm h o)))))

      abbrev next : List ℕ
      next = row_of n (merged n q keep r enter)

      std : Standard n next
      std = merged_standard round_mergeable

      next_counts : (x : Group) → In x (inner n next) → 0 < moved n w r s x
      next_counts x m = ⊎_elim (kept_counts x) (enters_counts x) ((merged_exactly round_mergeable x).0 m)

      counts_next : (x : Group) → 2 ≤ size x → 0 < moved n w r s x → In x (inner n next)
      counts_next x z h = ⊎_elim (λ p. of_run (in_groups n r x p))
          (λ p. of_row (in_inner n q x (tied.listed x z (omega (arith, moved_falls n w r s x p))))) (decide (holds n x r))
        where
          of_run : (u : ℕ) × (u < nodes r) × (group_at n r u ≡ x) → In x (inner n next)
          of_run y =
              let u : ℕ = y.0 in
              let e : group_at n r u ≡ x = y.2 in
              let i : n ≤ u = big_inner n r rs.valid u y.1 (rw e z) in
              (merged_exactly round_mergeable x).1 (inr (rw (← e) (kept_in n r enter n u i y.1
              (enters_exactly u i y.1 ∙ ap (λ (g : Group). ltb 0 (moved n w r s g)) e ∙ lt-ltb 0 (moved n w r s x) h))))

          of_row : (v : ℕ) × (n ≤ v) × (v < nodes q) × (group_at n q v ≡ x) → In x (inner n next)
          of_row y = (merged_exactly round_mergeable x).1 (inl (rw (← y.3) (counts_kept y.0 y.1 y.2 (rw y.3 h))))

      -- what is new has the counter w
      new_counter : (g : Group) → 2 ≤ size g → length g ≡ n → In g (kept n r enter) → (In g (kept n q keep) → ⊥) → moved n w r s g ≡ w
      new_counter g z l m none = gained g l held ∙ (rw (enters_calm g m, zero_counter) (omega arith))
        where
          held : holds n g r ≡ true
          held = let u = in_kept n r enter n g m in rw (← u.4) (groups-in n r u.0 u.2)

          zero_counter : s.counter g ≡ 0
          zero_counter = ⊎_elim (λ e. absurd (old (in_inner n q g (tied.listed g z (ltb-true 0 (s.counter g) e)))))
              (λ e. omega (arith, ltb-false 0 (s.counter g) e)) (decide (ltb 0 (s.counter g)))
            where
              old : (v : ℕ) × (n ≤ v) × (v < nodes q) × (group_at n q v ≡ g) → ⊥
              old v = none (rw (← v.3) (counts_kept v.0 v.1 v.2 (rw v.3 (enters_counts g m))))

      -- the counters that the kept nodes hand on, and w at each other node, are those of the new row
      module _ (num fill t'' : List ℕ) (moves : Settled n q keep num next) (new : (x : ℕ) → x < table_words → entry fill x ≡ w)
          (handed : Carried n keep num t' fill (nodes q) t'') where
        handed_counter : (x : ℕ) → n ≤ x → x < nodes next → entry t'' x ≡ moved n w r s (group_at n next x)
        handed_counter x i h = go (decide (member g (kept n q keep)))
          where
            g : Group
            g = group_at n next x

            go : (In g (kept n q keep)) ⊎ (member g (kept n q keep) ≡ false) → entry t'' x ≡ moved n w r s g
            go (inl m) =
                let v = in_kept n q keep n g m in
                let e : entry num v.0 ≡ x = node_distinct n next std (entry num v.0) x (moves.high v.0 v.1 v.2 v.3) h
                (moves.same v.0 v.1 v.2 v.3 ∙ v.4) in
                subst (λ (y : ℕ). entry t'' y ≡ moved n w r s g) e
                (handed.given v.0 v.1 v.2 v.3 ∙ ta.counts.is v.0 v.1 v.2 ∙ sym (moved_node v.0 v.1 v.2)
                ∙ ap (moved n w r s) v.4)
            go (inr f) = handed.rest x other ∙ new x (omega (arith, h, few n next (standard_falls n next std)))
                ∙ sym (new_counter g (inner_two n next std x i h) (length_group n next x) entered none)
              where
                none : In g (kept n q keep) → ⊥
                none m = true≢false (sym m ∙ f)

                other : (u : ℕ) → n ≤ u → u < nodes q → flagged keep u ≡ true → entry num u ≡ x → ⊥
                other u a b e z = none (subst (λ (y : Group). In y (kept n q keep)) (sym (moves.same u a b e) ∙ ap (group_at n next) z)
                    (kept_in n q keep n u a b e))

                entered : In g (kept n r enter)
                entered = ⊎_elim (λ m. absurd (none m)) (λ m. m) ((merged_exactly round_mergeable g).0 (inner_in n next x i h))

        -- ONE ROUND: the new row and its table are tied to the next step of the counters
        pub round_tied : Tied n (step n w r s) next t''
        unfolding step
        round_tied = record {
          standard = std;
          counted = record { is = handed_counter };
          listed = counts_next;
          alive = λ v i h. next_counts (group_at n next v) (inner_in n next v (omega arith) h);
        }

-- ---- the counters by flags are those by the run's row

pub turned_run : (n w : ℕ) (q r t : List ℕ) (held agrees : List Bool) (t' : List ℕ) (keep : List Bool) (m : ℕ) → m ≡ nodes q
    → Flags (λ v. holds n (group_at n q v) r) n (nodes q) held → Flags (λ v. not (conflicts n (group_at n q v) r)) n (nodes q) agrees
    → Turned (turned_in w held agrees t) n m t' keep → Turned (turned_by n w q r t) n (nodes q) t' keep
turned_run n w q r t held agrees t' keep m e h a i = record {
  counts = record { is = λ v l k. i.counts.is v l (omega arith) ∙ same v l k };
  kept = record { is = λ v l k. i.kept.is v l (omega arith) ∙ ap (ltb 0) (same v l k) };
}
  where
    same : (v : ℕ) → n ≤ v → v < nodes q → turned_in w held agrees t v ≡ turned_by n w q r t v
    same v l k = ap (λ (b : Bool). turned w b (flagged agrees v) (entry t v)) (h.is v l k)
        ∙ ap (λ (b : Bool). turned w (holds n (group_at n q v) r) b (entry t v)) (a.is v l k)

-- ---- a run counts for 1: that is one round

unit_round : (n : ℕ) (r : List ℕ) (s : Tally) (q t : List ℕ) → Standard n r → Tied n s q t → Round n weight r q t
unit_round n r s q t rs tied = record { low = λ v a b c. go v a b c (decide (eqb v n)) }
  where
    go : (v : ℕ) → n ≤ v → v < nodes q → conflicts n (group_at n q v) r ≡ true → (eqb v n ≡ true) ⊎ (eqb v n ≡ false) → weight ≤ entry t v
    go v a b c (inl e) =
        let x = crossed_in (group_at n q v) (groups n r) c in
        absurd (whole_peaceful n x.0 ((row_tree n r rs.valid).long x.0 x.1)
        (subst (λ (g : Group). conflict x.0 g ≡ true) (ap (group_at n q) (eqb-true v n e) ∙ root_whole n q tied.standard)
        (conflict_swap (group_at n q v) x.0 x.2)))
    go v a b c (inr e) = omega (arith, tied.counted.is v a b, tied.alive v (omega (arith, eqb-false v n e)) b)

new_weight : (x : ℕ) → x < table_words → entry weights x ≡ weight
unfolding weights
new_weight x h = get_or-replicate table_words x weight 0 h

module _ (n : ℕ) (r q t : List ℕ) (rs : Standard n r) (t' : List ℕ) (keep enter : List Bool)
    (ta : Turned (turned_by n weight q r t) n (nodes q) t' keep) (eb : Entering n q r enter) where
  pub ready_mergeable : Ready n q t → Mergeable n q keep r enter
  ready_mergeable y = round_mergeable n weight r y.f y.a y.s y.keeps rs q t y.tied (omega arith)
      (unit_round n r y.s q t rs y.tied) t' keep enter ta eb

  pub rounded : (t'' out : List ℕ) → CarriedOver n q keep r enter t' weights t'' out → Rounded n weight r q t out t''
  rounded t'' out y = rw y.row (record {
    ties = λ f a s k i. round_tied n weight r f a s k rs q t i (omega arith) (unit_round n r s q t rs i) t' keep enter ta eb y.num
        weights t'' (rw y.row at y.settled) new_weight y.carried;
  })
