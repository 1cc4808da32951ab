-- One linear look at a row decides whether it is standard: strict order of ranks and two samples in the last node imply two children each. Assumes nothing.
use Rattle.std.specs.Prelude.{ℕ, zero, suc, ◌+◌, ◌-◌, ◌≤◌, ◌<◌, ◌≡◌, refl, List, true, false, ◌&&◌, ◌||◌, eqb, ltb, leb, length}
use Rattle.std.proofs.Common.{zero-le, ◌∙◌, ⊎_elim, true≢false, eq-or-lt_of_le, arith}
use Rattle.std.proofs.Math.Path.{sym, ap}
use Rattle.std.proofs.Math.Bool.{not}
use borrow.Author.Tests.{ltb-true, leb-true, leb-false, eqb-true, lt-ltb, le-ltb, le-leb, lt-leb, eq-eqb, ne_eqb, not-false}
use Rattle.trees.specs.Lists.{tabulate, range}
use Rattle.trees.specs.Groups.{Group, has, size, lowest, before}
use Rattle.trees.specs.Rows.{nodes, parent, child_of, group_at, inner}
use Rattle.trees.specs.Checks.{most_samples, row_words, children}
use Rattle.trees.specs.Valid.{Valid, Standard, in_order, standard}
use Rattle.trees.specs.Rooted.{Rooted}
use Rattle.trees.specs.Falls.{Falls, falling}
use Rattle.trees.specs.Tables.{entry, least_of, own, Most, size_at, least_at, rank_of, rank_in, rank_at}
use Rattle.trees.specs.Passes.{Ranked}
use Rattle.trees.specs.Linear.{spans, littered, filler_zero, falters, rising, ranked, linear}
use Rattle.trees.proofs.BoolLaws.{and_l, and_r, and_both, and_false, true_eq}
use Rattle.trees.proofs.ListLaws.{range_in, count_two}
use Rattle.trees.proofs.GroupLaws.{lowest_has, extra, within_size, within_eq, single_small}
use Rattle.trees.specs.Groups.{Within}
use Rattle.trees.proofs.OrderLaws.{before_falling}
use Rattle.trees.proofs.MemberLaws.{in_order_strict}
use Rattle.trees.proofs.RowLaws.{length_group, group_has, in_group, no_mark, step_down, child_within, leaf_group, group_agree, group_full, inner_two}
use Rattle.trees.proofs.TurnLaws.{not_root, falls_rooted, falls_valid}
use Rattle.trees.proofs.StandardLaws.{standard_to, standard_from, node_before, standard_distinct}
use Rattle.trees.proofs.NeverLaws.{Tri, less, equal, more, tri, never_to, never_from, never_same}
use Rattle.trees.proofs.FallsLaws.{falls_to, falls_from, standard_falls}
use Rattle.trees.proofs.TableLaws.{size_length, least_le, least_lowest}

-- ---- any row

module _ (n : ℕ) (r : List ℕ) where
  pub size_most : (v : ℕ) → size_at n r v ≤ n
  size_most v = omega (arith, size_length (group_at n r v), length_group n r v)

  lowest_lt : (v : ℕ) → 0 < size_at n r v → lowest (group_at n r v) < n
  lowest_lt v z = (group_has n r v (lowest (group_at n r v)) (lowest_has (group_at n r v) z)).0

  low_lowest : (v : ℕ) → n ≤ most_samples → 0 < size_at n r v → least_at n r own v ≡ lowest (group_at n r v)
  low_lowest v m z = least_lowest (group_at n r v) z (omega (arith, lowest_lt v z))

-- ---- in a valid row the order of inner nodes with different groups is that of their ranks

module _ (n : ℕ) (r : List ℕ) (ok : Valid n r) where
  pub rank_before : (u v : ℕ) → u < nodes r → v < nodes r → (group_at n r u ≡ group_at n r v → ⊥)
      → before (group_at n r u) (group_at n r v) ≡ ltb (rank_at n r u) (rank_at n r v)
  rank_before u v i j x =
      before_falling (group_at n r u) (group_at n r v) (length_group n r u ∙ sym (length_group n r v)) (group_agree n r ok u v) x (group_full n r ok u i)
      (group_full n r ok v j)
      ∙ go (tri (size_at n r u) (size_at n r v)) (low_lowest n r u ok.most (group_full n r ok u i)) (low_lowest n r v ok.most (group_full n r ok v j))
    where
      g : Group
      g = group_at n r u

      h : Group
      h = group_at n r v

      go : Tri (size g) (size h) → least_of own g ≡ lowest g → least_of own h ≡ lowest h
          → ltb (size h) (size g) || (eqb (size g) (size h) && ltb (lowest g) (lowest h)) ≡ ltb (rank_at n r u) (rank_at n r v)
      go (less y) a b = rw (le-ltb (size h) (size g) (omega arith), ne_eqb (size g) (size h) (λ q. omega arith))
          (sym (le-ltb (rank_at n r u) (rank_at n r v) (omega (arith, lowest_lt n r v (group_full n r ok v j), size_most n r v, ok.most))))
      go (equal y) a b = rw (le-ltb (size h) (size g) (omega arith), eq-eqb (size g) (size h) y)
          (true_eq (ltb (lowest g) (lowest h)) (ltb (rank_at n r u) (rank_at n r v))
          (λ e. lt-ltb (rank_at n r u) (rank_at n r v) (omega (arith, ltb-true (lowest g) (lowest h) e)))
          (λ e. lt-ltb (lowest g) (lowest h) (omega (arith, ltb-true (rank_at n r u) (rank_at n r v) e))))
      go (more y) a b = rw (lt-ltb (size h) (size g) y) (sym (lt-ltb (rank_at n r u) (rank_at n r v)
          (omega (arith, lowest_lt n r u (group_full n r ok u i), size_most n r u, ok.most))))

-- in a standard row the ranks of inner nodes rise
pub rank_rises : (n : ℕ) (r : List ℕ) → Standard n r → (u v : ℕ) → n ≤ u → u < v → v < nodes r → rank_at n r u < rank_at n r v
rank_rises n r std u v a h k = ltb-true _ _ (sym (rank_before n r std.valid u v (omega arith) k (standard_distinct n r std u v a h k))
    ∙ node_before n r std u v a h k)

-- a table of groups is in order where each is before the next
order_table : (k : ℕ) (f : ℕ → Group) (s : ℕ) → ((v : ℕ) → s ≤ v → suc v < s + k → before (f v) (f (suc v)) ≡ true) → in_order (tabulate k f s) ≡ true
unfolding in_order tabulate
order_table zero f s h = refl
order_table (suc zero) f s h = refl
order_table (suc (suc k)) f s h = and_both (before (f s) (f (suc s))) _ (h s (omega arith) (omega arith))
    (order_table (suc k) f (suc s) (λ v a b. h v (omega arith) (omega arith)))

-- ---- a falling row whose ranks rise, with two samples in its last node

module _ (n : ℕ) (r : List ℕ) (ok : Falls n r) (rise : rising (rank_at n r) n (nodes r - 1) ≡ true) (big : 2 ≤ size_at n r (nodes r - 1)) where
  rank_next : (v : ℕ) → n ≤ v → suc v < nodes r → rank_at n r v < rank_at n r (suc v)
  rank_next v a h = leb-false _ _ (never_to (falters (rank_at n r)) n (nodes r - 1) rise v a (omega arith))

  rank_far : (d u : ℕ) → n ≤ u → u + suc d < nodes r → rank_at n r u < rank_at n r (u + suc d)
  rank_far zero u a h = let e : u + 1 ≡ suc u = omega arith in rw e (rank_next u a (omega arith))
  rank_far (suc d) u a h = let e : u + suc (suc d) ≡ suc (u + suc d) = omega arith in rw e
      (omega (arith, rank_far d u a (omega arith), rank_next (u + suc d) (omega arith) (omega arith)))

  rank_less : (u v : ℕ) → n ≤ u → u < v → v < nodes r → rank_at n r u < rank_at n r v
  rank_less u v a h k = let e : u + suc (v - suc u) ≡ v = omega arith in rw e at (rank_far (v - suc u) u a (omega arith))

  -- the last node is the smallest
  all_big : (v : ℕ) → n ≤ v → v < nodes r → 2 ≤ size_at n r v
  all_big v a h = go (tri v (nodes r - 1))
    where
      last : least_at n r own (nodes r - 1) < n
      last = omega (
        arith,
        least_le own (group_at n r (nodes r - 1)) (lowest (group_at n r (nodes r - 1))) (lowest_has (group_at n r (nodes r - 1)) (omega (arith, big))),
        lowest_lt n r (nodes r - 1) (omega (arith, big)),
      )

      go : Tri v (nodes r - 1) → 2 ≤ size_at n r v
      go (less l) = omega (arith, last, big, rank_less v (nodes r - 1) a l (omega arith), ok.most, size_most n r (nodes r - 1))
      go (equal l) = rw l big
      go (more l) = absurd (omega arith)

  -- a child has fewer samples
  child_less : (c v : ℕ) → n ≤ v → c < nodes r → v < nodes r → parent r c ≡ v → size_at n r c < size_at n r v
  child_less c v a h k e = go (tri c n)
    where
      up : Rooted n r
      up = falls_rooted n r ok

      inside : Within (group_at n r c) (group_at n r v)
      inside = child_within n r up c v h k e

      differ : n < c → size_at n r c ≡ size_at n r v → ⊥
      differ l q =
          let p = ok.down c l h in
          let same : group_at n r c ≡ group_at n r v = within_eq _ _ (length_group n r c ∙ sym (length_group n r v)) inside (omega arith) in
          omega (arith, rank_less v c a (omega arith) h, ap (λ (g : Group). rank_of n (size g) (least_of own g)) same)

      go : Tri c n → size_at n r c < size_at n r v
      go (less l) = omega (arith, ap size (leaf_group n r up c l), single_small n c, all_big v a k)
      go (equal l) = absurd (not_root n r ok c (rw e (no_mark n r up v k)) l)
      go (more l) = ⊎_elim (λ q. absurd (differ l q)) (λ q. q) (eq-or-lt_of_le (within_size (group_at n r c) (group_at n r v) inside))

  -- the child of v on the way to its sample s
  towards : (v s : ℕ) → n ≤ v → has (group_at n r v) s ≡ true → (c : ℕ) × (c < nodes r) × (parent r c ≡ v) × (has (group_at n r c) s ≡ true)
  towards v s a e =
      let m = group_has n r v s e in
      let t = step_down n r (falls_rooted n r ok) v s m.1 (omega (arith, m.0, ok.low)) (λ x. omega (arith, m.0)) in
      (t.0, t.1, t.2, in_group n r t.0 s m.0 t.3)

  two_children : (v : ℕ) → n ≤ v → v < nodes r → 2 ≤ children r v
  two_children v a h =
      let c = towards v (lowest (group_at n r v)) a (lowest_has (group_at n r v) (omega (arith, all_big v a h))) in
      let t = extra (group_at n r v) (group_at n r c.0) (child_less c.0 v a c.1 h c.2) in
      let d = towards v t.0 a t.1 in
      count_two (child_of r v) (range 0 (nodes r)) c.0 d.0 (range_in 0 (nodes r) c.0 zero-le c.1) (range_in 0 (nodes r) d.0 zero-le d.1)
      (λ q. true≢false (sym d.3 ∙ ap (λ (w : ℕ). has (group_at n r w) t.0) (sym q) ∙ t.2)) (eq-eqb _ _ c.2) (eq-eqb _ _ d.2)

  rising_valid : filler_zero n r ≡ true → Valid n r
  rising_valid z = falls_valid n r ok (λ w a b. eqb-true _ _ (not-false _ (never_to (littered r) (nodes r + 1) (row_words n) z w (omega arith) b)))
      (λ v a h. omega (arith, two_children v a h))

  rising_standard : filler_zero n r ≡ true → Standard n r
  unfolding inner
  rising_standard z = let valid = rising_valid z in record {
    valid = valid;
    two = two_children;
    strict = in_order_strict (inner n r) (order_table (nodes r - n) (group_at n r) n (λ v a b. let l = rank_next v a (omega arith) in
        rank_before n r valid v (suc v) (omega arith) (omega arith) (λ q. omega (arith, ap (λ (g : Group). rank_of n (size g) (least_of own g)) q))
        ∙ lt-ltb _ _ l));
  }

-- ---- THE LINEAR CHECK DECIDES WHETHER A ROW IS STANDARD

module _ (n : ℕ) (r : List ℕ) (most : n ≤ most_samples) (words : length r ≡ row_words n) where
  linear_to : linear n r ≡ true → Standard n r
  unfolding linear
  linear_to e =
      let rest = and_r (spans n (nodes r)) (falling n r && (filler_zero n r && ranked n r)) e in
      let range = and_l (spans n (nodes r)) (falling n r && (filler_zero n r && ranked n r)) e in
      let last = and_r (falling n r) (filler_zero n r && ranked n r) rest in
      let order = and_r (filler_zero n r) (ranked n r) last in
      let two = and_l (leb 2 (size_at n r (nodes r - 1))) (rising (rank_at n r) n (nodes r - 1)) order in
      let falls : Falls n r = falls_to n r most words (ltb-true _ _ (and_l (ltb n (nodes r)) (ltb (nodes r) (row_words n)) range))
      (ltb-true _ _ (and_r (ltb n (nodes r)) (ltb (nodes r) (row_words n)) range)) (and_l (falling n r) _ rest) in
      rising_standard n r falls (and_r (leb 2 (size_at n r (nodes r - 1))) _ order) (leb-true 2 _ two) (and_l (filler_zero n r) (ranked n r) last)

  linear_from : Standard n r → linear n r ≡ true
  unfolding linear
  linear_from std = let ok = std.valid in
      and_both (spans n (nodes r)) _ (and_both (ltb n (nodes r)) (ltb (nodes r) (row_words n)) (lt-ltb _ _ ok.low) (lt-ltb _ _ ok.high))
      (and_both (falling n r) _ (falls_from n r (standard_falls n r std))
      (and_both (filler_zero n r) (ranked n r) (never_from (littered r) (nodes r + 1) (row_words n) (λ w a b. ap not (eq-eqb _ _ (ok.filler w (omega arith) b))))
      (and_both (leb 2 (size_at n r (nodes r - 1))) _ (le-leb 2 _ (inner_two n r std (nodes r - 1) (omega (arith, ok.low)) (omega (arith, ok.low))))
      (never_from (falters (rank_at n r)) n (nodes r - 1) (λ v a b. lt-leb _ _ (rank_rises n r std v (suc v) a (omega arith) (omega arith)))))))

  pub linear_standard : linear n r ≡ standard n r
  linear_standard = true_eq _ _ (λ e. standard_from n r (linear_to e)) (λ e. linear_from (standard_to n r e))

  -- test by test: the first that fails decides
  pub spans_decides : spans n (nodes r) ≡ false → false ≡ standard n r
  unfolding linear
  spans_decides e = rw e at linear_standard

  pub falling_decides : falling n r ≡ false → false ≡ standard n r
  unfolding linear
  falling_decides e = sym (and_false (spans n (nodes r))) ∙ (rw e at linear_standard)

  pub rest_decides : spans n (nodes r) ≡ true → falling n r ≡ true → filler_zero n r && ranked n r ≡ standard n r
  unfolding linear
  rest_decides e f = rw (e, f) at linear_standard

-- ---- by tables

module _ (n : ℕ) (r size low : List ℕ) (is : Ranked n r size low) where
  pub ranked_most : Most n (nodes r) size
  ranked_most = record { le = λ v h. omega (arith, is.sizes.is v zero-le h, size_most n r v) }

  pub rank_is : (v : ℕ) → v < nodes r → rank_in n size low v ≡ rank_at n r v
  rank_is v h = omega (arith, is.sizes.is v zero-le h, is.lows.is v zero-le h)

  pub ranked_is : 0 < nodes r → leb 2 (entry size (nodes r - 1)) && rising (rank_in n size low) n (nodes r - 1) ≡ ranked n r
  ranked_is z = rw (
    is.sizes.is (nodes r - 1) zero-le (omega arith),
    never_same (falters (rank_in n size low)) (falters (rank_at n r)) n (nodes r - 1) (λ v a h. rw (rank_is v (omega arith), rank_is (suc v) (omega arith))),
  )
