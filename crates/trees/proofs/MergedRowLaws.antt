-- The row that the numbers and the climbs make is the row of the merged groups, word by word. Assumes nothing.
use Prim.Native.Nat.{ℕ, zero, suc, ◌+◌, ◌-◌, ◌≤◌, ◌<◌, max}
use Rattle.std.specs.Prelude.{◌≡◌, ◌⊎◌, List, Bool, true, false, cond, eqb, ltb, length, get_or, take}
use Rattle.std.proofs.Math.Path.{sym, ap}
use Rattle.std.proofs.Common.{◌∙◌, inl, inr, ⊎_elim, ext_get_or, eqb-true, ne_eqb, ltb-true, ltb-false}
use Rattle.std.proofs.Math.Nat.{add-sub_of_le, max-eq_left, max-eq_right}
use native.Mathlib.Omega.{arith}
use Rattle.std.proofs.Math.Seq.{take-length}
use Rattle.std.proofs.lemmas.Bool.{eqb-false}
use Rattle.trees.specs.Groups.{Group, has}
use Rattle.trees.specs.Rows.{nodes, parent, root_mark, group_at}
use Rattle.trees.specs.Checks.{row_words}
use Rattle.trees.specs.Valid.{In, Standard}
use Rattle.trees.specs.Numbering.{last_with, row_of}
use Rattle.trees.specs.Tables.{Tabled, entry}
use Rattle.trees.specs.Merging.{flagged, kept, merged, Mergeable}
use Rattle.trees.specs.Lockstep.{place_in, number_at, low_of, Numbered}
use Rattle.trees.specs.Climbing.{Raised, parent_of, word_of, Climbable}
use Rattle.trees.proofs.BoolLaws.{or_cases, not_yes, decide}
use Rattle.trees.proofs.GroupLaws.{has_whole}
use Rattle.trees.proofs.MemberLaws.{in_at}
use Rattle.trees.specs.Groups.{nth}
use Rattle.trees.proofs.RowLaws.{at_inner}
use Rattle.trees.proofs.RowOfLaws.{nodes_row, parent_leaf, parent_inner, filler_row}
use Rattle.trees.proofs.FamilyLaws.{Family, last_is, first_whole, some, two, fewer}
use Rattle.trees.proofs.PlantingLaws.{planted, planted_valid}
use Rattle.trees.proofs.StandardLaws.{node_before, root_whole}
use Rattle.trees.proofs.NeverLaws.{Tri, less, equal, more, tri}
use Rattle.trees.proofs.FallsLaws.{standard_falls}
use Rattle.trees.proofs.RankLaws.{lowest_in}
use Rattle.trees.proofs.MergingLaws.{in_kept, kept_in, merged_cases, merged_first, merged_second, merged_family}
use Rattle.trees.proofs.LockstepLaws.{place-in, index_before, index_one}
use Rattle.trees.proofs.ClimbingLaws.{Best, Rises, own_number, best_nearest, best_parent, up_below}

-- ---- the numbers of one side

-- a standard row whose kept groups are among gs, and their numbers in a table
record Numbers (n : ℕ) (gs : List Group) (r : List ℕ) (keep : List Bool) (num : List ℕ) : Type 0 where
  std : Standard n r
  inside : (g : Group) → In g (kept n r keep) → In g gs
  table : Tabled (number_at n r keep gs) n (nodes r) num

module _ {n : ℕ} {gs : List Group} (fam : Family n gs) {r : List ℕ} {keep : List Bool} {num : List ℕ} (side : Numbers n gs r keep num) where
  -- the number of a kept node is that of its group
  number_group : (v : ℕ) → n ≤ v → v < nodes r → flagged keep v ≡ true
      → (n ≤ entry num v) × (entry num v < n + length gs) × (nth gs (entry num v - n) ≡ group_at n r v)
  number_group v a h e =
      let p = place-in (group_at n r v) gs (side.inside (group_at n r v) (kept_in n r keep n v a h e)) in
      let q : entry num v ≡ n + place_in (group_at n r v) gs = side.table.is v a h ∙ (rw e) in
      let d : entry num v - n ≡ place_in (group_at n r v) gs = omega arith in
      (omega arith, omega arith, rw d p.1)

  number_none : (v : ℕ) → n ≤ v → v < nodes r → flagged keep v ≡ false → entry num v ≡ 0
  number_none v a h e = side.table.is v a h ∙ (rw e)

  number_kept : (v : ℕ) → n ≤ v → v < nodes r → (entry num v ≡ 0 → ⊥) → flagged keep v ≡ true
  number_kept v a h x = ⊎_elim (λ e. e) (λ e. absurd (x (number_none v a h e))) (decide (flagged keep v))

  number_below : (v : ℕ) → n ≤ v → v < nodes r → entry num v < n + length gs
  number_below v a h = ⊎_elim (λ e. (number_group v a h e).1) (λ e. omega (arith, number_none v a h e, two n gs fam)) (decide (flagged keep v))

  number_rises : Rises side.std num
  number_rises u w a h k x = ⊎_elim (λ e. go (number_group u a (omega arith) e) (number_group w (omega arith) k (number_kept w (omega arith) k x)))
      (λ e. omega (arith, number_none u a (omega arith) e)) (decide (flagged keep u))
    where
      go : (n ≤ entry num u) × (entry num u < n + length gs) × (nth gs (entry num u - n) ≡ group_at n r u)
          → (n ≤ entry num w) × (entry num w < n + length gs) × (nth gs (entry num w - n) ≡ group_at n r w) → entry num u ≤ entry num w
      go p q = omega (
        arith,
        index_before gs fam.strict (entry num u - n) (entry num w - n) (omega arith) (omega arith)
            (rw (p.2, q.2) (node_before n r side.std u w a h k)),
      )

  -- the root, where it is kept, has the first
  number_root : flagged keep n ≡ true → entry num n ≡ n
  number_root e =
      let p = number_group n (omega arith) side.std.valid.low e in
      let e : nth gs (entry num n - n) ≡ nth gs 0 = p.2 ∙ root_whole _ _ side.std ∙ sym (first_whole n gs fam) in
      omega (arith, p, index_one gs fam.strict (entry num n - n) 0 (omega arith) (some n gs fam) e)

  number_top : entry num n ≤ n
  number_top = ⊎_elim (λ e. omega (arith, number_root e)) (λ e. omega (arith, number_none n (omega arith) side.std.valid.low e)) (decide (flagged keep n))

  module _ {i s k : ℕ} (best : Best side.std num i s k) where
    best_has : n ≤ k → has (nth gs (k - n)) s ≡ true
    best_has l =
        let u = best.there in
        let p = number_group u.0 u.1 u.2 (number_kept u.0 u.1 u.2 (λ q. omega (arith, u.4, two n gs fam))) in
        rw (u.4, p.2) u.3

    -- no kept group after it has s
    best_last : (l : ℕ) → l < length gs → n + l < i → In (nth gs l) (kept n r keep) → has (nth gs l) s ≡ true → n + l ≤ k
    best_last l h j m e =
        let v = in_kept n r keep n (nth gs l) m in
        let p = number_group v.0 v.1 v.2 v.3 in
        let q : entry num v.0 - n ≡ l = index_one gs fam.strict (entry num v.0 - n) l (omega arith) h (p.2 ∙ v.4) in
        omega (arith, p.0, best.most v.0 v.1 v.2 (rw v.4 e) (omega arith))

    best_root : s < n → n < i → flagged keep n ≡ true → n ≤ k
    best_root z j e = omega (
      arith,
      number_root e,
      best.most n (omega arith) side.std.valid.low (rw (root_whole _ _ side.std) (has_whole n s z)) (omega (arith, number_root e)),
    )

-- ---- both sides

module _ {n : ℕ} {a : List ℕ} {keep_a : List Bool} {b : List ℕ} {keep_b : List Bool} (ok : Mergeable n a keep_a b keep_b) where
  abbrev gs : List Group
  gs = merged n a keep_a b keep_b

  fam : Family n (merged n a keep_a b keep_b)
  fam = merged_family ok

  module _ {num_a num_b mins : List ℕ} {c : ℕ} (is : Numbered n a keep_a b keep_b num_a num_b mins c) where
    abbrev left : Numbers n gs a keep_a num_a
    left = record { std = ok.first; inside = merged_first n a keep_a b keep_b; table = is.left }

    abbrev right : Numbers n gs b keep_b num_b
    right = record { std = ok.second; inside = merged_second n a keep_a b keep_b; table = is.right }

    -- the larger of the two sides' numbers is the last group before i that has s
    last_larger : {i s x y : ℕ} → s < n → n < i → i ≤ n + length gs → Best ok.first num_a i s x → Best ok.second num_b i s y
        → last_with s (take (i - n) gs) n root_mark ≡ max x y
    last_larger {i} {s} {x} {y} z j l p q = last_is n root_mark gs (i - n) (max x y - n) s (omega (arith, p.high, q.high, low)) (omega arith) (here (tri x y))
        (λ k u w. not_yes (has (nth gs k) s) (λ e. none k u w e (merged_cases n a keep_a b keep_b (nth gs k) (in_at gs k (omega arith)))))
        ∙ add-sub_of_le low
      where
        low : n ≤ max x y
        low = ⊎_elim (λ e. omega (arith, best_root fam left p z j e)) (λ e. omega (arith, best_root fam right q z j e))
            (or_cases (flagged keep_a n) (flagged keep_b n) ok.top)

        first_has : y ≤ x → has (nth gs (max x y - n)) s ≡ true
        first_has h = rw (max-eq_left h) (best_has fam left p (omega (arith, low)))

        second_has : x ≤ y → has (nth gs (max x y - n)) s ≡ true
        second_has h = rw (max-eq_right h) (best_has fam right q (omega (arith, low)))

        here : Tri x y → has (nth gs (max x y - n)) s ≡ true
        here (less h) = second_has (omega arith)
        here (equal h) = first_has (omega arith)
        here (more h) = first_has (omega arith)

        none : (k : ℕ) → max x y - n < k → k < i - n → has (nth gs k) s ≡ true → In (nth gs k) (kept n a keep_a) ⊎ In (nth gs k) (kept n b keep_b) → ⊥
        none k u w e (inl m) = omega (arith, low, best_last fam left p k (omega arith) (omega arith) m e)
        none k u w e (inr m) = omega (arith, low, best_last fam right q k (omega arith) (omega arith) m e)

    -- a kept node of the first row, also once numbers are raised, has the number of the merged row's node of its group
    pub merged_place : {up : List ℕ} → Raised n a num_a up → (v : ℕ) → n ≤ v → v < nodes a → flagged keep_a v ≡ true
        → (n ≤ entry up v) × (entry up v < nodes (row_of n gs)) × (group_at n (row_of n gs) (entry up v) ≡ group_at n a v)
    merged_place {up} raised v j h e =
        let p = number_group fam left v j h e in
        let some : entry num_a v ≡ 0 → ⊥ = λ z. omega (arith, p.0, two n gs fam) in
        let q : entry up v ≡ entry num_a v = own_number ok.first raised (number_rises fam left) v j h some in
        let there : entry num_a v < nodes (row_of n gs) = rw nodes_row p.1 in
        let i : n + (entry num_a v - n) ≡ entry num_a v = add-sub_of_le p.0 in
        let g = at_inner n (row_of n gs) (entry num_a v - n) (rw i there) in
        rw q (p.0, there, rw (planted n gs fam ok.first.valid.most, i, p.2) at (sym g))

    low_below : (i : ℕ) → n ≤ i → i < c → entry mins i < n
    low_below i h k =
        let m = in_at gs (i - n) (omega (arith, is.total)) in
        omega (arith, is.lows.is i h k, lowest_in n ok.first.valid.most (nth gs (i - n)) (fam.long _ m) (omega (arith, fam.big _ m)))

    module _ {up_a up_b : List ℕ} (ra : Raised n a num_a up_a) (rb : Raised n b num_b up_b) where
      -- what finding the parents needs
      pub merged_climbable : Climbable n a up_a b up_b mins c
      merged_climbable = record {
        first = ok.first;
        second = ok.second;
        some = omega (arith, is.total, some n gs fam);
        most = omega (arith, is.total, fewer n gs fam);
        root_a = omega (arith, ra.root, number_top fam left);
        root_b = omega (arith, rb.root, number_top fam right);
        words = is.words;
        sample = low_below;
      }

      rises_a : Rises ok.first num_a
      rises_a = number_rises fam left

      rises_b : Rises ok.second num_b
      rises_b = number_rises fam right

      merged_leaf : (s : ℕ) → s < n → parent (row_of n gs) s ≡ max (entry up_a (parent a s)) (entry up_b (parent b s))
      merged_leaf s z =
          let p = (standard_falls n a ok.first).leaf s z in
          let q = (standard_falls n b ok.second).leaf s z in
          let e : n + length gs - n ≡ length gs = omega arith in
          parent_leaf n gs s z ∙ (rw (e, take-length) at (last_larger z (omega (arith, some n gs fam)) (omega arith)
          (best_parent ok.first ra rises_a s (n + length gs) z
          (up_below ok.first ra rises_a (n + length gs) (number_below fam left) (parent a s) p.0 p.1))
          (best_parent ok.second rb rises_b s (n + length gs) z
          (up_below ok.second rb rises_b (n + length gs) (number_below fam right) (parent b s) q.0 q.1))))

      merged_inner : (i : ℕ) → n ≤ i → i < c → parent (row_of n gs) i ≡ parent_of n a up_a b up_b mins i
      unfolding last_with
      merged_inner i h k = go (decide (eqb i n))
        where
          word : parent (row_of n gs) i ≡ last_with (low_of n gs i) (take (i - n) gs) n root_mark
          word = let e : n + (i - n) ≡ i = add-sub_of_le h in ap (parent (row_of n gs)) (sym e) ∙ parent_inner n gs (i - n) (omega (arith, is.total))

          go : (eqb i n ≡ true) ⊎ (eqb i n ≡ false) → parent (row_of n gs) i ≡ parent_of n a up_a b up_b mins i
          go (inl e) = let d : i - n ≡ 0 = omega (arith, eqb-true i n e) in rw e (word ∙ (rw d))
          go (inr e) =
              let j : n < i = omega (arith, eqb-false i n e) in
              let s : ℕ = entry mins i in
              let z : entry mins i < n = low_below i h k in
              rw e (word ∙ ap (λ (u : ℕ). last_with u (take (i - n) gs) n root_mark) (sym (is.lows.is i h k)) ∙ last_larger z j (omega (arith, is.total))
              (best_nearest ok.first ra rises_a (entry mins i) i z (omega (arith, merged_climbable.root_a)))
              (best_nearest ok.second rb rises_b (entry mins i) i z (omega (arith, merged_climbable.root_b))))

      merged_word : {parents : List ℕ} → Tabled (parent_of n a up_a b up_b mins) n c parents → (w : ℕ) → word_of n a up_a b up_b parents c w ≡ get_or (row_of n gs) w 0
      unfolding word_of nodes parent
      merged_word t zero = is.total ∙ sym (nodes_row n gs)
      merged_word {parents} t (suc v) = rw (ne_eqb (suc v) 0 (λ e. omega arith)) (go (decide (ltb c (suc v))) (decide (ltb n (suc v))))
        where
          d : suc v - 1 ≡ v
          d = omega arith

          larger : ℕ
          larger = max (entry up_a (parent a (suc v - 1))) (entry up_b (parent b (suc v - 1)))

          go : (ltb c (suc v) ≡ true) ⊎ (ltb c (suc v) ≡ false) → (ltb n (suc v) ≡ true) ⊎ (ltb n (suc v) ≡ false)
              → cond (ltb c (suc v)) 0 (cond (ltb n (suc v)) (entry parents (suc v - 1)) larger) ≡ parent (row_of n gs) v
          go (inl p) q = rw p (sym (filler_row n gs (suc v) (omega (arith, ltb-true c (suc v) p, is.total))))
          go (inr p) (inl q) =
              let h : n ≤ v = omega (arith, ltb-true n (suc v) q) in
              let k : v < c = ltb-false c (suc v) p in
              rw (p, q, d) (t.is v h k ∙ sym (merged_inner v h k))
          go (inr p) (inr q) = rw (p, q, d) (sym (merged_leaf v (ltb-false n (suc v) q)))

      -- THE MERGED ROW: what is written is the row of the merged groups
      pub merged_row : {parents out : List ℕ} → Tabled (parent_of n a up_a b up_b mins) n c parents → length out ≡ row_words n
          → Tabled (word_of n a up_a b up_b parents c) 0 (row_words n) out → out ≡ row_of n gs
      merged_row {parents} {out} t k w = ext_get_or 0 out (row_of n gs) (k ∙ sym (planted_valid n gs fam ok.first.valid.most).words)
          (λ i h. w.is i (omega arith) (omega arith) ∙ merged_word t i)
