-- Mates are found by rank and confirmed by size and interval: a subset of equal size is equal (H). Assumes nothing.
use Rattle.std.specs.Prelude.{ℕ, zero, suc, ◌+◌, ◌-◌, ◌≤◌, ◌<◌, ◌≡◌, ◌⊎◌, List, Bool, true, false, ◌&&◌, ◌||◌, not, eqb, ltb}
use Rattle.std.proofs.Math.Path.{refl, ap}
use Rattle.std.proofs.Common.{sym, ◌∙◌, subst, inl, inr, ⊎_elim, true≢false, arith}
use Rattle.std.proofs.Math.Bool.{false≢true}
use Rattle.std.proofs.Math.Dec.{leb}
use borrow.Author.Tests.{ltb-true, ltb-false, leb-true, leb-false, eqb-true, lt-ltb, le-leb, lt-leb, eq-eqb, ne_eqb}
use Rattle.trees.specs.Lists.{tabulate, Place, range, first}
use Rattle.trees.specs.Groups.{Group, has, single, size, lowest, same, member}
use Rattle.trees.specs.Rows.{nodes, group_at, inner, holds}
use Rattle.trees.specs.Valid.{Standard, In}
use Rattle.trees.specs.Falls.{Falls}
use Rattle.trees.specs.Tables.{least_of, own, size_at, least_at, rank_of, rank_at}
use Rattle.trees.specs.Passes.{Starts}
use Rattle.trees.specs.Mates.{or_else_at, no_mate, mate_of, candidate, candidate_of, fitting, confirmed, from_end}
use Rattle.trees.proofs.BoolLaws.{and_l, and_r, and_both, or_cases, or_r, not_yes, decide}
use Rattle.trees.proofs.ListLaws.{first_end, first_hit, first_pass, Scan, found, missed, scan, lowest_first, nowhere_first}
use Rattle.trees.proofs.GroupLaws.{same_eq, eq_same, within_eq, lowest_has, single_small}
use Rattle.trees.specs.Groups.{Within}
use Rattle.trees.proofs.MemberLaws.{in_table, member_append}
use Rattle.trees.proofs.RowLaws.{length_group, group_has, in_inner, inner_in, inner_two, groups_split}
use Rattle.trees.proofs.StandardLaws.{standard_distinct}
use Rattle.trees.proofs.NeverLaws.{Tri, less, equal, more, tri}
use Rattle.trees.proofs.FallsLaws.{standard_falls}
use Rattle.trees.proofs.TableLaws.{least_le, least_ge}
use Rattle.trees.proofs.PlaceLaws.{placed, place_low}
use Rattle.trees.proofs.LinearLaws.{rank_rises}

-- ---- candidates

module _ (rank : ℕ → ℕ) (a m k : ℕ) where
  pub candidate_end : m ≤ a → candidate rank a m k ≡ m
  unfolding candidate
  candidate_end h = ap (or_else_at m) (first_end (λ x. leb k (rank x)) a m h)

  pub candidate_hit : a < m → k ≤ rank a → candidate rank a m k ≡ a
  unfolding candidate
  candidate_hit h e = ap (or_else_at m) (first_hit (λ x. leb k (rank x)) a m h (le-leb k (rank a) e))

  pub candidate_pass : a < m → rank a < k → candidate rank a m k ≡ candidate rank (suc a) m k
  unfolding candidate
  candidate_pass h e = ap (or_else_at m) (first_pass (λ x. leb k (rank x)) a m h (lt-leb k (rank a) e))

  -- x is the first number from a on, and below m, whose rank is k or more; m where there is none
  pub record Reaches (x : ℕ) : Type 0 where
    pub low : a ≤ x
    pub high : x ≤ m
    pub under : (v : ℕ) → a ≤ v → v < x → rank v < k
    pub reached : x < m → k ≤ rank x

  pub candidate_reaches : a ≤ m → Reaches (candidate rank a m k)
  unfolding candidate
  candidate_reaches l = go (first (λ x. leb k (rank x)) (range a m)) (scan (λ x. leb k (rank x)) a m)
    where
      go : (p : Place) → Scan (λ x. leb k (rank x)) a m p → Reaches (or_else_at m p)
      go p (found i e w) = rw e (record {
        low = w.from;
        high = omega (arith, w.to);
        under = λ v b c. leb-false _ _ (w.none v b c);
        reached = λ h. leb-true _ _ w.passes;
      })
      go p (missed e f) = rw e (record { low = l; high = omega arith; under = λ v b c. leb-false _ _ (f v b c); reached = λ h. absurd (omega arith) })

-- what is below k may be left out
pub candidate_skip : (d : ℕ) (rank : ℕ → ℕ) (a m k : ℕ) → a + d ≤ m → ((x : ℕ) → a ≤ x → x < a + d → rank x < k)
    → candidate rank a m k ≡ candidate rank (a + d) m k
candidate_skip zero rank a m k h f = let e : a + 0 ≡ a = omega arith in rw e
candidate_skip (suc d) rank a m k h f = let e : a + suc d ≡ suc a + d = omega arith in
    candidate_pass rank a m k (omega arith) (f a (omega arith) (omega arith))
    ∙ candidate_skip d rank (suc a) m k (omega arith) (λ x b c. f x (omega arith) (omega arith)) ∙ ap (λ (x : ℕ). candidate rank x m k) (sym e)

pub candidate_from : (rank : ℕ → ℕ) (a b m k : ℕ) → a ≤ b → b ≤ m → ((x : ℕ) → a ≤ x → x < b → rank x < k) → candidate rank a m k ≡ candidate rank b m k
candidate_from rank a b m k h l f = let e : a + (b - a) ≡ b = omega arith in rw e at
    (candidate_skip (b - a) rank a m k (omega arith) (λ x c d. f x c (omega arith)))

pub candidate_same : (f g : ℕ → ℕ) (a m k : ℕ) → a ≤ m → ((v : ℕ) → a ≤ v → v < m → f v ≡ g v) → candidate f a m k ≡ candidate g a m k
candidate_same f g a m k l e = one (candidate_reaches f a m k l) (candidate_reaches g a m k l)
  where
    one : {x y : ℕ} → Reaches f a m k x → Reaches g a m k y → x ≡ y
    one {x} {y} p q = go (tri x y)
      where
        go : Tri x y → x ≡ y
        go (less h) = absurd (omega (arith, p.reached (omega (arith, q.high)), q.under x p.low h, e x p.low (omega (arith, q.high))))
        go (equal h) = h
        go (more h) = absurd (omega (arith, q.reached (omega (arith, p.high)), p.under y q.low h, e y q.low (omega (arith, p.high))))

-- ---- the node that has a group

module _ (n : ℕ) (q r : List ℕ) (a : ℕ) where
  mate_none : ((b : ℕ) → n ≤ b → b < nodes r → group_at n q a ≡ group_at n r b → ⊥) → mate_of n q r a ≡ no_mate
  unfolding mate_of
  mate_none x = ap (or_else_at no_mate) (nowhere_first (λ b. same (group_at n q a) (group_at n r b)) n (nodes r) (λ b h k. not_yes _ (λ e. x b h k (same_eq _ _ e))))

  mate_is : Standard n r → (b : ℕ) → n ≤ b → b < nodes r → group_at n q a ≡ group_at n r b → mate_of n q r a ≡ b
  unfolding mate_of
  mate_is std b h k e = ap (or_else_at no_mate) (lowest_first (λ c. same (group_at n q a) (group_at n r c)) n (nodes r) b (record {
    from = h;
    to = k;
    passes = eq_same _ _ e;
    none = λ c i j. not_yes _ (λ s. standard_distinct n r std c b i j k (sym (same_eq (group_at n q a) (group_at n r c) s) ∙ e));
  }))

  -- a mate is an inner node with the same group; where there is none, no inner node has it
  pub data Mated (b : ℕ) : Type 0 where
    mated : n ≤ b → b < nodes r → group_at n q a ≡ group_at n r b → Mated b
    alone : b ≡ no_mate → ((c : ℕ) → n ≤ c → c < nodes r → group_at n q a ≡ group_at n r c → ⊥) → Mated b

  pub mate : Mated (mate_of n q r a)
  unfolding mate_of
  mate = go (first (λ b. same (group_at n q a) (group_at n r b)) (range n (nodes r))) (scan (λ b. same (group_at n q a) (group_at n r b)) n (nodes r))
    where
      go : (p : Place) → Scan (λ b. same (group_at n q a) (group_at n r b)) n (nodes r) p → Mated (or_else_at no_mate p)
      go p (found i e w) = rw e (mated w.from w.to (same_eq _ _ w.passes))
      go p (missed e f) = rw e (alone refl (λ c h k s. false≢true (sym (f c h k) ∙ eq_same _ _ s)))

  -- there is a mate exactly if the row holds the group, where that has two samples
  pub mate_holds : Standard n r → 2 ≤ size_at n q a → not (eqb (mate_of n q r a) no_mate) ≡ holds n (group_at n q a) r
  mate_holds std two = rw (groups_split n r std.valid, member_append (group_at n q a) (tabulate n (single n) 0) (inner n r)) (go mate)
    where
      g : Group
      g = group_at n q a

      small : In g (tabulate n (single n) 0) → ⊥
      small m = let t = in_table n (single n) 0 g m in omega (arith, single_small n t.0, ap size t.3)

      go : Mated (mate_of n q r a) → not (eqb (mate_of n q r a) no_mate) ≡ (member g (tabulate n (single n) 0) || member g (inner n r))
      go (mated h k e) = rw (ne_eqb (mate_of n q r a) 0 (λ z. omega (arith, std.valid.least)))
          (sym (or_r (member g (tabulate n (single n) 0)) (member g (inner n r)) (rw e (inner_in n r (mate_of n q r a) h k))))
      go (alone e f) = rw (eq-eqb (mate_of n q r a) 0 e) (sym (not_yes _
          (λ m. ⊎_elim small (λ i. let t = in_inner n r g i in f t.0 t.1 t.2 (sym t.3))
          (or_cases (member g (tabulate n (single n) 0)) (member g (inner n r)) m))))

-- ---- one group: equal sizes, and the places of the second in the interval of the first

module _ (n : ℕ) (q r : List ℕ) (ok : Falls n q) (start : ℕ → ℕ) (laid : Starts n q start) (a b : ℕ) (ha : a < nodes q) where
  abbrev pub fits : Bool
  fits = fitting n (size_at n q a) (start a) (size_at n r b) (least_at n r start b) (least_at n r (from_end n start) b)

  -- H: a subset of equal size is equal
  pub fits_same : fits ≡ true → group_at n q a ≡ group_at n r b
  fits_same e = sym (within_eq (group_at n r b) (group_at n q a) (length_group n r b ∙ sym (length_group n q a)) within
      (omega (arith, eqb-true (size_at n q a) (size_at n r b) (and_l (eqb (size_at n q a) (size_at n r b)) (lows && highs) e))))
    where
      lows : Bool
      lows = leb (start a) (least_at n r start b)

      highs : Bool
      highs = leb n (start a + size_at n q a + least_at n r (from_end n start) b)

      within : Within (group_at n r b) (group_at n q a)
      within s m =
          let h : s < n = (group_has n r b s m).0 in
          let two : lows && highs ≡ true = and_r (eqb (size_at n q a) (size_at n r b)) (lows && highs) e in
          let x : start a ≤ least_at n r start b = leb-true _ _ (and_l lows highs two) in
          let y : n ≤ start a + size_at n q a + least_at n r (from_end n start) b = leb-true _ _ (and_r lows highs two) in
          placed n q ok start laid a s ha h ∙ and_both _ _ (le-leb (start a) (start s) (omega (arith, least_le start (group_at n r b) s m)))
          (lt-ltb (start s) (start a + size_at n q a) (omega (arith, place_low n q ok start laid s h, least_le (from_end n start) (group_at n r b) s m)))

  pub same_fits : 1 ≤ size_at n r b → group_at n q a ≡ group_at n r b → fits ≡ true
  same_fits z e =
      let l = lies (lowest (group_at n r b)) (lowest_has (group_at n r b) z) in
      and_both (eqb (size_at n q a) (size_at n r b)) _ (eq-eqb (size_at n q a) (size_at n r b) (ap size e))
      (and_both (leb (start a) (least_at n r start b)) _ (le-leb (start a) (least_at n r start b)
      (least_ge (start a) start (group_at n r b) (omega (arith, ok.most)) (λ t m. (lies t m).0)))
      (le-leb n (start a + size_at n q a + least_at n r (from_end n start) b)
      (omega (arith, least_ge (n - (start a + size_at n q a)) (from_end n start) (group_at n r b) (omega (arith, ok.most)) (λ t m. omega (arith, lies t m))))))
    where
      lies : (s : ℕ) → has (group_at n r b) s ≡ true → (start a ≤ start s) × (start s < start a + size_at n q a) × (start s < n)
      lies s m =
          let h : s < n = (group_has n r b s m).0 in
          let t = sym (placed n q ok start laid a s ha h) ∙ subst (λ (g : Group). has g s ≡ true) (sym e) m in (
            leb-true _ _ (and_l (leb (start a) (start s)) (ltb (start s) (start a + size_at n q a)) t),
            ltb-true _ _ (and_r (leb (start a) (start s)) (ltb (start s) (start a + size_at n q a)) t),
            place_low n q ok start laid s h,
          )

-- THE LOCKSTEP: only the candidate can have the group, and where it fits it has it
pub candidate_mate : (n : ℕ) (q r : List ℕ) → Standard n q → Standard n r → (start : ℕ → ℕ) → Starts n q start → (a b : ℕ) → n ≤ a → a < nodes q
    → b ≡ candidate_of n q r a
    → confirmed (nodes r) b (fitting n (size_at n q a) (start a) (size_at n r b) (least_at n r start b) (least_at n r (from_end n start) b)) ≡ mate_of n q r a
candidate_mate n q r qs rs start laid a b h k e = go (decide (ltb b (nodes r))) (decide (fit b))
  where
    ok : Falls n q
    ok = standard_falls n q qs

    w : Reaches (rank_at n r) n (nodes r) (rank_at n q a) b
    w = rw e (candidate_reaches (rank_at n r) n (nodes r) (rank_at n q a) (omega (arith, rs.valid.low)))

    fit : ℕ → Bool
    fit x = fitting n (size_at n q a) (start a) (size_at n r x) (least_at n r start x) (least_at n r (from_end n start) x)

    only : (x : ℕ) → n ≤ x → x < nodes r → group_at n q a ≡ group_at n r x → x ≡ b
    only x i j s = pick (tri x b)
      where
        level : rank_at n q a ≡ rank_at n r x
        level = ap (λ (g : Group). rank_of n (size g) (least_of own g)) s

        pick : Tri x b → x ≡ b
        pick (less y) = absurd (omega (arith, level, w.under x i y))
        pick (equal y) = y
        pick (more y) = absurd (omega (arith, level, w.reached (omega arith), rank_rises n r rs b x w.low y j))

    go : (ltb b (nodes r) ≡ true) ⊎ (ltb b (nodes r) ≡ false) → (fit b ≡ true) ⊎ (fit b ≡ false) → confirmed (nodes r) b (fit b) ≡ mate_of n q r a
    go (inl x) (inl y) = rw (x, y) (sym (mate_is n q r a rs b w.low (ltb-true b (nodes r) x) (fits_same n q r ok start laid a b k y)))
    go (inl x) (inr y) = rw (x, y) (sym (mate_none n q r a (λ z i j s. true≢false
        (sym (subst (λ (u : ℕ). fit u ≡ true) (only z i j s) (same_fits n q r ok start laid a z k (omega (arith, inner_two n r rs z i j)) s)) ∙ y))))
    go (inr x) y = rw x (sym (mate_none n q r a (λ z i j s. omega (arith, only z i j s, ltb-false b (nodes r) x))))
