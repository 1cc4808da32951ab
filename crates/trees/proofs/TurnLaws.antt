-- The visiting order of a falling row: each node is done before its parent, so that every way up ends, at n. Assumes nothing.
use Rattle.std.specs.Prelude.{ℕ, zero, suc, ◌+◌, ◌-◌, ◌≤◌, ◌<◌, ◌≡◌, ◌⊎◌, List, true, false, eqb, get_or}
use Rattle.std.proofs.Common.{sym, ap, ◌∙◌, inl, inr, ⊎_elim, eq-or-lt_of_le}
use native.Mathlib.Omega.{arith}
use borrow.Author.Tests.{eqb-true, eqb-false, lt-ltb, le-ltb, eq-eqb, ne_eqb}
use Rattle.trees.specs.Lists.{range, weigh, count}
use Rattle.trees.specs.Rows.{nodes, parent, root_mark, child_of, meets, ends}
use Rattle.trees.specs.Checks.{row_words, children, fewest_children}
use Rattle.trees.specs.Valid.{Valid}
use Rattle.trees.specs.Rooted.{Rooted}
use Rattle.trees.specs.Falls.{Falls, turn, due}
use Rattle.trees.proofs.BoolLaws.{decide}
use Rattle.trees.proofs.ListLaws.{range_cons, in-range, weigh_none}
use Rattle.trees.proofs.NeverLaws.{side}
use Rattle.trees.proofs.WayLaws.{Met, here, up, met_to, meets_zero, ends_up, ends_here}
use Rattle.trees.proofs.RowLaws.{Above, top_of}

pub turn_leaf : (n m i : ℕ) → i < n → turn n m i ≡ i
unfolding turn
turn_leaf n m i h = rw (lt-ltb i n h)

pub turn_inner : (n m i : ℕ) → n ≤ i → turn n m i ≡ m + n - 1 - i
unfolding turn
turn_inner n m i h = rw (le-ltb i n h)

pub turn_low : (n m i : ℕ) → n < m → i < m → turn n m i < m
turn_low n m i a h = ⊎_elim (λ k. omega (arith, turn_leaf n m i k)) (λ k. omega (arith, turn_inner n m i k)) (side n i)

-- it is its own inverse
pub turn_turn : (n m i : ℕ) → n < m → i < m → turn n m (turn n m i) ≡ i
turn_turn n m i a h = ⊎_elim (λ k. ap (turn n m) (turn_leaf n m i k) ∙ turn_leaf n m i k)
    (λ k. turn_inner n m (turn n m i) (omega (arith, turn_inner n m i k)) ∙ omega (arith, turn_inner n m i k)) (side n i)

module _ (n : ℕ) (r : List ℕ) (ok : Falls n r) where
  pub due_low : (u : ℕ) → u < nodes r → due n r u < nodes r
  due_low u h = turn_low n (nodes r) u ok.low h

  pub due_due : (u : ℕ) → u < nodes r → due n r (due n r u) ≡ u
  due_due u h = turn_turn n (nodes r) u ok.low h

  -- each node is done at a time of its own
  pub due_one : (u v : ℕ) → u < nodes r → v < nodes r → due n r u ≡ due n r v → u ≡ v
  due_one u v h k e = sym (due_due u h) ∙ ap (due n r) e ∙ due_due v k

  pub due_root : due n r n ≡ nodes r - 1
  due_root = turn_inner n (nodes r) n (omega arith) ∙ omega arith

  -- the parent of any node but n is an inner node that is done later
  pub parent_in : (u : ℕ) → u < nodes r → (u ≡ n → ⊥) → (n ≤ parent r u) × (parent r u < nodes r) × (due n r u < due n r (parent r u))
  parent_in u h x = go (side n u)
    where
      go : (u < n) ⊎ (n ≤ u) → (n ≤ parent r u) × (parent r u < nodes r) × (due n r u < due n r (parent r u))
      go (inl k) = let p = ok.leaf u k in (p.0, p.1, omega (arith, turn_leaf n (nodes r) u k, turn_inner n (nodes r) (parent r u) p.0))
      go (inr k) = let p = ok.down u (omega arith) h in (
        p.0,
        omega arith,
        omega (arith, turn_inner n (nodes r) u k, turn_inner n (nodes r) (parent r u) p.0),
      )

  pub not_root : (u : ℕ) → child_of r root_mark u ≡ false → u ≡ n → ⊥
  not_root u e q = eqb-false (parent r u) root_mark e (ap (parent r) q ∙ ok.root)

  pub is_root : (u : ℕ) → u < nodes r → child_of r root_mark u ≡ true → u ≡ n
  is_root u h e = ⊎_elim (λ q. eqb-true u n q) (λ q. absurd (omega (
    arith,
    parent_in u h (eqb-false u n q),
    eqb-true (parent r u) root_mark e,
    ok.high,
    ok.most,
  ))) (decide (eqb u n))

  -- ---- the way up ends, at n

  ends_within : (f u : ℕ) → u < nodes r → nodes r ≤ due n r u + f → ends f r u ≡ true
  ends_within zero u h k = absurd (omega (arith, due_low u h))
  ends_within (suc f) u h k = go (decide (child_of r root_mark u)) (λ l m. ends_within f (parent r u) l m)
    where
      go : (child_of r root_mark u ≡ true) ⊎ (child_of r root_mark u ≡ false)
          → (parent r u < nodes r → nodes r ≤ due n r (parent r u) + f → ends f r (parent r u) ≡ true) → ends (suc f) r u ≡ true
      go (inl e) t = ends_here r f u e
      go (inr e) t = let p = parent_in u h (not_root u e) in ends_up r f u e ∙ t p.1 (omega arith)

  pub falls_rooted : Rooted n r
  falls_rooted = record {
    most = ok.most;
    low = ok.low;
    high = ok.high;
    leaf = ok.leaf;
    inside = λ v h e. let p = parent_in v h (not_root v e) in (p.0, p.1);
    reach = λ v h. ends_within (nodes r) v h (omega arith);
  }

  pub root_above : (u : ℕ) → u < nodes r → Above r n u
  root_above u h = let t = top_of n r falls_rooted u h in rw (is_root t.0 t.2 (eq-eqb _ _ t.3)) at t.4

  -- what is above a node is done no earlier
  pub above_due : (f w u : ℕ) → meets f r w u ≡ true → u < nodes r → due n r u ≤ due n r w
  above_due zero w u m h = rw (meets_zero r w u m) (omega arith)
  above_due (suc f) w u m h = go (met_to r f w u m) (λ q l. above_due f w (parent r u) q l)
    where
      go : Met r f w u → (meets f r w (parent r u) ≡ true → parent r u < nodes r → due n r (parent r u) ≤ due n r w) → due n r u ≤ due n r w
      go (here e) k = rw e (omega arith)
      go (up e q) k = let p = parent_in u h (not_root u e) in omega (arith, k q p.1)

  -- ---- what a falling row lacks to be valid

  one_root : count (child_of r root_mark) (range n (nodes r)) ≡ 1
  unfolding weigh
  one_root = rw (range_cons n (nodes r) ok.low, ok.root)
      (omega (
        arith,
        weigh_none (λ u. 1) (child_of r root_mark) (range (suc n) (nodes r))
            (λ v m. let h = in-range (suc n) (nodes r) v m in ne_eqb (parent r v) root_mark (λ q. omega (arith, ok.down v h.0 h.1, ok.high, ok.most))),
      ))

  pub falls_valid : ((w : ℕ) → nodes r < w → w < row_words n → get_or r w 0 ≡ 0) → ((v : ℕ) → n ≤ v → v < nodes r → fewest_children ≤ children r v) → Valid n r
  falls_valid zeros child = record {
    least = omega (arith, ok.low, ok.high);
    most = ok.most;
    words = ok.words;
    low = ok.low;
    high = ok.high;
    leaf = ok.leaf;
    up = λ v a h. ⊎_elim (λ e. inl (rw (← e) ok.root)) (λ e. let p = ok.down v e h in inr (p.0, omega arith)) (eq-or-lt_of_le a);
    one = one_root;
    filler = zeros;
    reach = falls_rooted.reach;
    child = child;
  }
