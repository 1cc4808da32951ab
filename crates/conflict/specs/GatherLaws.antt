-- The walk up to the first node above two, the pass that joins what each node of a reference row has got, and what its tables tell.
-- Assumes nothing.
use Rattle.std.specs.Prelude.{ℕ, suc, ◌+◌, ◌-◌, ◌≤◌, ◌<◌, ◌≡◌, ◌⊎◌, List, Bool, true, not, eqb, length, set}
use Rattle.std.proofs.Common.{zero-le, sym, ap, ◌∙◌, subst, inl, inr, ⊎_elim, true≢false, arith, length-set, get_or-set_same, get_or-set_other, eqb-true}
use Rattle.std.proofs.lemmas.Bool.{eqb-false}
use Rattle.trees.specs.Groups.{Group, has, single, lowest}
use Rattle.trees.specs.Rows.{nodes, parent, group_at, holds}
use Rattle.trees.specs.Valid.{Standard}
use Rattle.trees.specs.Falls.{Falls}
use Rattle.trees.specs.Tables.{Tabled, Flags, table_words, entry, size_at, least_at}
use Rattle.trees.specs.Passes.{part, Stepped, Starts}
use Rattle.trees.specs.Mates.{from_end}
use Rattle.trees.proofs.BoolLaws.{not_yes, decide}
use Rattle.trees.proofs.NeverLaws.{side}
use Rattle.trees.proofs.ListLaws.{length_tabulate}
use Rattle.trees.proofs.GroupLaws.{has_lt, lowest_has, single_has, single_own}
use Rattle.trees.proofs.RowLaws.{Above, group_full, inner_two}
use Rattle.trees.proofs.FallsLaws.{standard_falls, few}
use Rattle.trees.proofs.TurnLaws.{due_low}
use Rattle.trees.proofs.PassLaws.{node_child, part_start, part_full, part_other, part_both}
use Rattle.sides.specs.Sides.{conflicts}
use Rattle.conflict.specs.declared.reach.Reach.{Reach}
use Rattle.conflict.specs.Paths.{Paths, Onward}
use Rattle.conflict.specs.PathLaws.{head_of, past_head}
use Rattle.conflict.specs.Spans.{Joined, up_from, lesser_of, Both, covers}
use Rattle.conflict.specs.SpanLaws.{joined_same, sample_joined, same_joined, climbed_start, climbed_up, join}
use Rattle.conflict.specs.HullLaws.{covers_agrees, sizes_hold}
use Rattle.conflict.specs.Gathering.{Got, NodeOrNone, Joins, Walk, Levelled, Ends}
use Rattle.conflict.specs.Gathering.{nothing, reach_at, Begins, Seeding, Handed, Gathered, Gauged, Reached}

-- ---- the table

-- what is stored is there, the others stay, and the table is as long as it was
module _ (t : List Reach) (v : ℕ) (x : Reach) where
  stored_long : length t ≡ table_words → length (set t v x) ≡ table_words
  stored_long e = length-set t v x ∙ e

  stored_here : v < length t → x ≡ reach_at (set t v x) v
  stored_here h = sym (get_or-set_same t v x nothing h)

  stored_there : (u : ℕ) → (u ≡ v → ⊥) → reach_at t u ≡ reach_at (set t v x) u
  stored_there u h = sym (get_or-set_other t v u x nothing h)

-- ---- the seeds

module _ (n : ℕ) (r : List ℕ) (f l : ℕ → ℕ) where
  pub seeding_start : (t : List Reach) → Seeding n r f l 0 t
  seeding_start t = record { begins = λ v h. absurd (omega arith) }

  pub seeding_more : (m : ℕ) (x : Reach) (t : List Reach) → m < length t → Seeding n r f l m t → Begins n r f l m x
      → Seeding n r f l (m + 1) (set t m x)
  seeding_more m x t k i b = record {
    begins = λ v h. ⊎_elim (λ q. here v (eqb-true v m q)) (λ q. there v (eqb-false v m q) h) (decide (eqb v m));
  }
    where
      here : (v : ℕ) → v ≡ m → Begins n r f l v (reach_at (set t m x) v)
      here v q = rw q (subst (Begins n r f l m) (stored_here t m x k) b)

      there : (v : ℕ) → (v ≡ m → ⊥) → v < m + 1 → Begins n r f l v (reach_at (set t m x) v)
      there v q h = subst (Begins n r f l v) (stored_there t m x v q) (i.begins v (omega arith))

-- ---- the walk

module _ (n : ℕ) (r : List ℕ) (rs : Standard n r) (f l : ℕ → ℕ) where
  rk : Falls n r
  rk = standard_falls n r rs

  pub walk_start : (a b : Reach) → n ≤ a.node → a.node < nodes r → n ≤ b.node → b.node < nodes r → Walk n r f l a b a b
  walk_start a b h i j k = record {
    left = climbed_start n r rk f l a h i;
    right = climbed_start n r rk f l b j k;
    common = λ v p q. (p, q);
  }

  module _ (a b x y : Reach) (ha : a.node < nodes r) (hb : b.node < nodes r) (w : Walk n r f l a b x y) (head next : List ℕ)
      (ps : Paths n r (nodes r) head next) where
    abbrev hx : ℕ
    hx = entry head x.node

    abbrev hy : ℕ
    hy = entry head y.node

    of_x : Above r hx x.node × (n ≤ hx) × (hx ≤ x.node)
    of_x = head_of n r rk head next ps x.node w.left.low w.left.high

    of_y : Above r hy y.node × (n ≤ hy) × (hy ≤ y.node)
    of_y = head_of n r rk head next ps y.node w.right.low w.right.high

    left_up : hy < hx → Walk n r f l a b (up_from r f l hx) y
    left_up h = record {
      left = climbed_up n r rk f l a x hx ha (omega (arith, of_y)) (omega (arith, of_x, w.left.high)) of_x.0 w.left;
      right = w.right;
      common = λ v p q. let t = w.common v p q in (
        past_head n r rk head next ps y.node x.node v w.right.low w.right.high w.left.low w.left.high h t.1 t.0,
        t.1,
      );
    }

    right_up : hx < hy → Walk n r f l a b x (up_from r f l hy)
    right_up h = record {
      left = w.left;
      right = climbed_up n r rk f l b y hy hb (omega (arith, of_x)) (omega (arith, of_y, w.right.high)) of_y.0 w.right;
      common = λ v p q. let t = w.common v p q in (
        t.0,
        past_head n r rk head next ps x.node y.node v w.left.low w.left.high w.right.low w.right.high h t.0 t.1,
      );
    }

    -- where the path of the one begins at a greater number it goes past it; the beginning is read as k, and the result as u
    pub walk_left : (k : ℕ) (u : Reach) → hy < k → k ≡ hx → u ≡ up_from r f l k → Walk n r f l a b u y
    walk_left k u h e t = rw (t, e) (left_up (omega arith))

    pub walk_right : (k : ℕ) (u : Reach) → hx < k → k ≡ hy → u ≡ up_from r f l k → Walk n r f l a b x u
    walk_right k u h e t = rw (t, e) (right_up (omega arith))

    -- the one that goes comes down
    pub left_lower : (k : ℕ) → hy < k → k ≡ hx → (k < nodes r) × (parent r k < x.node)
    left_lower k h e =
        let t : k < nodes r = omega (arith, of_x, w.left.high) in
        (t, omega (arith, of_x, (rk.down k (omega (arith, of_y)) t).1))

    pub right_lower : (k : ℕ) → hx < k → k ≡ hy → (k < nodes r) × (parent r k < y.node)
    right_lower k h e =
        let t : k < nodes r = omega (arith, of_y, w.right.high) in
        (t, omega (arith, of_y, (rk.down k (omega (arith, of_x)) t).1))

  -- ---- on one path

  pub levelled_stay : (x : ℕ) (y : Reach) → y.node ≤ x → Levelled n r f l x y y
  levelled_stay x y h = record { node = omega arith; climbed = λ a k c. c }

  pub levelled_up : (next : List ℕ) (x : ℕ) (y : Reach) (k : ℕ) (u : Reach) → x < y.node → Onward n r next x y.node → k ≡ entry next x
      → u ≡ up_from r f l k → Levelled n r f l x y u
  levelled_up next x y k u h o e t = rw (t, e) (record {
    node = omega (arith, o.up);
    climbed = λ a i c. climbed_up n r rk f l a y (entry next x) i o.low o.high o.above c;
  })

  -- the two nodes brought to one level are one
  pub levelled_ends : (x y u t : Reach) → Levelled n r f l y.node x u → Levelled n r f l x.node y t → Ends n r f l x y (lesser_of u t)
  levelled_ends x y u t i j = record { ends = λ a b h k m w. record { joins = go a b h k m w } }
    where
      one_of : (u.node ≡ x.node) ⊎ (u.node ≡ y.node)
      one_of = ⊎_elim (λ h. inl (omega (arith, i.node))) (λ h. inr (omega (arith, i.node))) (side y.node x.node)

      over : (v : ℕ) → Above r v x.node × Above r v y.node → Above r v u.node
      over v p = ⊎_elim (λ e. rw e p.0) (λ e. rw e p.1) one_of

      go : (a b : Reach) → n ≤ a.node → a.node < nodes r → b.node < nodes r → Walk n r f l a b x y → (g k z : Group) → Both g k z
          → Got n r f l g a → Joined n r f l k b → Joined n r f l z (lesser_of u t)
      go a b h p q w g k z e (inl c) d = absurd (omega (arith, c.0, rs.valid.least))
      go a b h p q w g k z e (inr c) d = join n r rk f l g k z a b u t e c d (i.climbed a p w.left) (j.climbed b q w.right)
          (omega (arith, i.node, j.node)) (λ v m o. let s = over v (w.common v m o) in (s, s))

  -- ---- nothing and a group

  -- nothing is joined to a group
  pub joins_none : (a b : Reach) → a.node ≡ 0 → Joins n r f l a b b
  joins_none a b e = record { joins = go }
    where
      go : (x y z : Group) → Both x y z → Got n r f l x a → Joined n r f l y b → Joined n r f l z b
      go x y z t (inl i) j = same_joined n r rk f l y z b (λ s. t s ∙ (rw (i.1 s))) j
      go x y z t (inr i) j = absurd (omega (arith, i.spans.low, rs.valid.least))

  got_node : (x : Group) (t : Reach) → Got n r f l x t → NodeOrNone n r t.node
  got_node x t (inl i) = inl i.0
  got_node x t (inr i) = inr (i.spans.low, i.spans.high)

-- ---- the pass

module _ (n : ℕ) (q r : List ℕ) (qs : Standard n q) (rs : Standard n r) (f l : ℕ → ℕ) where
  qk : Falls n q
  qk = standard_falls n q qs

  pub gathered_start : (t : List Reach) → Seeding n r f l (nodes q) t → Gathered n q r f l 0 t
  gathered_start t i = record { low = omega (arith, qk.low); got = λ p h. go p (i.begins p h) (side n p) }
    where
      go : (p : ℕ) → Begins n r f l p (reach_at t p) → (p < n) ⊎ (n ≤ p) → Got n r f l (part n q 0 p) (reach_at t p)
      go p b (inl k) = inr (subst (Joined n r f l (part n q 0 p)) (sym (b.leaf k)) (rw (part_start n q qk p)
          (sample_joined n r (standard_falls n r rs) f l (single n p) p k (single_own n p k) (λ s m. single_has n p s m))))
      go p b (inr k) = inl (b.inner k, λ s. rw (part_start n q qk p) (not_yes (has (single n p) s) (λ m. none s m)))
        where
          none : (s : ℕ) → has (single n p) s ≡ true → ⊥
          none s m = omega (arith, single_has n p s m, has_lt (single n p) s m, length_tabulate n (λ t. eqb t p) 0)

  -- what has a sample is joined
  got_joined : (x : Group) (t : Reach) (s : ℕ) → has x s ≡ true → Got n r f l x t → Joined n r f l x t
  got_joined x t s m (inl e) = absurd (true≢false (sym m ∙ e.1 s))
  got_joined x t s m (inr j) = j

  full_joined : (h : ℕ) (t : Reach) → h < nodes q → Got n r f l (group_at n q h) t → Joined n r f l (group_at n q h) t
  full_joined h t k g = let x = group_at n q h in got_joined x t (lowest x) (lowest_has x (group_full n q qs.valid h k)) g

  -- the node that is next is joined
  next_joined : (d v p : ℕ) (t : List Reach) → suc d < nodes q → Stepped n q d v p → Gathered n q r f l d t
      → Joined n r f l (part n q d v) (reach_at t v)
  next_joined d v p t h x i = let c = node_child n q qk d h in
      let e : part n q d v ≡ group_at n q v = part_full n q qk d v x.low (rw x.is (omega (arith, c.2))) in
      rw e (full_joined v (reach_at t v) x.low (rw e at (i.got v x.low)))

  -- the nodes that are handed on
  pub next_nodes : (d v p : ℕ) (t : List Reach) → suc d < nodes q → Stepped n q d v p → Gathered n q r f l d t
      → NodeOrNone n r (reach_at t p).node × (n ≤ (reach_at t v).node) × ((reach_at t v).node < nodes r)
  next_nodes d v p t h x i = let j = next_joined d v p t h x i in
      (got_node n r rs f l (part n q d p) (reach_at t p) (i.got p x.top), j.spans.low, j.spans.high)

  pub gathered_step : (d v p : ℕ) (t t' : List Reach) → length t ≡ table_words → suc d < nodes q → Stepped n q d v p
      → Gathered n q r f l d t → Handed n r f l v p t t' → Gathered n q r f l (suc d) t'
  gathered_step d v p t t' long h x i y = record {
    low = h;
    got = λ u k. ⊎_elim (λ e. here u (eqb-true u p e)) (λ e. there u k (eqb-false u p e)) (decide (eqb u p));
  }
    where
      both : Both (part n q d p) (part n q d v) (part n q (suc d) p)
      both = λ s. rw (x.up, x.is) (part_both n q qk d h s)

      joined : Joined n r f l (part n q (suc d) p) y.got
      joined = y.joins.joins (part n q d p) (part n q d v) (part n q (suc d) p) both (i.got p x.top) (next_joined d v p t h x i)

      here : (u : ℕ) → u ≡ p → Got n r f l (part n q (suc d) u) (reach_at t' u)
      here u e = rw (e, y.stored) (inr (subst (Joined n r f l (part n q (suc d) p))
          (stored_here t p y.got (omega (arith, x.top, few n q qk))) joined))

      there : (u : ℕ) → u < nodes q → (u ≡ p → ⊥) → Got n r f l (part n q (suc d) u) (reach_at t' u)
      there u k e = rw (part_other n q qk d u h k (λ z. e (z ∙ sym (x.up ∙ ap (parent q) x.is))), y.stored)
          (subst (Got n r f l (part n q d u)) (stored_there t p y.got u e) (i.got u k))

  pub gathered_end : (d : ℕ) (t : List Reach) → nodes q ≤ suc d → Gathered n q r f l d t → Gauged n q r f l t
  gathered_end d t h i = record {
    joined = λ u k. full_joined u (reach_at t u) k (rw (part_full n q qk d u k (omega (arith, due_low n q qk u k))) at (i.got u k));
  }

-- ---- what the tables tell

pub gauged_reached : (n : ℕ) (q r start first last : List ℕ) (t : List Reach) → Tabled (least_at n r (entry start)) 0 (nodes r) first
    → Tabled (least_at n r (from_end n (entry start))) 0 (nodes r) last → Gauged n q r (entry first) (entry last) t
    → Reached n q r (entry start) t
gauged_reached n q r start first last t tf tl g = record {
  joined = λ h k. joined_same n r (entry first) (entry last) _ _ (group_at n q h) (reach_at t h) (λ u i. tf.is u zero-le i)
      (λ u i. tl.is u zero-le i) (g.joined h k);
}

-- flags of a function are those of one with the same values
flags_same : (f g : ℕ → Bool) (a b : ℕ) (t : List Bool) → ((v : ℕ) → a ≤ v → v < b → f v ≡ g v) → Flags f a b t → Flags g a b t
flags_same f g a b t e i = record { is = λ v h k. i.is v h k ∙ e v h k }

-- the nodes reached are words of a table
pub reached_low : (n : ℕ) (q r start : List ℕ) (t : List Reach) → Standard n r → Reached n q r (entry start) t
    → (h : ℕ) → h < nodes q → (reach_at t h).node ≤ table_words - 1
reached_low n q r start t rs g h k = omega (arith, (g.joined h k).spans.high, few n r (standard_falls n r rs))

module _ (n : ℕ) (q r : List ℕ) (qs : Standard n q) (rs : Standard n r) (size start : List ℕ) (t : List Reach)
    (sized : Tabled (size_at n q) 0 (nodes q) size) (laid : Starts n q (entry start)) (g : Reached n q r (entry start) t)
    (m : ℕ) (e : m ≡ nodes q) (flags : List Bool) where
  -- AGREEMENT BY TABLES
  pub reached_agrees : Flags (λ h. covers n (entry size h) (entry start h) (reach_at t h).first (reach_at t h).last) n m flags
      → Flags (λ h. not (conflicts n (group_at n q h) r)) n (nodes q) flags
  reached_agrees u = rw e at (flags_same _ _ n m flags (λ h a b. is h (omega arith)) u)
    where
      is : (h : ℕ) → h < nodes q → covers n (entry size h) (entry start h) (reach_at t h).first (reach_at t h).last ≡ not (conflicts n (group_at n q h) r)
      is h k = rw (sized.is h zero-le k) (covers_agrees n r (standard_falls n r rs) q (standard_falls n q qs) (entry start) laid h k
          (reach_at t h) (g.joined h k))

  -- HOLDING BY TABLES
  pub reached_holds : (sizes : List ℕ) → Tabled (size_at n r) 0 (nodes r) sizes
      → Flags (λ h. eqb (entry size h) (entry sizes (reach_at t h).node)) n m flags → Flags (λ h. holds n (group_at n q h) r) n (nodes q) flags
  reached_holds sizes other u = rw e at (flags_same _ _ n m flags (λ h a b. is h a (omega arith)) u)
    where
      is : (h : ℕ) → n ≤ h → h < nodes q → eqb (entry size h) (entry sizes (reach_at t h).node) ≡ holds n (group_at n q h) r
      is h a k = rw (sized.is h zero-le k, other.is (reach_at t h).node zero-le (g.joined h k).spans.high)
          (sizes_hold n r (standard_falls n r rs) q (standard_falls n q qs) (entry start) laid h k (reach_at t h) (g.joined h k)
          (inner_two n q qs h a k))
