-- The passes over tables, step by step. Assumes nothing.
use Prim.Native.Nat.{ℕ, suc, ◌+◌, ◌-◌, ◌≤◌, ◌<◌, zero-le}
use mathlib.Core.Path.{◌≡◌, sym, ap, ◌∙◌}
use mathlib.Core.Logic.{⊎_elim}
use mathlib.Core.List.{List}
use native.Mathlib.Omega.{arith}
use native.Mathlib.Numerals.{add-one}
use lib.Dec.{eqb}
use lib.ListN.{length, get_or, set, take, drop, replicate, length-replicate, get_or-append, get_or-replicate}
use Rattle.std.proofs.lemmas.List.{length-append, get_or-append_right, get_or-take, length-take-le, take-append-drop}
use borrow.Rule.Slice.PartMut.{put_mid}
use mathlib.Core.List.{◌++◌}
use Rattle.trees.proofs.NeverLaws.{side}
use mathlib.Core.Logic.{◌⊎◌, inl, inr}
use lib.Seq.{get_or-set_same, get_or-set_other}
use borrow.Author.Tests.{eqb-true, eqb-false, lt-ltb, le-ltb}
use Rattle.trees.specs.Groups.{size}
use Rattle.trees.specs.Rows.{nodes, parent, root_mark, group_at}
use Rattle.trees.specs.Falls.{Falls, due}
use Rattle.trees.specs.Tables.{Tabled, table_words, entry, one, seeded, size_at}
use Rattle.trees.specs.Passes.{node, part, Stage, offset_at, Stepped, Offsets, Sized, Starts}
use Rattle.trees.proofs.BoolLaws.{decide}
use Rattle.trees.proofs.FallsLaws.{few}
use Rattle.trees.proofs.TurnLaws.{due_low, due_due, due_one, due_root}
use Rattle.trees.proofs.TableLaws.{Folds, adds, size_over}
use Rattle.trees.proofs.PassLaws.{node_child, node_parent, stage_step, stage_end, part_size, size_join}
use Rattle.trees.proofs.PlaceLaws.{offset_fits}
use Rattle.trees.proofs.LinearLaws.{size_most}

-- the pass that adds after d steps: what each node has got, and the offsets of the nodes done
pub record Adding (n : ℕ) (r : List ℕ) (d : ℕ) (t off : List ℕ) : Type 0 where
  pub sums : Stage n r ◌+◌ 0 one d t
  pub offs : Offsets n r d off

-- ---- what a pass starts with

-- a table whose first n words were written, the samples' keys, and then those up to w, each of them e
module _ (n w m : ℕ) (old y : List ℕ) (all : w ≡ m) where
  seeded_twice : (e : ℕ) (k : ℕ → ℕ) (x : List ℕ) → length x ≡ n → ((s : ℕ) → s < n → get_or x s 0 ≡ k s) → y ≡ replicate (w - n) e
      → Tabled (seeded n k e) 0 m (put_mid n (w - n) (x ++ old) y)
  seeded_twice e k x l f a = record { is = λ v b c. go v c (side n v) }
    where
      below : length (take n (x ++ old)) ≡ n
      below = length-take-le n (x ++ old) (rw length-append (omega arith))

      go : (v : ℕ) → v < m → (v < n) ⊎ (n ≤ v) → get_or (put_mid n (w - n) (x ++ old) y) v 0 ≡ seeded n k e v
      go v c (inl h) = rw (lt-ltb v n h)
          (get_or-append (take n (x ++ old)) _ 0 v (omega (arith, below)) ∙ get_or-take n (x ++ old) v 0 h ∙ get_or-append x old 0 v (omega arith) ∙ f v h)
      go v c (inr h) = rw (le-ltb v n h) (get_or-append_right (take n (x ++ old)) _ n v 0 below h
          ∙ get_or-append y _ 0 (v - n) (rw (a, length-replicate) (omega arith)) ∙ rw a (get_or-replicate (w - n) (v - n) e 0 (omega arith)))

  pub seeded_ones : (x : List ℕ) → x ≡ replicate n 1 → y ≡ replicate (w - n) 0 → Tabled (seeded n one 0) 0 m (put_mid n (w - n) (x ++ old) y)
  seeded_ones x e a = seeded_twice 0 one x (rw (e, length-replicate)) (λ s h. rw e (get_or-replicate n s 1 0 h)) a

  pub seeded_keys : (key x : List ℕ) → n ≤ length key → x ≡ take n key → y ≡ replicate (w - n) root_mark
      → Tabled (seeded n (entry key) root_mark) 0 m (put_mid n (w - n) (x ++ old) y)
  seeded_keys key x l e a = seeded_twice root_mark (entry key) x (rw e (length-take-le n key l)) (λ s h. rw e (get_or-take n key s 0 h)) a

-- the same where the samples' keys stand in the table already
pub seeded_front : (n w m e : ℕ) (k : ℕ → ℕ) (t y : List ℕ) → w ≡ m → n ≤ length t → Tabled k 0 n t → y ≡ replicate (w - n) e
    → Tabled (seeded n k e) 0 m (put_mid n (w - n) t y)
seeded_front n w m e k t y all h i a =
    rw (take-append-drop n t) at (seeded_twice n w m (drop n t) y all e k (take n t) (length-take-le n t h)
    (λ s b. get_or-take n t s 0 b ∙ i.is s zero-le b) a)

module _ (n : ℕ) (r : List ℕ) (ok : Falls n r) where
  pub passing_step : (op : ℕ → ℕ → ℕ) (e : ℕ) → Folds op e → (k : ℕ → ℕ) (d : ℕ) (t t' : List ℕ) (v p : ℕ) → d + 1 < nodes r → Stepped n r d v p
      → length t ≡ table_words → t' ≡ set t p (op (get_or t p 0) (get_or t v 0)) → Stage n r op e k d t → Stage n r op e k (d + 1) t'
  passing_step op e f k d t t' v p h x l a i =
      rw (a, add-one, x.up, x.is) (stage_step n r ok op e f k d t (omega arith) (omega (arith, few n r ok, l)) i)

  -- ---- sizes and offsets

  -- what p has got when v is done, and that it can take what v has
  pub adding_room : (d : ℕ) (t off : List ℕ) (v p : ℕ) → d + 1 < nodes r → Stepped n r d v p → Adding n r d t off
      → (get_or t p 0 ≡ offset_at n r d) × (get_or t p 0 + get_or t v 0 ≤ n)
  adding_room d t off v p h x i =
      let a : get_or t p 0 ≡ offset_at n r d = (rw (x.up, x.is) (i.sums.is (parent r (node n r d)) zero-le (node_parent n r ok d (omega arith)).1
      ∙ sym (size_over (part n r d (parent r (node n r d))) 0))) in
      let b : get_or t v 0 ≡ size (part n r d (node n r d)) = (rw x.is
      (i.sums.is (node n r d) zero-le (node_child n r ok d (omega arith)).0 ∙ sym (size_over (part n r d (node n r d)) 0))) in
      (a, omega (arith, size_join n r ok d (omega arith), part_size n r ok (suc d) (parent r (node n r d))))

  offsets_more : (d : ℕ) (t : List ℕ) (x : ℕ) → suc d < nodes r → length t ≡ table_words → x ≡ offset_at n r d → Offsets n r d t
      → Offsets n r (suc d) (set t (node n r d) x)
  offsets_more d t x h l e o = record { at = λ i k. ⊎_elim (λ q. here i (eqb-true i d q)) (λ q. there i k (eqb-false i d q)) (decide (eqb i d)) }
    where
      here : (i : ℕ) → i ≡ d → get_or (set t (node n r d) x) (node n r i) 0 ≡ offset_at n r i
      here i q = rw q (get_or-set_same t (node n r d) x 0 (omega (arith, (node_child n r ok d h).0, few n r ok)) ∙ e)

      there : (i : ℕ) → i < suc d → (i ≡ d → ⊥) → get_or (set t (node n r d) x) (node n r i) 0 ≡ offset_at n r i
      there i k q = get_or-set_other t (node n r d) (node n r i) x 0 (λ s. q (due_one n r ok i d (omega arith) (omega arith) s)) ∙ o.at i (omega arith)

  pub adding_step : (d : ℕ) (t off t' off' : List ℕ) (v p : ℕ) → d + 1 < nodes r → Stepped n r d v p → length t ≡ table_words
      → length off ≡ table_words → t' ≡ set t p (get_or t p 0 + get_or t v 0) → off' ≡ set off v (get_or t p 0) → Adding n r d t off
      → Adding n r (d + 1) t' off'
  adding_step d t off t' off' v p h x l k a b i = record {
    sums = passing_step ◌+◌ 0 adds one d t t' v p h x l a i.sums;
    offs = rw (b, add-one, x.is) (offsets_more d off (get_or t p 0) (omega arith) k (adding_room d t off v p h x i).0 i.offs);
  }

  pub adding_end : (t off : List ℕ) → Adding n r (nodes r - 1) t off → Sized n r t off
  adding_end t off i = record {
    sizes = record
        { is = λ v a b. (stage_end n r ok ◌+◌ 0 one (nodes r - 1) t (omega (arith, ok.low)) i.sums).is v a b ∙ sym (size_over (group_at n r v) 0) };
    offs = i.offs;
  }

-- ---- starts of intervals, from the root down

-- the starts of the root and of the nodes of the steps from j on, and room for each interval
pub record Laying (n : ℕ) (r : List ℕ) (j : ℕ) (t : List ℕ) : Type 0 where
  pub top : get_or t n 0 ≡ 0
  pub laid : (d : ℕ) → j ≤ d → suc d < nodes r → get_or t (node n r d) 0 ≡ get_or t (parent r (node n r d)) 0 + offset_at n r d
  pub room : (u : ℕ) → u < nodes r → j ≤ due n r u → get_or t u 0 + size_at n r u ≤ n

module _ (n : ℕ) (r : List ℕ) (ok : Falls n r) where
  pub laying_start : (t : List ℕ) → get_or t n 0 ≡ 0 → Laying n r (nodes r - 1) t
  laying_start t e = record {
    top = e;
    laid = λ d a b. absurd (omega arith);
    room = λ u h k. let q : u ≡ n = due_one n r ok u n h ok.low (omega (arith, due_root n r ok, due_low n r ok u h)) in rw (q, e)
        (omega (arith, size_most n r n));
  }

  module _ (j : ℕ) (t : List ℕ) (v p o : ℕ) (h : suc j < nodes r) (x : Stepped n r j v p) (e : o ≡ offset_at n r j) (i : Laying n r (suc j) t) where
    -- what is laid at v fits
    pub laying_room : get_or t p 0 + o + size_at n r v ≤ n
    laying_room = rw (e, x.up, x.is) (omega (
      arith,
      offset_fits n r ok j h,
      i.room (parent r (node n r j)) (node_parent n r ok j h).1
          (node_parent n r ok j h).2,
    ))

    -- what is done later is not v, and keeps its start
    later : (u : ℕ) → suc j ≤ due n r u → u ≡ v → ⊥
    later u k q = omega (arith, ap (due n r) (q ∙ x.is), (node_child n r ok j h).2)

    kept : (u : ℕ) → suc j ≤ due n r u → get_or (set t v (get_or t p 0 + o)) u 0 ≡ get_or t u 0
    kept u k = get_or-set_other t v u (get_or t p 0 + o) 0 (later u k)

    pub laying_step : (t' : List ℕ) → length t ≡ table_words → t' ≡ set t v (get_or t p 0 + o) → Laying n r j t'
    laying_step t' l a = rw a (record {
      top = kept n (omega (arith, due_root n r ok)) ∙ i.top;
      laid = λ d b k. ⊎_elim (λ q. here d (eqb-true d j q)) (λ q. there d b k (eqb-false d j q)) (decide (eqb d j));
      room = λ u b k. ⊎_elim (λ q. let y : u ≡ v = eqb-true u v q in rw (y, new) laying_room) (λ q. other u b k (eqb-false u v q)) (decide (eqb u v));
    })
      where
        new : get_or (set t v (get_or t p 0 + o)) v 0 ≡ get_or t p 0 + o
        new = get_or-set_same t v (get_or t p 0 + o) 0 (omega (arith, x.low, few n r ok, l))

        here : (d : ℕ) → d ≡ j → get_or (set t v (get_or t p 0 + o)) (node n r d) 0 ≡ get_or (set t v (get_or t p 0 + o)) (parent r (node n r d)) 0 + offset_at n r d
        here d q =
            let y : get_or (set t v (get_or t p 0 + o)) (node n r j) 0 ≡ get_or t p 0 + o = ap (λ (z : ℕ). get_or (set t v (get_or t p 0 + o)) z 0) (sym x.is) ∙ new in
            let z : get_or t p 0 ≡ get_or t (parent r (node n r j)) 0 = ap (λ (z : ℕ). get_or t z 0) (x.up ∙ ap (parent r) x.is) in
            rw q (omega (arith, kept (parent r (node n r j)) (node_parent n r ok j h).2))

        there : (d : ℕ) → j ≤ d → suc d < nodes r → (d ≡ j → ⊥) → get_or (set t v (get_or t p 0 + o)) (node n r d) 0 ≡ get_or (set t v (get_or t p 0 + o))
            (parent r (node n r d)) 0 + offset_at n r d
        there d b k q = rw (
          kept (node n r d) (omega (arith, (node_child n r ok d k).2)),
          kept (parent r (node n r d))
              (omega (arith, (node_parent n r ok d k).2)),
        ) (i.laid d (omega arith) k)

        other : (u : ℕ) → u < nodes r → j ≤ due n r u → (u ≡ v → ⊥) → get_or (set t v (get_or t p 0 + o)) u 0 + size_at n r u ≤ n
        other u b k q =
            let y : due n r u ≡ j → ⊥ = λ z. q (sym (due_due n r ok u b) ∙ ap (due n r) z ∙ sym x.is) in
            let z : suc j ≤ due n r u = omega arith in rw (kept u z) (i.room u b z)

pub laying_end : (n : ℕ) (r t : List ℕ) → Laying n r 0 t → Starts n r (entry t)
laying_end n r t i = record { top = i.top; child = λ d h. i.laid d zero-le h }
