-- Paths made node by node; what is above two nodes of one path, and of two; what a node that begins a path has of its parent's samples.
-- Assumes nothing.
use Rattle.std.specs.Prelude.{ℕ, zero, suc, ◌+◌, ◌*◌, ◌≤◌, ◌<◌, ◌≡◌, refl, ◌⊎◌, List, [], ◌∷◌, true, false, eqb, length, set}
use Rattle.std.proofs.Common.{sym, ap, ◌∙◌, subst, inl, inr, ⊎_elim, true≢false, eq-or-lt_of_le, arith, length-set, get_or-set_same, get_or-set_other, eqb-true}
use Rattle.std.proofs.lemmas.Bool.{false≢true, eqb-false}
use Rattle.trees.specs.Lists.{zeros}
use Rattle.trees.specs.Groups.{Group, has, size}
use Rattle.trees.specs.Rows.{nodes, parent, group_at}
use Rattle.trees.specs.Valid.{Standard}
use Rattle.trees.specs.Rooted.{Rooted}
use Rattle.trees.specs.Falls.{Falls}
use Rattle.trees.specs.Tables.{table_words, entry, size_at}
use Rattle.trees.proofs.BoolLaws.{not_yes, decide}
use Rattle.trees.proofs.ListLaws.{length_zeros, get_or_zeros}
use Rattle.trees.proofs.NeverLaws.{side, Tri, less, equal, more, tri}
use Rattle.trees.proofs.WayLaws.{meets_refl, meets_past}
use Rattle.trees.proofs.GroupLaws.{within_size}
use Rattle.trees.specs.Groups.{Within, Apart}
use Rattle.trees.proofs.OrderLaws.{before_size}
use Rattle.trees.proofs.RowLaws.{Above, above_trans, child_above, child_within, no_leaf_above}
use Rattle.trees.proofs.StandardLaws.{node_before}
use Rattle.trees.proofs.FallsLaws.{standard_falls, few}
use Rattle.trees.proofs.TurnLaws.{turn_inner, falls_rooted, above_due}
use Rattle.conflict.specs.Paths.{Goes, begins, goes_on, Paths, Onward}
use Rattle.conflict.specs.ChildLaws.{one_child}

module _ (n : ℕ) (r : List ℕ) (ok : Falls n r) where
  -- ---- node by node

  pub paths_start : (head next : List ℕ) → length head ≡ table_words → next ≡ zeros table_words → Paths n r (n + 1) (set head n n) next
  paths_start head next l e = rw e (record {
    head_words = simp length-set l;
    next_words = length_zeros table_words;
    top = get_or-set_same head n n 0 (omega (arith, ok.most));
    goes = λ v a b. absurd (omega arith);
    child = λ p h. absurd (omega (arith, get_or_zeros table_words p));
  })

  -- an earlier node goes as before, where its parent does
  kept : (u v x : ℕ) (head next next' : List ℕ) → parent r u < u → u < v → entry next' (parent r u) ≡ entry next (parent r u)
      → Goes r head next u → Goes r (set head v x) next' u
  kept u v x head next next' h k e (begins a b c) = begins (get_or-set_other head v u x 0 (λ q. omega arith) ∙ a) (omega arith) (omega arith)
  kept u v x head next next' h k e (goes_on a b) = goes_on
      (get_or-set_other head v u x 0 (λ q. omega arith) ∙ a ∙ sym (get_or-set_other head v (parent r u) x 0 (λ q. omega arith))) (e ∙ b)

  module _ (v : ℕ) (head next : List ℕ) (i : Paths n r v head next) (a : n < v) (b : v < nodes r) where
    down : (n ≤ parent r v) × (parent r v < v)
    down = ok.down v a b

    room : v < table_words
    room = omega (arith, b, few n r ok)

    -- v begins a path: a child of its parent goes on already
    pub paths_begin : 0 < entry next (parent r v) → Paths n r (v + 1) (set head v v) next
    paths_begin h = record {
      head_words = simp length-set i.head_words;
      next_words = i.next_words;
      top = get_or-set_other head v n v 0 (λ q. omega arith) ∙ i.top;
      goes = λ u j k. ⊎_elim (λ q. here u (eqb-true u v q)) (λ q. there u j (omega (arith, eqb-false u v q))) (decide (eqb u v));
      child = λ p k. let t = i.child p k in (t.0, omega arith, t.2);
    }
      where
        here : (u : ℕ) → u ≡ v → Goes r (set head v v) next u
        here u q = rw q (begins (get_or-set_same head v v 0 (omega (arith, i.head_words, room))) h (i.child (parent r v) h).1)

        there : (u : ℕ) → n < u → u < v → Goes r (set head v v) next u
        there u j k = kept u v v head next next (ok.down u j (omega arith)).1 k refl (i.goes u j k)

    -- v goes on with its parent's, as no other child does
    pub paths_on : entry next (parent r v) ≡ 0 → Paths n r (v + 1) (set head v (entry head (parent r v))) (set next (parent r v) v)
    paths_on h = record {
      head_words = simp length-set i.head_words;
      next_words = simp length-set i.next_words;
      top = get_or-set_other head v n (entry head (parent r v)) 0 (λ q. omega arith) ∙ i.top;
      goes = λ u j k. ⊎_elim (λ q. here u (eqb-true u v q)) (λ q. there u j (omega (arith, eqb-false u v q))) (decide (eqb u v));
      child = λ p k. ⊎_elim (λ q. mine p (eqb-true p (parent r v) q)) (λ q. other p k (eqb-false p (parent r v) q))
          (decide (eqb p (parent r v)));
    }
      where
        next' : List ℕ
        next' = set next (parent r v) v

        stored : entry next' (parent r v) ≡ v
        stored = get_or-set_same next (parent r v) v 0 (omega (arith, i.next_words, room, down))

        here : (u : ℕ) → u ≡ v → Goes r (set head v (entry head (parent r v))) next' u
        here u q = rw q (goes_on (get_or-set_same head v (entry head (parent r v)) 0 (omega (arith, i.head_words, room))
            ∙ sym (get_or-set_other head v (parent r v) (entry head (parent r v)) 0 (λ z. omega (arith, down)))) stored)

        apart : (u : ℕ) → n < u → Goes r head next u → parent r u ≡ parent r v → ⊥
        apart u j (begins x y z) q = omega (arith, ap (entry next) q)
        apart u j (goes_on x y) q = omega (arith, ap (entry next) q)

        there : (u : ℕ) → n < u → u < v → Goes r (set head v (entry head (parent r v))) next' u
        there u j k = kept u v (entry head (parent r v)) head next next' (ok.down u j (omega arith)).1 k
            (get_or-set_other next (parent r v) (parent r u) v 0 (apart u j (i.goes u j k))) (i.goes u j k)

        mine : (p : ℕ) → p ≡ parent r v → (n < entry next' p) × (entry next' p < v + 1) × (parent r (entry next' p) ≡ p)
        mine p q = rw (q, stored) (a, omega arith, refl)

        other : (p : ℕ) → 0 < entry next' p → (p ≡ parent r v → ⊥)
            → (n < entry next' p) × (entry next' p < v + 1) × (parent r (entry next' p) ≡ p)
        other p k q =
            let e : entry next' p ≡ entry next p = get_or-set_other next (parent r v) p v 0 q in
            let t = i.child p (omega arith) in
            rw e (t.0, omega arith, t.2)

  -- ---- inner nodes

  rooted : Rooted n r
  rooted = falls_rooted n r ok

  -- what is above an inner node is inner, and has no greater number
  above_inner : (v u : ℕ) → n ≤ u → u < nodes r → Above r v u → (n ≤ v) × (v ≤ u)
  above_inner v u k l m = go (side n v)
    where
      go : (v < n) ⊎ (n ≤ v) → (n ≤ v) × (v ≤ u)
      go (inl h) = absurd (omega (arith, no_leaf_above n r rooted v u h l m))
      go (inr h) = let d = above_due n r ok (nodes r) v u m l in
          (h, omega (arith, ok.low, ok.high, turn_inner n (nodes r) u k, turn_inner n (nodes r) v h))

  -- what is above the parent is above the node
  over : (w v : ℕ) → n < v → v < nodes r → Above r w (parent r v) → Above r w v
  over w v a b m =
      above_trans n r rooted w (parent r v) v b (child_above n r rooted v (parent r v) b (omega (arith, ok.down v a b)) refl) m

  module _ (head next : List ℕ) (ps : Paths n r (nodes r) head next) where
    -- ---- where a path begins

    -- at or above the node
    abbrev AtHead : ℕ → Type 0
    AtHead v = Above r (entry head v) v × (n ≤ entry head v) × (entry head v ≤ v)

    head_from : (k v : ℕ) → v < k → n ≤ v → v < nodes r → AtHead v
    head_from zero v h a b = absurd (omega arith)
    head_from (suc k) v h a b = go (eq-or-lt_of_le a) (λ p l i j. head_from k p (omega arith) i j)
      where
        by : n < v → ((p : ℕ) → p < v → n ≤ p → p < nodes r → AtHead p) → Goes r head next v → AtHead v
        by c f (begins x y z) = rw x (meets_refl r (nodes r) v, a, omega arith)
        by c f (goes_on x y) =
            let d = ok.down v c b in
            let t = f (parent r v) d.1 d.0 (omega arith) in
            rw x (over (entry head (parent r v)) v c b t.0, t.1, omega (arith, t.2))

        go : (n ≡ v) ⊎ (n < v) → ((p : ℕ) → p < v → n ≤ p → p < nodes r → AtHead p) → AtHead v
        go (inl e) f = rw (← e, ps.top) (meets_refl r (nodes r) n, omega arith, omega arith)
        go (inr c) f = by c f (ps.goes v c b)

    pub head_of : (v : ℕ) → n ≤ v → v < nodes r → Above r (entry head v) v × (n ≤ entry head v) × (entry head v ≤ v)
    head_of v a b = head_from (suc v) v (omega arith) a b

    -- v is on the path of y, or above where that begins
    abbrev OnPath : ℕ → ℕ → Type 0
    OnPath v y = (entry head v ≡ entry head y) ⊎ ((n < entry head y) × Above r v (parent r (entry head y)))

    on_from : (k v y : ℕ) → y < k → n ≤ y → y < nodes r → Above r v y → OnPath v y
    on_from zero v y h a b m = absurd (omega arith)
    on_from (suc k) v y h a b m = ⊎_elim (λ q. inl (ap (entry head) (sym (eqb-true y v q))))
        (λ q. go (eqb-false y v q) (eq-or-lt_of_le a) (λ p l i j z. on_from k v p (omega arith) i j z)) (decide (eqb y v))
      where
        by : (y ≡ v → ⊥) → n < y → ((p : ℕ) → p < y → n ≤ p → p < nodes r → Above r v p → OnPath v p) → Goes r head next y → OnPath v y
        by q c f (begins x _ _) = inr (rw x (c, meets_past r (nodes r) v y q m))
        by q c f (goes_on x _) =
            let d = ok.down y c b in
            rw x (f (parent r y) d.1 d.0 (omega arith) (meets_past r (nodes r) v y q m))

        go : (y ≡ v → ⊥) → (n ≡ y) ⊎ (n < y) → ((p : ℕ) → p < y → n ≤ p → p < nodes r → Above r v p → OnPath v p) → OnPath v y
        go q (inl e) f = absurd (omega (arith, above_inner v y a b m))
        go q (inr c) f = by q c f (ps.goes y c b)

    -- what is above a node is on its path, or above where that begins
    on_path : (v y : ℕ) → n ≤ y → y < nodes r → Above r v y → OnPath v y
    on_path v y a b m = on_from (suc y) v y (omega arith) a b m

    -- DIFFERENT PATHS: what is above two nodes is above where the path that begins at the greater number begins
    pub past_head : (x y v : ℕ) → n ≤ x → x < nodes r → n ≤ y → y < nodes r → entry head x < entry head y → Above r v x → Above r v y
        → Above r v (parent r (entry head y))
    past_head x y v a b c d h i j =
        ⊎_elim (λ e. absurd (⊎_elim (λ q. omega arith) (λ q. high e q) (on_path v x a b i))) (λ t. t.1) (on_path v y c d j)
      where
        high : entry head v ≡ entry head y → (n < entry head x) × Above r v (parent r (entry head x)) → ⊥
        high e q =
            let t = head_of x a b in
            let p = ok.down (entry head x) q.0 (omega (arith, t.2)) in
            let w = above_inner v (parent r (entry head x)) p.0 (omega (arith, p.1, t.2)) q.1 in
            omega (arith, p.1, w.1, (head_of v w.0 (omega (arith, w.1, p.1, t.2))).2)

    -- ---- one path

    same_from : (k x y : ℕ) → x + y < k → n ≤ x → x < y → y < nodes r → entry head x ≡ entry head y → Onward n r next x y
    same_from zero x y h a b c e = absurd (omega arith)
    same_from (suc k) x y h a b c e = go (ps.goes y (omega arith) c) (λ u v q. same_from k u v (omega arith))
      where
        go : Goes r head next y
            → ((u v : ℕ) → u + v < x + y → n ≤ u → u < v → v < nodes r → entry head u ≡ entry head v → Onward n r next u v)
            → Onward n r next x y
        go (begins p _ _) f = absurd (omega (arith, (head_of x a (omega arith)).2))
        go (goes_on p q) f = by (tri x (parent r y))
          where
            d : (n ≤ parent r y) × (parent r y < y)
            d = ok.down y (omega arith) c

            by : Tri x (parent r y) → Onward n r next x y
            by (equal z) = let w : entry next x ≡ y = ap (entry next) z ∙ q in record {
              above = rw w (meets_refl r (nodes r) y);
              up = rw w (sym z);
              low = omega arith;
              high = omega arith;
            }
            by (less z) = let t = f x (parent r y) (omega (arith, d)) a z (omega (arith, d)) (e ∙ p) in record {
              above = over (entry next x) y (omega arith) c t.above;
              up = t.up;
              low = t.low;
              high = t.high;
            }
            by (more z) = absurd (omega (
              arith,
              above_inner y x a (omega arith)
                  (subst (λ (u : ℕ). Above r u x) q (f (parent r y) x (omega (arith, d)) d.0 z (omega arith) (sym (e ∙ p))).above),
            ))

    -- ONE PATH: from the upper of two nodes it goes on to the lower
    pub same_path : (x y : ℕ) → n ≤ x → x < y → y < nodes r → entry head x ≡ entry head y → Onward n r next x y
    same_path x y a b c e = same_from (suc (x + y)) x y (omega arith) a b c e

-- ---- the cost

-- two groups inside a third that share no sample
apart_sizes : (g h k : Group) → Within g k → Within h k → Apart g h → size g + size h ≤ size k
unfolding size
apart_sizes [] h k f e d = omega (arith, within_size h k e)
apart_sizes (x ∷ g) [] k f e d = omega (arith, within_size (x ∷ g) k f)
apart_sizes (x ∷ g) (y ∷ h) [] f e d = omega (arith, within_size (x ∷ g) [] f, within_size (y ∷ h) [] e)
apart_sizes (true ∷ g) (true ∷ h) (z ∷ k) f e d = absurd (true≢false (d 0 refl))
apart_sizes (true ∷ g) (false ∷ h) (false ∷ k) f e d = absurd (false≢true (f 0 refl))
apart_sizes (false ∷ g) (true ∷ h) (false ∷ k) f e d = absurd (false≢true (e 0 refl))
apart_sizes (true ∷ g) (false ∷ h) (true ∷ k) f e d = omega (arith, apart_sizes g h k (λ s. f (suc s)) (λ s. e (suc s)) (λ s. d (suc s)))
apart_sizes (false ∷ g) (true ∷ h) (true ∷ k) f e d = omega (arith, apart_sizes g h k (λ s. f (suc s)) (λ s. e (suc s)) (λ s. d (suc s)))
apart_sizes (false ∷ g) (false ∷ h) (true ∷ k) f e d = omega (arith, apart_sizes g h k (λ s. f (suc s)) (λ s. e (suc s)) (λ s. d (suc s)))
apart_sizes (false ∷ g) (false ∷ h) (false ∷ k) f e d = apart_sizes g h k (λ s. f (suc s)) (λ s. e (suc s)) (λ s. d (suc s))

-- THE COST: a node that begins a path has at most half of its parent's samples, so that a way up from any node passes few paths
pub begins_half : (n : ℕ) (r head next : List ℕ) → Standard n r → Paths n r (nodes r) head next → (v : ℕ) → n < v → v < nodes r
    → entry head v ≡ v → 2 * size_at n r v ≤ size_at n r (parent r v)
begins_half n r head next std ps v a b e = go (ps.goes v a b)
  where
    ok : Falls n r
    ok = standard_falls n r std

    p : ℕ
    p = parent r v

    d : (n ≤ p) × (p < v)
    d = ok.down v a b

    inside : (u : ℕ) → u < nodes r → parent r u ≡ p → Within (group_at n r u) (group_at n r p)
    inside u h q = child_within n r (falls_rooted n r ok) u p h (omega (arith, d)) q

    go : Goes r head next v → 2 * size_at n r v ≤ size_at n r p
    go (goes_on x y) = absurd (omega (arith, d, (head_of n r ok head next ps p d.0 (omega (arith, d))).2))
    go (begins x y z) = omega (
      arith,
      before_size (group_at n r u) (group_at n r v) (node_before n r std u v (omega (arith, c.0)) z b),
      apart_sizes (group_at n r u) (group_at n r v) (group_at n r p) (inside u c.1 c.2) (inside v b refl) apart,
    )
      where
        -- the sibling that goes on with their parent's path
        u : ℕ
        u = entry next p

        c : (n < u) × (u < nodes r) × (parent r u ≡ p)
        c = ps.child p y

        apart : Apart (group_at n r u) (group_at n r v)
        apart s m = not_yes (has (group_at n r v) s)
            (λ k. omega (arith, one_child n r ok u v p s c.1 b c.2 refl (omega (arith, d)) m k, z))
