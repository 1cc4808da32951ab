-- How the nodes that contain two groups are joined, and the hulls of the children that they touch. Assumes nothing.
use Rattle.std.specs.Prelude.{ℕ, ◌≤◌, ◌<◌, min, ◌≡◌, refl, ◌⊎◌, List, true, false}
use Rattle.std.proofs.Common.{sym, ◌∙◌, inl, inr, ⊎_elim, true≢false, arith}
use Rattle.trees.specs.Groups.{Group, has}
use Rattle.trees.specs.Rows.{nodes, parent, meets, group_at}
use Rattle.trees.specs.Rooted.{Rooted}
use Rattle.trees.specs.Falls.{Falls}
use Rattle.trees.proofs.BoolLaws.{or_cases, or_l, or_r, decide}
use Rattle.trees.proofs.NeverLaws.{side}
use Rattle.trees.proofs.WayLaws.{meets_refl, meets_past, meets_line}
use Rattle.trees.specs.Groups.{Within}
use Rattle.trees.proofs.RowLaws.{Above, group_has, in_group, above_trans, child_above, child_within, above_within}
use Rattle.trees.proofs.TurnLaws.{falls_rooted}
use Rattle.conflict.specs.declared.reach.Reach.{Reach}
use Rattle.conflict.specs.ChildLaws.{not_above, above_both, one_child}
use Rattle.conflict.specs.Spans.{Touches, Spans, Joined, up_from, lesser_of, Both, Climbed, Common}

-- functions with the same values at all nodes
pub joined_same : (n : ℕ) (r : List ℕ) (f l p m : ℕ → ℕ) (x : Group) (t : Reach) → ((u : ℕ) → u < nodes r → f u ≡ p u)
    → ((u : ℕ) → u < nodes r → l u ≡ m u) → Joined n r f l x t → Joined n r p m x t
joined_same n r f l p m x t e d j = record {
  spans = record {
    low = j.spans.low;
    high = j.spans.high;
    inside = j.spans.inside;
    under = λ u w. let k = j.spans.under u w in (omega (arith, e u w.low), omega (arith, d u w.low));
    first = let w = j.spans.first in (w.0, w.1, w.2 ∙ e w.0 w.1.low);
    last = let w = j.spans.last in (w.0, w.1, w.2 ∙ d w.0 w.1.low);
  };
  least = j.least;
}

module _ (n : ℕ) (r : List ℕ) (ok : Falls n r) (f l : ℕ → ℕ) where
  rooted : Rooted n r
  rooted = falls_rooted n r ok

  -- a group with more samples touches more
  wider : (x z : Group) (q u : ℕ) → Within x z → Touches n r x q u → Touches n r z q u
  wider x z q u w t = record { low = t.low; up = t.up; sample = t.sample; mine = w t.sample t.mine; its = t.its }

  -- a group with the same samples
  pub same_joined : (x z : Group) (t : Reach) → ((s : ℕ) → has z s ≡ has x s) → Joined n r f l x t → Joined n r f l z t
  same_joined x z t e j = record {
    spans = record {
      low = j.spans.low;
      high = j.spans.high;
      inside = λ s m. j.spans.inside s (sym (e s) ∙ m);
      under = λ u w. j.spans.under u (wider z x t.node u (λ s m. sym (e s) ∙ m) w);
      first = let w = j.spans.first in (w.0, more w.0 w.1, w.2);
      last = let w = j.spans.last in (w.0, more w.0 w.1, w.2);
    };
    least = λ u h p w. j.least u h p (λ s k. w s (e s ∙ k));
  }
    where
      more : (u : ℕ) → Touches n r x t.node u → Touches n r z t.node u
      more u w = wider x z t.node u (λ s m. e s ∙ m) w

  -- ---- a sample

  pub sample_joined : (x : Group) (s : ℕ) → s < n → has x s ≡ true → ((t : ℕ) → has x t ≡ true → t ≡ s)
      → Joined n r f l x (up_from r f l s)
  sample_joined x s h m only = record {
    spans = record {
      low = p.0;
      high = p.1;
      inside = λ t e. rw (only t e) (child_within n r rooted s (parent r s) k p.1 refl s own);
      under = λ u t. let e = same u t in (rw e (omega arith), rw e (omega arith));
      first = (s, touch, refl);
      last = (s, touch, refl);
    };
    least = λ u i e w. omega (arith, one_child n r ok u s (parent r s) s i k e refl p.1 (w s m) own);
  }
    where
      k : s < nodes r
      k = omega (arith, ok.low)

      p : (n ≤ parent r s) × (parent r s < nodes r)
      p = ok.leaf s h

      own : has (group_at n r s) s ≡ true
      own = in_group n r s s h (meets_refl r (nodes r) s)

      touch : Touches n r x (parent r s) s
      touch = record { low = k; up = refl; sample = s; mine = m; its = own }

      same : (u : ℕ) → Touches n r x (parent r s) u → u ≡ s
      same u t = one_child n r ok u s (parent r s) s t.low k t.up refl p.1 (rw (only t.sample t.mine) at t.its) own

  -- ---- going up

  -- to the parent of a node h at or above q, of which x touches h alone
  up_spans : (x : Group) (t : Reach) (h : ℕ) → n < h → h < nodes r → Above r h t.node → Spans n r f l x t
      → Spans n r f l x (up_from r f l h)
  up_spans x q h a b m i = record {
    low = p.0;
    high = k;
    inside = λ s e. child_within n r rooted h (parent r h) b k refl s (inside s e);
    under = λ u t. let e = same u t in (rw e (omega arith), rw e (omega arith));
    first = (h, touch, refl);
    last = (h, touch, refl);
  }
    where
      p : (n ≤ parent r h) × (parent r h < h)
      p = ok.down h a b

      k : parent r h < nodes r
      k = omega (arith, b, p)

      inside : Within x (group_at n r h)
      inside s e = above_within n r rooted q.node h m s (i.inside s e)

      touch : Touches n r x (parent r h) h
      touch = let t = i.first.1 in record { low = b; up = refl; sample = t.sample; mine = t.mine; its = inside t.sample t.mine }

      same : (u : ℕ) → Touches n r x (parent r h) u → u ≡ h
      same u t = one_child n r ok u h (parent r h) t.sample t.low b t.up refl k t.its (inside t.sample t.mine)

  pub climbed_start : (a : Reach) → n ≤ a.node → a.node < nodes r → Climbed n r f l a a
  climbed_start a h k = record { low = h; high = k; above = meets_refl r (nodes r) a.node; spans = λ g i. i }

  pub climbed_up : (a x : Reach) (h : ℕ) → a.node < nodes r → n < h → h < nodes r → Above r h x.node → Climbed n r f l a x
      → Climbed n r f l a (up_from r f l h)
  climbed_up a x h d k b m c = record {
    low = p.0;
    high = omega (arith, b, p);
    above = above_trans n r rooted (parent r h) h a.node d (above_trans n r rooted h x.node a.node d c.above m)
        (child_above n r rooted h (parent r h) b (omega (arith, b, p)) refl);
    spans = λ g i. up_spans g x h k b m (c.spans g i);
  }
    where
      p : (n ≤ parent r h) × (parent r h < h)
      p = ok.down h k b

  -- ---- two groups at one node

  module _ (x y z : Group) (e : Both x y z) where
    left : Within x z
    left s k = e s ∙ or_l (has x s) (has y s) k

    right : Within y z
    right s k = e s ∙ or_r (has x s) (has y s) k

    half : (s : ℕ) → has z s ≡ true → (has x s ≡ true) ⊎ (has y s ≡ true)
    half s m = or_cases (has x s) (has y s) (sym (e s) ∙ m)

    -- what z touches one of them does
    parted : (q u : ℕ) → Touches n r z q u → Touches n r x q u ⊎ Touches n r y q u
    parted q u t = ⊎_elim (λ m. inl (record { low = t.low; up = t.up; sample = t.sample; mine = m; its = t.its }))
        (λ m. inr (record { low = t.low; up = t.up; sample = t.sample; mine = m; its = t.its })) (half t.sample t.mine)

    -- the lesser of two places is one of them
    one_of : (q a b : ℕ) (k : ℕ → ℕ) → (u : ℕ) × Touches n r x q u × (a ≡ k u) → (u : ℕ) × Touches n r y q u × (b ≡ k u)
        → (u : ℕ) × Touches n r z q u × (min a b ≡ k u)
    one_of q a b k (u, t, c) (v, w, d) =
        ⊎_elim (λ h. (u, wider x z q u left t, omega arith)) (λ h. (v, wider y z q v right w, omega arith)) (side b a)

    spans_both : (u t : Reach) → t.node ≡ u.node → Spans n r f l x u → Spans n r f l y t → Spans n r f l z (lesser_of u t)
    spans_both u t o i j = record {
      low = i.low;
      high = i.high;
      inside = λ s m. ⊎_elim (i.inside s) (rw o at (j.inside s)) (half s m);
      under = λ v w. ⊎_elim (λ m. let k = i.under v m in (omega arith, omega arith))
          (λ m. let k = j.under v (rw o m) in (omega arith, omega arith))
          (parted u.node v w);
      first = one_of u.node u.first t.first f i.first (rw o at j.first);
      last = one_of u.node u.last t.last l i.last (rw o at j.last);
    }

  -- a child of q that contains a group joined at a, at or below q, is above a, or a sample
  half_least : (x : Group) (a : Reach) (q u : ℕ) → Joined n r f l x a → Above r q a.node → q < nodes r → u < nodes r → parent r u ≡ q
      → Within x (group_at n r u) → Above r u a.node ⊎ (u < n)
  half_least x a q u i m k h e w = ⊎_elim inl (λ z. inr (at_a z)) (decide (meets (nodes r) r u a.node))
    where
      s : ℕ
      s = i.spans.first.1.sample

      mine : has x s ≡ true
      mine = i.spans.first.1.mine

      at_a : meets (nodes r) r u a.node ≡ false → u < n
      at_a z = i.least u h (e ∙ above_both n r ok q a.node k i.spans.high m over_q) w
        where
          over_u : Above r a.node u
          over_u = ⊎_elim (λ p. p) (λ p. absurd (true≢false (sym p ∙ z)))
              (meets_line r (nodes r) u a.node s (group_has n r u s (w s mine)).1
              (group_has n r a.node s (i.spans.inside s mine)).1)

          over_q : Above r a.node q
          over_q = rw e at (meets_past r (nodes r) a.node u (λ p. true≢false (sym (rw (← p) (meets_refl r (nodes r) u)) ∙ z)) over_u)

  -- THE JOIN: from two nodes up to the first that is above both
  pub join : (x y z : Group) (a b u t : Reach) → Both x y z → Joined n r f l x a → Joined n r f l y b → Climbed n r f l a u
      → Climbed n r f l b t → t.node ≡ u.node → Common r a.node b.node u.node u.node → Joined n r f l z (lesser_of u t)
  join x y z a b u t e i j c d o m = record {
    spans = spans_both x y z e u t o (c.spans x i.spans) (d.spans y j.spans);
    least = λ v h p w. go v h p (half_least x a u.node v i c.above c.high h p (λ s k. w s (left x y z e s k)))
        (half_least y b u.node v j (rw o at d.above) c.high h p (λ s k. w s (right x y z e s k)));
  }
    where
      go : (v : ℕ) → v < nodes r → parent r v ≡ u.node → Above r v a.node ⊎ (v < n) → Above r v b.node ⊎ (v < n) → v < n
      go v h p (inl k) (inl w) = absurd (not_above n r ok v u.node h p c.high (m v k w).0)
      go v h p (inr k) w = k
      go v h p (inl k) (inr w) = w
