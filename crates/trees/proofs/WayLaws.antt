-- The way up in any row: what is met on it, and that it ends within as many steps as there are nodes, or never. Assumes nothing.
use Rattle.trees.specs.Rows.{Closed}
use Prim.Native.Nat.{ℕ, zero, suc, ◌+◌, ◌≤◌, ◌<◌, zero-le}
use Rattle.std.specs.Prelude.{◌≡◌, ◌⊎◌, List, Bool, ◌&&◌, ◌||◌, not, eqb}
use Rattle.std.proofs.Math.Path.{refl}
use Rattle.std.proofs.Common.{sym, ◌∙◌, inl, inr, le_of_suc-le-suc, eq-or-lt_of_le, zero-add, suc-add, arith}
use Rattle.std.proofs.Math.Bool.{true, false}
use Rattle.std.proofs.lemmas.Bool.{false≢true}
use Rattle.std.proofs.Math.Nat.{add-zero, add-suc}
use borrow.Author.Tests.{eqb-true, eqb-false, eq-eqb, not-true}
use Rattle.trees.specs.Lists.{range, count}
use Rattle.trees.specs.Rows.{parent, root_mark, child_of, meets, ends}
use Rattle.trees.proofs.BoolLaws.{and_l, and_r, or_cases, or_r, true_eq}
use Rattle.trees.proofs.ListLaws.{length_range, range_in, weigh_mono, count_tight, count_le_length}

module _ (r : List ℕ) where
  -- v is u, or is met from u's parent on
  pub data Met (f v u : ℕ) : Type 0 where
    here : u ≡ v → Met f v u
    up : child_of r root_mark u ≡ false → meets f r v (parent r u) ≡ true → Met f v u

  pub met_to : (f v u : ℕ) → meets (suc f) r v u ≡ true → Met f v u
  unfolding meets
  met_to f v u e = go (or_cases (eqb u v) (not (child_of r root_mark u) && meets f r v (parent r u)) e)
    where
      go : (eqb u v ≡ true) ⊎ (not (child_of r root_mark u) && meets f r v (parent r u) ≡ true) → Met f v u
      go (inl p) = here (eqb-true u v p)
      go (inr p) = up (not-true _ (and_l _ (meets f r v (parent r u)) p)) (and_r (not (child_of r root_mark u)) _ p)

  pub met_from : (f v u : ℕ) → Met f v u → meets (suc f) r v u ≡ true
  unfolding meets
  met_from f v u (here p) = rw (eq-eqb u v p)
  met_from f v u (up p q) = or_r (eqb u v) (not (child_of r root_mark u) && meets f r v (parent r u)) (rw (p, q))

  pub meets_refl : (f v : ℕ) → meets f r v v ≡ true
  unfolding meets
  meets_refl zero v = eq-eqb v v refl
  meets_refl (suc f) v = met_from f v v (here refl)

  pub meets_zero : (v u : ℕ) → meets 0 r v u ≡ true → u ≡ v
  unfolding meets
  meets_zero v u e = eqb-true u v e

  pub meets_more : (f g v u : ℕ) → f ≤ g → meets f r v u ≡ true → meets g r v u ≡ true
  meets_more zero g v u h e = rw (meets_zero v u e) (meets_refl g v)
  meets_more (suc f) zero v u h e = absurd (omega arith)
  meets_more (suc f) (suc g) v u h e = met_from g v u (go (met_to f v u e) (λ q. meets_more f g v (parent r u) (le_of_suc-le-suc h) q))
    where
      go : Met f v u → (meets f r v (parent r u) ≡ true → meets g r v (parent r u) ≡ true) → Met g v u
      go (here p) k = here p
      go (up p q) k = up p (k q)

  pub meets_trans : (f g w v u : ℕ) → meets f r v u ≡ true → meets g r w v ≡ true → meets (f + g) r w u ≡ true
  meets_trans zero g w v u a b = rw (zero-add, meets_zero v u a) b
  meets_trans (suc f) g w v u a b = rw suc-add (go (met_to f v u a) (λ q. meets_trans f g w v (parent r u) q b))
    where
      go : Met f v u → (meets f r v (parent r u) ≡ true → meets (f + g) r w (parent r u) ≡ true) → meets (suc (f + g)) r w u ≡ true
      go (here p) k = rw p (meets_more g (suc (f + g)) w v (omega arith) b)
      go (up p q) k = met_from (f + g) w u (up p (k q))

  -- what is met from u on, and is not u, is met from its parent on
  pub meets_past : (f w u : ℕ) → (u ≡ w → ⊥) → meets f r w u ≡ true → meets f r w (parent r u) ≡ true
  meets_past f w u x m = go (met_to f w u (meets_more f (suc f) w u (omega arith) m))
    where
      go : Met f w u → meets f r w (parent r u) ≡ true
      go (here e) = absurd (x e)
      go (up e q) = q

  -- the node below w on the way up from v
  pub below : (m : ℕ) → Closed m r → (f w v : ℕ) → meets f r w v ≡ true → v < m → (v ≡ w → ⊥)
      → (c : ℕ) × (c < m) × (parent r c ≡ w) × (meets f r c v ≡ true)
  below m in-m zero w v a h x = absurd (x (meets_zero w v a))
  below m in-m (suc f) w v a h x = go (met_to f w v a) (eqb (parent r v) w) refl (λ e q l. below m in-m f w (parent r v) q l e)
    where
      go : Met f w v → (b : Bool) → eqb (parent r v) w ≡ b
          → ((parent r v ≡ w → ⊥) → meets f r w (parent r v) ≡ true → parent r v < m → (c : ℕ) × (c < m) × (parent r c ≡ w) ×
          (meets f r c (parent r v) ≡ true))
          → (c : ℕ) × (c < m) × (parent r c ≡ w) × (meets (suc f) r c v ≡ true)
      go (here e) b p k = absurd (x e)
      go (up e q) true p k = (v, h, eqb-true _ _ p, meets_refl (suc f) v)
      go (up e q) false p k = let t = k (eqb-false _ _ p) q (in-m v h e) in (t.0, t.1, t.2, met_from f t.0 v (up e t.3))

  -- of two nodes that are met from one, one is met from the other
  pub meets_line : (f v w u : ℕ) → meets f r v u ≡ true → meets f r w u ≡ true → (meets f r w v ≡ true) ⊎ (meets f r v w ≡ true)
  meets_line zero v w u a b = inl (rw (← meets_zero v u a) b)
  meets_line (suc f) v w u a b = go (met_to f v u a) (met_to f w u b) (λ p q. meets_line f v w (parent r u) p q)
    where
      go : Met f v u → Met f w u → (meets f r v (parent r u) ≡ true → meets f r w (parent r u) ≡ true → (meets f r w v ≡ true) ⊎
          (meets f r v w ≡ true)) → (meets (suc f) r w v ≡ true) ⊎ (meets (suc f) r v w ≡ true)
      go (here p) n k = inl (rw (← p) b)
      go (up p q) (here e) k = inr (rw (← e) a)
      go (up p q) (up s t) k = more (k q t)
        where
          more : (meets f r w v ≡ true) ⊎ (meets f r v w ≡ true) → (meets (suc f) r w v ≡ true) ⊎ (meets (suc f) r v w ≡ true)
          more (inl x) = inl (meets_more f (suc f) w v (omega arith) x)
          more (inr x) = inr (meets_more f (suc f) v w (omega arith) x)

  -- ---- the way up ends

  pub ends_up : (f u : ℕ) → child_of r root_mark u ≡ false → ends (suc f) r u ≡ ends f r (parent r u)
  unfolding ends
  ends_up f u e = rw e

  pub ends_here : (f u : ℕ) → child_of r root_mark u ≡ true → ends (suc f) r u ≡ true
  unfolding ends
  ends_here f u e = rw e

  pub ends_none : (u : ℕ) → ends 0 r u ≡ false
  unfolding ends
  ends_none u = refl

  -- beyond the end nothing more is met
  pub meets_less : (f g v u : ℕ) → ends f r u ≡ true → meets g r v u ≡ true → meets f r v u ≡ true
  meets_less zero g v u e m = absurd (false≢true (sym (ends_none u) ∙ e))
  meets_less (suc f) zero v u e m = rw (meets_zero v u m) (meets_refl (suc f) v)
  meets_less (suc f) (suc g) v u e m = met_from f v u (go (met_to g v u m) (λ p q. meets_less f g v (parent r u) p q))
    where
      go : Met g v u → (ends f r (parent r u) ≡ true → meets g r v (parent r u) ≡ true → meets f r v (parent r u) ≡ true) → Met f v u
      go (here p) k = here p
      go (up p q) k = up p (k (sym (ends_up f u p) ∙ e) q)

  -- no way up comes back
  at-end : (c v f u : ℕ) → u ≡ c → parent r c ≡ v → eqb v root_mark ≡ false → ends (suc f) r u ≡ true → (h : ℕ) × (h < suc f) × (ends h r v ≡ true)
  at-end c v f u q p n e = let t : parent r u ≡ v = (rw q p) in (f, omega arith, rw t at (sym (ends_up f u (rw t n)) ∙ e))

  shorter : (g c v f u : ℕ) → meets g r c u ≡ true → parent r c ≡ v → eqb v root_mark ≡ false → ends f r u ≡ true → (h : ℕ) × (h < f) × (ends h r v ≡ true)
  shorter g c v zero u m p n e = absurd (false≢true (sym (ends_none u) ∙ e))
  shorter zero c v (suc f) u m p n e = at-end c v f u (meets_zero c u m) p n e
  shorter (suc g) c v (suc f) u m p n e = go (met_to g c u m) (λ q k. shorter g c v f (parent r u) q p n k)
    where
      go : Met g c u → (meets g r c (parent r u) ≡ true → ends f r (parent r u) ≡ true → (h : ℕ) × (h < f) × (ends h r v ≡ true))
          → (h : ℕ) × (h < suc f) × (ends h r v ≡ true)
      go (here q) k = at-end c v f u q p n e
      go (up d q) k = let t = k q (sym (ends_up f u d) ∙ e) in (t.0, omega arith, t.2)

  pub no_loop : (b f g c v : ℕ) → f < b → meets g r c v ≡ true → parent r c ≡ v → eqb v root_mark ≡ false → ends f r v ≡ true → ⊥
  no_loop zero f g c v h m p n e = omega arith
  no_loop (suc b) f g c v h m p n e = let t = shorter g c v f v m p n e in no_loop b t.0 g c v (omega arith) m p n t.2

  pub ends_more : (f v : ℕ) → ends f r v ≡ true → ends (suc f) r v ≡ true
  unfolding ends
  ends_more zero v e = absurd (false≢true e)
  ends_more (suc f) v e = go (or_cases (child_of r root_mark v) (ends f r (parent r v)) e) (λ q. ends_more f (parent r v) q)
    where
      go : (child_of r root_mark v ≡ true) ⊎ (ends f r (parent r v) ≡ true) → (ends f r (parent r v) ≡ true → ends (suc f) r (parent r v) ≡ true)
          → ends (suc (suc f)) r v ≡ true
      go (inl p) k = rw p
      go (inr p) k = or_r (child_of r root_mark v) (ends (suc f) r (parent r v)) (k p)

-- ---- ever is within m steps: the nodes whose way up ends within f steps are counted; from one f to the next there are more, or never more

module _ (r : List ℕ) (m : ℕ) (closed : Closed m r) where
  Stable : ℕ → Type 0
  Stable f = (v : ℕ) → v < m → ends f r v ≡ ends (suc f) r v

  stable_next : (f : ℕ) → Stable f → Stable (suc f)
  unfolding Stable ends
  stable_next f s v h = go (child_of r root_mark v) refl
    where
      go : (b : Bool) → child_of r root_mark v ≡ b → b || ends f r (parent r v) ≡ (b || ends (suc f) r (parent r v))
      go true p = refl
      go false p = s (parent r v) (closed v h p)

  level : (f : ℕ) → count (ends (suc f) r) (range 0 m) ≤ count (ends f r) (range 0 m) → Stable f
  unfolding Stable
  level f e v h = true_eq _ _ (ends_more r f v) (count_tight (ends f r) (ends (suc f) r) (range 0 m) (λ x i. ends_more r f x) e v (range_in 0 m v zero-le h))

  grown : (f : ℕ) → count (ends f r) (range 0 m) ≤ count (ends (suc f) r) (range 0 m)
  grown f = weigh_mono (λ x. 1) (ends f r) (ends (suc f) r) (range 0 m) (λ x i. ends_more r f x)

  progress : (f : ℕ) → Stable f ⊎ (f ≤ count (ends f r) (range 0 m))
  progress zero = inr zero-le
  progress (suc f) = go (progress f) (eq-or-lt_of_le (grown f))
    where
      go : Stable f ⊎ (f ≤ count (ends f r) (range 0 m))
          → (count (ends f r) (range 0 m) ≡ count (ends (suc f) r) (range 0 m)) ⊎ (count (ends f r) (range 0 m) < count (ends (suc f) r) (range 0 m))
          → Stable (suc f) ⊎ (suc f ≤ count (ends (suc f) r) (range 0 m))
      go (inl s) c = inl (stable_next f s)
      go (inr h) (inl e) = inl (stable_next f (level f (omega arith)))
      go (inr h) (inr l) = inr (omega arith)

  stable : Stable m
  stable = go (progress m)
    where
      go : Stable m ⊎ (m ≤ count (ends m r) (range 0 m)) → Stable m
      go (inl s) = s
      go (inr h) = level m (omega (arith, count_le_length (ends (suc m) r) (range 0 m), length_range 0 m))

  stable_add : (d v : ℕ) → v < m → (ends m r v ≡ ends (m + d) r v) × Stable (m + d)
  unfolding Stable
  stable_add zero v h = rw add-zero (refl, stable)
  stable_add (suc d) v h = let t = stable_add d v h in rw add-suc (t.0 ∙ t.1 v h, stable_next (m + d) t.1)

  -- a way up that ends at all ends within m steps
  pub ends_enough : (f v : ℕ) → v < m → ends f r v ≡ true → ends m r v ≡ true
  ends_enough f v h e = (stable_add f v h).0 ∙ more m
    where
      more : (k : ℕ) → ends (k + f) r v ≡ true
      more zero = rw zero-add e
      more (suc k) = rw suc-add (ends_more r (k + f) v (more k))

  -- a node's way up ends exactly if its parent's does
  pub ends_step : (v : ℕ) → v < m → child_of r root_mark v ≡ false → ends m r (parent r v) ≡ ends m r v
  ends_step v h e = true_eq _ _ (λ q. ends_enough (suc m) v h (ends_up r m v e ∙ q)) (λ q. sym (ends_up r m v e) ∙ ends_more r m v q)
