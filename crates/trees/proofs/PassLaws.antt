-- A pass makes the fold over each node's group: when a node is next, its samples stand there. Assumes nothing.
use Prim.Native.Nat.{ℕ, zero, suc, ◌+◌, ◌≤◌, ◌<◌, min, zero-le}
use Rattle.std.specs.Prelude.{◌≡◌, ◌⊎◌, List, Bool, ◌||◌, cond, ltb, length, get_or, set}
use Rattle.std.proofs.Math.Path.{refl, sym, ap}
use Rattle.std.proofs.Common.{◌∙◌, subst, inl, ⊎_elim}
use Rattle.std.proofs.Math.Logic.{inr}
use Rattle.std.proofs.Math.Bool.{true, false}
use native.Mathlib.Omega.{arith}
use Rattle.std.proofs.Math.Dec.{eqb}
use borrow.Author.Tests.{eqb-true, eqb-false, lt-ltb, le-ltb, eq-eqb, ne_eqb}
use Rattle.trees.specs.Lists.{tabulate}
use Rattle.trees.specs.Groups.{Group, has, size}
use Rattle.trees.specs.Rows.{nodes, parent, meets, group_at}
use Rattle.trees.specs.Falls.{Falls, due}
use Rattle.trees.specs.Tables.{Tabled, over, one, seeded}
use Rattle.trees.specs.Passes.{node, stand, part, Stage, Stepped}
use Rattle.trees.proofs.BoolLaws.{true_eq, decide}
use Rattle.trees.proofs.ListLaws.{length_tabulate, tabulate_same}
use Rattle.trees.proofs.WayLaws.{meets_refl, meets_past}
use Rattle.trees.proofs.RowLaws.{Above, below_child}
use Rattle.trees.proofs.NeverLaws.{side, Tri, less, equal, more, tri}
use Rattle.trees.proofs.TurnLaws.{due_low, due_due, due_one, due_root, parent_in, falls_rooted, above_due}
use Rattle.trees.proofs.TableLaws.{tabled_store, Folds, adds, size_over, size_length, Split, neither, left, right, over_join, over_none, over-one}

-- where one of two tests passes
tabulate_both : (n : ℕ) (p q u : ℕ → Bool) → ((t : ℕ) → Split (p t) (q t) (u t)) → (i s : ℕ)
    → has (tabulate n u i) s ≡ (has (tabulate n p i) s || has (tabulate n q i) s)
unfolding tabulate
tabulate_both zero p q u f i s = refl
tabulate_both (suc n) p q u f i zero = go (p i) (q i) (u i) (f i)
  where
    go : (a b c : Bool) → Split a b c → c ≡ (a || b)
    go false false true x4 = elim x4 [ ]
    go false true false x5 = elim x5 [ ]
    go true false false x5 = elim x5 [ ]
    go true true c x5 = elim x5 [ ]
    go false false false neither = refl
    go true false true left = refl
    go false true true right = refl
tabulate_both (suc n) p q u f i (suc s) = tabulate_both n p q u f (suc i) s

module _ (n : ℕ) (r : List ℕ) (ok : Falls n r) where
  -- ---- where each sample stands

  -- x is where sample t stands once d nodes are done
  record At (d t x : ℕ) : Type 0 where
    pub low : x < nodes r
    pub wait : d ≤ due n r x
    pub below : Above r x t
    pub rest : (w : ℕ) → Above r w t → (due n r w < d) ⊎ Above r w x

  -- a node done before the last step is not the root
  pub node_child : (d : ℕ) → suc d < nodes r → (node n r d < nodes r) × (node n r d ≡ n → ⊥) × (due n r (node n r d) ≡ d)
  node_child d h = let e : due n r (node n r d) ≡ d = due_due n r ok d (omega arith) in
      (due_low n r ok d (omega arith), λ q. omega (arith, due_root n r ok, ap (due n r) q), e)

  -- what is done at step d hands its samples to an inner node that is done later
  pub node_parent : (d : ℕ) → suc d < nodes r → (n ≤ parent r (node n r d)) × (parent r (node n r d) < nodes r) × (d < due n r (parent r (node n r d)))
  node_parent d h = let c = node_child d h in let p = parent_in n r ok (node n r d) c.0 c.1 in (p.0, p.1, omega arith)

  stay : (d t x : ℕ) → (x ≡ node n r d → ⊥) → At d t x → At (suc d) t x
  stay d t x y a = record { low = a.low; wait = late (tri d (due n r x)); below = a.below; rest = λ w m. ⊎_elim (λ q. inl (omega arith)) inr (a.rest w m) }
    where
      late : Tri d (due n r x) → suc d ≤ due n r x
      late (less q) = q
      late (equal q) = absurd (y (sym (due_due n r ok x a.low) ∙ ap (due n r) (sym q)))
      late (more q) = absurd (omega (arith, a.wait))

  move : (d t : ℕ) → suc d < nodes r → t < n → At d t (node n r d) → At (suc d) t (parent r (node n r d))
  move d t h k a = let c = node_child d h in let p = node_parent d h in record {
    low = p.1;
    wait = p.2;
    below = below_child n r (falls_rooted n r ok) v (parent r v) t c.0 p.1 (omega (arith, ok.low)) refl a.below;
    rest = λ w m. on w (a.rest w m);
  }
    where
      v : ℕ
      v = node n r d

      on : (w : ℕ) → (due n r w < d) ⊎ Above r w v → (due n r w < suc d) ⊎ Above r w (parent r v)
      on w (inl q) = inl (omega arith)
      on w (inr q) = ⊎_elim (λ e. inl (omega (arith, ap (due n r) (eqb-true v w e), (node_child d h).2)))
          (λ e. inr (meets_past r (nodes r) w v (eqb-false v w e) q)) (decide (eqb v w))

  stands : (d t : ℕ) → d < nodes r → t < n → At d t (stand n r d t)
  unfolding stand
  stands zero t h k = record { low = omega (arith, ok.low); wait = zero-le; below = meets_refl r (nodes r) t; rest = λ w m. inr m }
  stands (suc d) t h k = go (eqb (stand n r d t) (node n r d)) refl (stands d t (omega arith) k)
    where
      go : (b : Bool) → eqb (stand n r d t) (node n r d) ≡ b → At d t (stand n r d t) → At (suc d) t (cond b (parent r (node n r d)) (stand n r d t))
      go true e a = move d t h k (subst (At d t) (eqb-true _ _ e) a)
      go false e a = stay d t (stand n r d t) (eqb-false _ _ e) a

  -- when p is next, its samples stand there
  met : (p t : ℕ) → p < nodes r → t < n → eqb (stand n r (due n r p) t) p ≡ meets (nodes r) r p t
  met p t h k = true_eq _ _ (λ e. subst (λ (x : ℕ). Above r x t) (eqb-true _ _ e) a.below) (λ m. eq-eqb _ _ (go (a.rest p m)))
    where
      a : At (due n r p) t (stand n r (due n r p) t)
      a = stands (due n r p) t (due_low n r ok p h) k

      go : (due n r p < due n r p) ⊎ Above r p (stand n r (due n r p) t) → stand n r (due n r p) t ≡ p
      go (inl q) = absurd (omega arith)
      go (inr q) = due_one n r ok _ p a.low h (omega (arith, a.wait, above_due n r ok (nodes r) p (stand n r (due n r p) t) q a.low))

  -- ---- the samples that a node has got

  pub part_start : (p : ℕ) → part n r 0 p ≡ tabulate n (λ t. eqb t p) 0
  unfolding part stand
  part_start p = let e : min 0 (due n r p) ≡ 0 = omega arith in rw e

  pub part_full : (d p : ℕ) → p < nodes r → due n r p ≤ d → part n r d p ≡ group_at n r p
  unfolding part group_at
  part_full d p h k = let e : min d (due n r p) ≡ due n r p = omega arith in rw e (tabulate_same n _ _ 0 (λ t a b. met p t h (omega arith)))

  other : (d p t : ℕ) → (p ≡ node n r d → ⊥) → (p ≡ parent r (node n r d) → ⊥) → eqb (stand n r (suc d) t) p ≡ eqb (stand n r d t) p
  unfolding stand
  other d p t x y = go (eqb (stand n r d t) (node n r d)) refl
    where
      go : (b : Bool) → eqb (stand n r d t) (node n r d) ≡ b → eqb (cond b (parent r (node n r d)) (stand n r d t)) p ≡ eqb (stand n r d t) p
      go true e = ne_eqb _ p (λ q. y (sym q)) ∙ sym (ne_eqb (stand n r d t) p (λ q. x (sym q ∙ eqb-true _ _ e)))
      go false e = refl

  splits : (d p t : ℕ) → (p ≡ node n r d → ⊥) → p ≡ parent r (node n r d)
      → Split (eqb (stand n r d t) p) (eqb (stand n r d t) (node n r d)) (eqb (stand n r (suc d) t) p)
  unfolding stand
  splits d p t x y = go (eqb (stand n r d t) (node n r d)) refl
    where
      even : (a : Bool) → Split a false a
      even true = left
      even false = neither

      go : (b : Bool) → eqb (stand n r d t) (node n r d) ≡ b → Split (eqb (stand n r d t) p) b (eqb (cond b (parent r (node n r d)) (stand n r d t)) p)
      go true e = rw (ne_eqb (stand n r d t) p (λ q. x (sym q ∙ eqb-true _ _ e)), eq-eqb (parent r (node n r d)) p (sym y)) right
      go false e = even (eqb (stand n r d t) p)

  -- a step changes what the parent has got, and nothing else
  pub part_other : (d p : ℕ) → suc d < nodes r → p < nodes r → (p ≡ parent r (node n r d) → ⊥) → part n r (suc d) p ≡ part n r d p
  unfolding part
  part_other d p h k x = go (side (due n r p) d)
    where
      go : (d < due n r p) ⊎ (due n r p ≤ d) → tabulate n (λ t. eqb (stand n r (min (suc d) (due n r p)) t) p) 0 ≡ tabulate n
          (λ t. eqb (stand n r (min d (due n r p)) t) p) 0
      go (inr q) = let e : min (suc d) (due n r p) ≡ min d (due n r p) = omega arith in rw e
      go (inl q) =
          let e : min (suc d) (due n r p) ≡ suc d = omega arith in
          let f : min d (due n r p) ≡ d = omega arith in
          rw (e, f) (tabulate_same n _ _ 0 (λ t a b. other d p t (λ i. omega (arith, ap (due n r) i, (node_child d h).2)) x))

  -- the parent gets what the node done has
  part_join : (op : ℕ → ℕ → ℕ) (e : ℕ) → Folds op e → (k : ℕ → ℕ) (d : ℕ) → suc d < nodes r
      → over op e k (part n r (suc d) (parent r (node n r d))) 0 ≡ op (over op e k (part n r d (parent r (node n r d))) 0)
      (over op e k (part n r d (node n r d)) 0)
  unfolding part
  part_join op e f k d h =
      let c = node_child d h in
      let p = node_parent d h in
      let a : min (suc d) (due n r (parent r (node n r d))) ≡ suc d = omega (arith, p.2) in
      let b : min d (due n r (parent r (node n r d))) ≡ d = omega (arith, p.2) in
      let g : min d (due n r (node n r d)) ≡ d = omega (arith, c.2) in
      rw (a, b, g) (over_join op e f k _ _ _ n 0 (λ t _ _. splits d (parent r (node n r d)) t (λ i. omega (arith, ap (due n r) i, p.2, c.2)) refl))

  -- so its samples are those that it had, and those of the node done
  pub part_both : (d : ℕ) → suc d < nodes r → (s : ℕ) → has (part n r (suc d) (parent r (node n r d))) s ≡
      (has (part n r d (parent r (node n r d))) s || has (part n r d (node n r d)) s)
  unfolding part
  part_both d h s =
      let c = node_child d h in
      let p = node_parent d h in
      let a : min (suc d) (due n r (parent r (node n r d))) ≡ suc d = omega (arith, p.2) in
      let b : min d (due n r (parent r (node n r d))) ≡ d = omega (arith, p.2) in
      let g : min d (due n r (node n r d)) ≡ d = omega (arith, c.2) in
      rw (a, b, g) (tabulate_both n _ _ _ (λ t. splits d (parent r (node n r d)) t (λ i. omega (arith, ap (due n r) i, p.2, c.2)) refl) 0 s)

  -- ---- a table step by step

  -- before the first step: each sample's key, and e at each inner node
  pub stage_start : (op : ℕ → ℕ → ℕ) (e : ℕ) (k : ℕ → ℕ) (t : List ℕ) → ((s : ℕ) → s < n → op (k s) e ≡ k s) → Tabled (seeded n k e) 0 (nodes r) t
      → Stage n r op e k 0 t
  stage_start op e k t f i = record { is = λ p a b. i.is p a b ∙ go p (side n p) ∙ ap (λ (g : Group). over op e k g 0) (sym (part_start p)) }
    where
      go : (p : ℕ) → (p < n) ⊎ (n ≤ p) → cond (ltb p n) (k p) e ≡ over op e k (tabulate n (λ t. eqb t p) 0) 0
      go p (inl h) = rw (lt-ltb p n h, over-one op e k p n 0 zero-le (omega arith)) (sym (f p h))
      go p (inr h) = rw (le-ltb p n h, over_none op e k p n 0 (inr (omega arith)))

  pub stage_step : (op : ℕ → ℕ → ℕ) (e : ℕ) → Folds op e → (k : ℕ → ℕ) (d : ℕ) (t : List ℕ) → suc d < nodes r → nodes r ≤ length t → Stage n r op e k d t
      → Stage n r op e k (suc d) (set t (parent r (node n r d)) (op (get_or t (parent r (node n r d)) 0) (get_or t (node n r d) 0)))
  stage_step op e f k d t h l i = tabled_store _ _ 0 (nodes r) q _ t i (omega (arith, (node_parent d h).1))
      (rw (i.is q zero-le (node_parent d h).1, i.is (node n r d) zero-le (node_child d h).0) (sym (part_join op e f k d h)))
      (λ v a b x. ap (λ (g : Group). over op e k g 0) (sym (part_other d v h b x)))
    where
      q : ℕ
      q = parent r (node n r d)

  -- after the last
  pub stage_end : (op : ℕ → ℕ → ℕ) (e : ℕ) (k : ℕ → ℕ) (d : ℕ) (t : List ℕ) → nodes r ≤ suc d → Stage n r op e k d t
      → Tabled (λ v. over op e k (group_at n r v) 0) 0 (nodes r) t
  stage_end op e k d t h i = record { is = λ p a b. i.is p a b ∙ ap (λ (g : Group). over op e k g 0) (part_full d p b (omega (arith, due_low n r ok p b))) }

  -- ---- sizes

  pub part_size : (d p : ℕ) → size (part n r d p) ≤ n
  unfolding part
  part_size d p = omega (arith, size_length (part n r d p), length_tabulate n (λ t. eqb (stand n r (min d (due n r p)) t) p) 0)

  pub size_join : (d : ℕ) → suc d < nodes r → size (part n r (suc d) (parent r (node n r d))) ≡ size (part n r d (parent r (node n r d))) + size
      (part n r d (node n r d))
  size_join d h = rw (size_over _ 0, size_over (part n r d (parent r (node n r d))) 0, size_over (part n r d (node n r d)) 0) (part_join ◌+◌ 0 adds one d h)

  -- the node and the parent of a step are nodes
  pub stepped : (d v p : ℕ) → suc d < nodes r → v ≡ node n r d → p ≡ parent r v → Stepped n r d v p
  stepped d v p h e f = record { is = e; up = f; low = rw e (node_child d h).0; top = rw (f, e) (node_parent d h).1 }
