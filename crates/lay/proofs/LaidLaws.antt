-- In a row that has the links of a laid tree, each of its nodes is below the topmost one; where the row is valid, its groups are those of
-- the tree. Assumes nothing.
use Rattle.std.specs.Prelude.{ℕ, ◌+◌, ◌≤◌, ◌<◌, ◌≡◌, refl, ◌⊎◌, true, false, eqb, leb}
use Rattle.std.proofs.Common.{sym, ◌∙◌, inl, inr}
use Rattle.std.proofs.Math.Path.{ap, subst}
use Rattle.std.proofs.Math.Logic.{⊎_elim}
use mathlib.Core.List.Memᴰ
use mathlib.Core.List.{List, [], ◌∷◌, ◌++◌, Memᴰ}
use Rattle.std.proofs.lemmas.Bool.{false≢true}
use native.Mathlib.Omega.{arith}
use borrow.Author.Tests.{leb-true, leb-false, le-leb, lt-leb, eqb-true, eq-eqb, ne_eqb}
use Rattle.trees.specs.Lists.{weigh}
use Rattle.trees.specs.Groups.{Group, member}
use Rattle.trees.specs.Rows.{nodes, parent, root_mark, meets, group_at, groups}
use Rattle.trees.specs.Valid.{Valid, In}
use Rattle.trees.proofs.BoolLaws.{decide, true_eq, or_cases, or_l, or_r}
use Rattle.trees.proofs.ListLaws.{weigh_append, tabulate_same}
use Rattle.trees.proofs.MemberLaws.{in_none, in_head, in_tail, in_cases, member_append}
use Rattle.trees.proofs.WayLaws.{up, met_from, meets_refl, meets_trans, meets_less}
use Rattle.trees.proofs.RowLaws.{Above, groups-in, below_child, valid_rooted}
use Rattle.trees.specs.Tables.{table_words}
use Rattle.newick.specs.Tree.{Tree, Forest}
use Rattle.newick.specs.Tree.Tree.{leaf, pair}
use Rattle.newick.specs.Tree.Forest.{only, more}
use Rattle.newick.specs.Meaning.{samples, samples_in, times, among, group_of, groups_of, groups_in}
use Rattle.lay.specs.Laying.{Link, link, Strand, Braid, node_of, next_of, first_of, part_by, then_by, shut_by, grow, spread}
use Rattle.lay.proofs.LayLaws.{is, held_at, keyed, count_last, Fine, FineIn, fine_part, next_grown, grow_few, spread_few, grow_fine}
use Rattle.lay.proofs.LayLaws.{spread_fine}
use Rattle.newick.proofs.ChildLaws.{one_child}

pub is_self : (x : ℕ) → is x x ≡ 1
is_self x = rw (eq-eqb x x refl) refl

-- how often x is a node of a laid subtree, or of those in a pair
abbrev pub node_in : ℕ → Strand → ℕ
node_in x g = keyed x g.links + is x g.root

abbrev pub node_of_all : ℕ → Braid → ℕ
node_of_all x b = keyed x b.links + is x b.root

-- those of a pair before and after the last comma
all_split : (x : ℕ) (b : Braid) (g : Strand) → node_of_all x (then_by (part_by b) g) ≡ node_of_all x b + node_in x g
all_split x b g = omega (
  arith,
  weigh_append (λ l. 1) (λ l. eqb x l.child) (b.links ++ (link b.root (node_of b.node b.next) ∷ [])) g.links,
  count_last (λ l. eqb x l.child) b.links (link b.root (node_of b.node b.next)),
)

-- the node of a pair that has one
shut_node : (x : ℕ) (b : Braid) → eqb b.node 0 ≡ false → node_in x (shut_by b) ≡ node_of_all x b + is x b.node
shut_node x b e = rw e (omega (arith, count_last (λ l. eqb x l.child) b.links (link b.root b.node)))

module _ (r : List ℕ) where
  unfoldable pub Reach : ℕ → ℕ → Type 0
  Reach v x = (f : ℕ) × (meets f r v x ≡ true)

  -- the row has the links
  abbrev pub Sat : List Link → Type 0
  Sat ls = (l : Link) → Memᴰ l ls → (parent r l.child ≡ l.up) × (eqb l.up root_mark ≡ false)

  reach_self : (v : ℕ) → Reach v v
  unfolding Reach
  reach_self v = (0, meets_refl r 0 v)

  reach_up : (v c x : ℕ) → parent r c ≡ v → eqb v root_mark ≡ false → Reach c x → Reach v x
  unfolding Reach
  reach_up v c x e m h = (h.0 + 1, meets_trans r h.0 1 v c x h.1 (met_from r 0 v c (up (rw e m) (rw e (meets_refl r 0 v)))))

  -- x is below a child of v among the nodes of b
  pub record Below (b : Braid) (v x : ℕ) : Type 0 where
    pub child : ℕ
    pub own : 1 ≤ node_of_all child b
    pub up : parent r child ≡ v
    pub reach : Reach child x

  pub record ReachIn (b : Braid) : Type 0 where
    pub alone : eqb b.node 0 ≡ true → (x : ℕ) → 1 ≤ node_of_all x b → Reach b.root x
    pub all : (v : ℕ) → parent r b.root ≡ v → (eqb b.node 0 ≡ true) ⊎ (b.node ≡ v) → (x : ℕ) → 1 ≤ node_of_all x b → Below b v x

  -- the node of a pair at a comma is the pair's before it too
  node_kept : (b : Braid) (v : ℕ) → node_of b.node b.next ≡ v → (eqb b.node 0 ≡ true) ⊎ (b.node ≡ v)
  node_kept b v e = ⊎_elim (λ q. inl q) (λ q. inr (rw q at e)) (decide (eqb b.node 0))

  after_some : (f : Forest) (k : ℕ) → 1 ≤ k → next_of (spread f k).node (spread f k).next < table_words
      → eqb (node_of (spread f k).node (spread f k).next) 0 ≡ false
  after_some f k s h =
      let b = spread f k in
      let p = fine_part (samples_in f) k b s (spread_fine f k s (omega (arith, (next_grown b.node b.next).0))) h in
      ne_eqb (node_of b.node b.next) 0 (λ q. omega (arith, p.own.0))

  part_sat : (b : Braid) (ls : List Link) → Sat ((b.links ++ (link b.root (node_of b.node b.next) ∷ [])) ++ ls)
      → Sat b.links × (parent r b.root ≡ node_of b.node b.next) × Sat ls
  part_sat b ls h =
      let c = link b.root (node_of b.node b.next) in (
        (λ l m. h l (Memᴰ.append_left ls (Memᴰ.append_left (c ∷ []) m))),
        (h c (Memᴰ.append_left ls (Memᴰ.append_right b.links (Memᴰ.head refl)))).0,
        λ l m. h l (Memᴰ.append_right (b.links ++ (c ∷ [])) m),
      )

  reach_shut : (b : Braid) → Sat (shut_by b).links → ReachIn b → (x : ℕ) → 1 ≤ node_in x (shut_by b) → Reach (shut_by b).root x
  reach_shut b h i x n = go (decide (eqb b.node 0)) (decide (eqb x b.node))
    where
      go : (eqb b.node 0 ≡ true) ⊎ (eqb b.node 0 ≡ false) → (eqb x b.node ≡ true) ⊎ (eqb x b.node ≡ false)
          → Reach (shut_by b).root x
      go (inl e) d = rw e (i.alone e x (rw e at n))
      go (inr e) (inl d) = rw (e, eqb-true x b.node d) (reach_self b.node)
      go (inr e) (inr d) =
          let c = link b.root b.node in
          let h' = rw e at h in
          let s = h' c (Memᴰ.append_right b.links (Memᴰ.head refl)) in
          let w = i.all b.node s.0 (inr refl) x (omega (arith, shut_node x b e, d')) in
          rw e (reach_up b.node w.child x w.up s.1 w.reach)
        where
          d' : is x b.node ≡ 0
          d' = rw d refl

  reach_first : (g : Strand) → ((x : ℕ) → 1 ≤ node_in x g → Reach g.root x) → ReachIn (first_of g)
  reach_first g h = record {
    alone = λ e x n. h x n;
    all = λ v p o x n. record { child = g.root; own = omega (arith, is_self g.root); up = p; reach = h x n };
  }

  reach_then : (b : Braid) (g : Strand) → eqb (node_of b.node b.next) 0 ≡ false → parent r b.root ≡ node_of b.node b.next
      → ReachIn b → ((x : ℕ) → 1 ≤ node_in x g → Reach g.root x)
      → ReachIn (then_by (part_by b) g)
  reach_then b g z p i h = record {
    alone = λ e. absurd (false≢true (sym z ∙ e));
    all = λ v q o x n. ⊎_elim (λ e. absurd (false≢true (sym z ∙ e))) (λ e. go v q e x n (decide (leb 1 (node_of_all x b)))) o;
  }
    where
      go : (v : ℕ) → parent r g.root ≡ v → node_of b.node b.next ≡ v → (x : ℕ) → 1 ≤ node_of_all x (then_by (part_by b) g)
          → (leb 1 (node_of_all x b) ≡ true) ⊎ (leb 1 (node_of_all x b) ≡ false) → Below (then_by (part_by b) g) v x
      go v q e x n (inl d) =
          let w = i.all v (p ∙ e) (node_kept b v e) x (leb-true 1 (node_of_all x b) d) in
          record { child = w.child; own = omega (arith, all_split w.child b g, w.own); up = w.up; reach = w.reach }
      go v q e x n (inr d) =
          record {
            child = g.root;
            own = omega (arith, all_split g.root b g, is_self g.root);
            up = q;
            reach = h x (omega (arith, all_split x b g, leb-false 1 (node_of_all x b) d));
          }

  shut_sat : (b : Braid) → Sat (shut_by b).links → Sat b.links
  shut_sat b h = go (decide (eqb b.node 0))
    where
      go : (eqb b.node 0 ≡ true) ⊎ (eqb b.node 0 ≡ false) → Sat b.links
      go (inl e) = rw e at h
      go (inr e) = let h' = rw e at h in λ l m. h' l (Memᴰ.append_left (link b.root b.node ∷ []) m)

  -- each node of a laid tree is below its topmost one
  mutual
    unfolding grow weigh

    pub grow_reach : (t : Tree) (k : ℕ) → 1 ≤ k → (grow t k).next < table_words → Sat (grow t k).links → (x : ℕ) → 1 ≤ node_in x (grow t k)
        → Reach (grow t k).root x
    grow_reach (leaf y) k s f h x n =
        ⊎_elim (λ e. rw (eqb-true x y e) (reach_self y)) (λ e. absurd (omega (arith, rw e at n))) (decide (eqb x y))
    grow_reach (pair f μ) k s u h x n = reach_shut (spread f k) h (spread_reach f k s u (shut_sat (spread f k) h)) x n

    pub spread_reach : (f : Forest) (k : ℕ) → 1 ≤ k → (spread f k).next < table_words → Sat (spread f k).links → ReachIn (spread f k)
    spread_reach (only t) k s u h = reach_first (grow t k) (λ x n. grow_reach t k s u h x n)
    spread_reach (more f t) k s u h =
        let b = spread f k in
        let j = next_of b.node b.next in
        let n = next_grown b.node b.next in
        let i = grow_few t j in
        let p = part_sat b (grow t j).links h in
        reach_then b (grow t j) (after_some f k s (omega (arith, i.0))) p.1
        (spread_reach f k s (omega (arith, n.0, i.0)) p.0)
        (λ x m. grow_reach t j (omega (arith, (spread_few f k).0, n.0)) u p.2 x m)

-- ---- groups

module _ (n : ℕ) (r : List ℕ) (ok : Valid n r) where
  -- a list of groups has the groups of some nodes, and no groups but the row's
  pub record Told (gs : List Group) (node : ℕ → ℕ) : Type 0 where
    pub sound : (g : Group) → In g gs → In g (groups n r)
    pub whole : (x : ℕ) → 1 ≤ node x → In (group_at n r x) gs

  -- what is asked of a laid subtree: its links are the row's, each node is there once
  pub record Set (node : ℕ → ℕ) (ls : List Link) : Type 0 where
    pub sat : Sat r ls
    pub one : (x : ℕ) → node x ≤ 1
    pub inside : (x : ℕ) → 1 ≤ node x → x < nodes r

  above_of : (v s : ℕ) → s < nodes r → Reach r v s → Above r v s
  unfolding Reach
  above_of v s h w = meets_less r (nodes r) w.0 v s (ok.reach s h) w.1

  -- a sample that stands is a node
  stands_node : (xs : List ℕ) (k : ℕ) (g : Strand) → n ≤ k → Fine xs k g → (s : ℕ) → s < n → node_in s g ≡ times s xs
  stands_node xs k g h f s i =
      let z = rw (lt-leb k s (omega arith), lt-leb g.next s (omega (arith, f.grown))) at (f.once s) in omega (arith, z)

  -- the group of the topmost node
  group_root : (xs : List ℕ) (k : ℕ) (g : Strand) → n ≤ k → Fine xs k g → ((x : ℕ) → 1 ≤ node_in x g → Reach r g.root x)
      → ((s : ℕ) → s < n → Above r g.root s → 1 ≤ times s xs)
      → group_of n xs ≡ group_at n r g.root
  unfolding group_of group_at
  group_root xs k g h f i j = tabulate_same n (λ s. among s xs) (meets (nodes r) r g.root) 0
      (λ s a b. let l : s < n = omega arith in true_eq (among s xs) (meets (nodes r) r g.root s)
      (λ e. above_of g.root s (omega (arith, ok.low)) (i s (omega (arith, stands_node xs k g h f s l, leb-true 1 (times s xs) e))))
      (λ e. le-leb 1 (times s xs) (j s l e)))

  pub record TellIn (xs : List ℕ) (gs : List Group) (b : Braid) : Type 0 where
    pub alone : eqb b.node 0 ≡ true → Set (λ x. node_of_all x b) b.links → ((s : ℕ) → s < n → Above r b.root s → 1 ≤ times s xs)
        → Told gs (λ x. node_of_all x b)
    pub all : (v : ℕ) → v < nodes r → parent r b.root ≡ v → (eqb b.node 0 ≡ true) ⊎ (b.node ≡ v)
        → Set (λ x. node_of_all x b) b.links
        → ((s c : ℕ) → s < n → 1 ≤ node_of_all c b → parent r c ≡ v → Above r c s → 1 ≤ times s xs) → Told gs (λ x. node_of_all x b)

  tell_first : (xs : List ℕ) (gs : List Group) (g : Strand)
      → (Set (λ x. node_in x g) g.links → ((s : ℕ) → s < n → Above r g.root s → 1 ≤ times s xs) → Told gs (λ x. node_in x g))
      → TellIn xs gs (first_of g)
  tell_first xs gs g h = record {
    alone = λ e s f. h s f;
    all = λ v l p o s f. h s (λ i a b. f i g.root a (omega (arith, is_self g.root)) p b);
  }

  stands_all : (xs : List ℕ) (k : ℕ) (b : Braid) → n ≤ k → FineIn xs k b → (s : ℕ) → s < n → node_of_all s b ≡ times s xs
  stands_all xs k b h f s i =
      let z = rw (lt-leb k s (omega arith), lt-leb b.next s (omega (arith, f.grown))) at (f.once s) in omega (arith, z, held f.own)
    where
      held : (eqb b.node 0 ≡ true) ⊎ ((k ≤ b.node) × (b.node < b.next)) → held_at b.node s ≡ 0
      held (inl e) = rw e refl
      held (inr e) = away (decide (eqb b.node 0))
        where
          away : (eqb b.node 0 ≡ true) ⊎ (eqb b.node 0 ≡ false) → held_at b.node s ≡ 0
          away (inl q) = rw q refl
          away (inr q) = rw (q, ne_eqb s b.node (λ w. omega (arith, e.0))) refl

  -- the subtrees before the last comma, and the one behind it
  module _ (xs ys : List ℕ) (gs hs : List Group) (b : Braid) (g : Strand) (k j : ℕ) (low : n ≤ k) (lowj : n ≤ j) (fb : FineIn xs k b)
      (fg : Fine ys j g)
      (z : eqb (node_of b.node b.next) 0 ≡ false) (rb : ReachIn r b) (rg : (x : ℕ) → 1 ≤ node_in x g → Reach r g.root x)
      (tb : TellIn xs gs b) (tg : Set (λ x. node_in x g) g.links → ((s : ℕ) → s < n → Above r g.root s → 1 ≤ times s ys)
      → Told hs (λ x. node_in x g)) where
    abbrev both : Braid
    both = then_by (part_by b) g

    tell_all : (v : ℕ) → v < nodes r → parent r g.root ≡ v → node_of b.node b.next ≡ v → Set (λ x. node_of_all x both) both.links
        → ((s c : ℕ) → s < n → 1 ≤ node_of_all c both → parent r c ≡ v → Above r c s → 1 ≤ times s (xs ++ ys))
        → Told (gs ++ hs) (λ x. node_of_all x both)
    tell_all v l q e st h =
        let p = part_sat r b g.links st.sat in
        let set_b : Set (λ x. node_of_all x b) b.links = record {
          sat = p.0;
          one = λ x. omega (arith, st.one x, all_split x b g);
          inside = λ x i. st.inside x (omega (arith, i, all_split x b g));
        } in
        let set_g : Set (λ x. node_in x g) g.links = record {
          sat = p.2;
          one = λ x. omega (arith, st.one x, all_split x b g);
          inside = λ x i. st.inside x (omega (arith, i, all_split x b g));
        } in
        let up : parent r b.root ≡ v = p.1 ∙ e in
        -- no child of v among the one is among the other
        let apart : (c s : ℕ) → s < n → 1 ≤ node_of_all c b → parent r c ≡ v → Above r c s → Above r g.root s → ⊥ =
        λ c s i o a d w. let m = one_child n r ok v c g.root s l a q d w in
        omega (arith, o, st.one g.root, all_split g.root b g, is_self g.root, ap (λ (y : ℕ). node_of_all y b) m) in
        let hb : (s c : ℕ) → s < n → 1 ≤ node_of_all c b → parent r c ≡ v → Above r c s → 1 ≤ times s xs =
        λ s c i o a d. ⊎_elim (λ w. leb-true 1 (times s xs) w)
        (λ w. absurd (apart c s i o a d (above_of g.root s (omega (arith, ok.low)) (rg s
        (omega (
          arith,
          stands_node ys j g lowj fg s i,
          leb-false 1 (times s xs) w,
          weigh_append (λ y. 1) (eqb s) xs ys,
          h s c i (omega (arith, o, all_split c b g)) a d,
        )))))) (decide (leb 1 (times s xs))) in
        let hg : (s : ℕ) → s < n → Above r g.root s → 1 ≤ times s ys =
        λ s i a. ⊎_elim (λ w. leb-true 1 (times s ys) w) (λ w.
        let m = rb.all v up (node_kept r b v e) s
        (omega (
          arith,
          stands_all xs k b low fb s i,
          leb-false 1 (times s ys) w,
          weigh_append (λ y. 1) (eqb s) xs ys,
          h s g.root i (omega (arith, all_split g.root b g, is_self g.root)) q a,
        )) in
        absurd (apart m.child s i m.own m.up (above_of m.child s (omega (arith, ok.low)) m.reach) a))
        (decide (leb 1 (times s ys))) in
        let B = tb.all v l up (node_kept r b v e) set_b hb in
        let G = tg set_g hg in record {
          sound = λ x m. ⊎_elim (B.sound x) (G.sound x) (or_cases (member x gs) (member x hs) (sym (member_append x gs hs) ∙ m));
          whole = λ x i. member_append (group_at n r x) gs hs ∙ ⊎_elim
              (λ w. or_l (member (group_at n r x) gs) (member (group_at n r x) hs) (B.whole x (leb-true 1 (node_of_all x b) w)))
              (λ w. or_r (member (group_at n r x) gs) (member (group_at n r x) hs)
              (G.whole x (omega (arith, i, all_split x b g, leb-false 1 (node_of_all x b) w))))
              (decide (leb 1 (node_of_all x b)));
        }

    tell_then : TellIn (xs ++ ys) (gs ++ hs) both
    tell_then = record {
      alone = λ e. absurd (false≢true (sym z ∙ e));
      all = λ v l q o st h. ⊎_elim (λ e. absurd (false≢true (sym z ∙ e))) (λ e. tell_all v l q e st h) o;
    }

  tell_shut : (xs : List ℕ) (gs : List Group) (b : Braid) (k : ℕ) → n ≤ k → Fine xs k (shut_by b)
      → ((x : ℕ) → 1 ≤ node_in x (shut_by b) → Reach r (shut_by b).root x) → TellIn xs gs b
      → Set (λ x. node_in x (shut_by b)) (shut_by b).links → ((s : ℕ) → s < n → Above r (shut_by b).root s → 1 ≤ times s xs)
      → Told (group_of n xs ∷ gs) (λ x. node_in x (shut_by b))
  tell_shut xs gs b k low f rs t st h = go (decide (eqb b.node 0)) (group_root xs k (shut_by b) low f rs h)
    where
      cons : (v : ℕ) (node : ℕ → ℕ) → v < nodes r → group_of n xs ≡ group_at n r v → Told gs node → (node' : ℕ → ℕ)
          → ((x : ℕ) → 1 ≤ node' x → (x ≡ v) ⊎ (1 ≤ node x)) → Told (group_of n xs ∷ gs) node'
      cons v node l e u node' w = record {
        sound = λ g m. ⊎_elim (λ q. subst (λ (y : Group). In y (groups n r)) (sym (q ∙ e)) (groups-in n r v l)) (u.sound g)
            (in_cases g (group_of n xs) gs m);
        whole = λ x i. ⊎_elim (λ q. subst (λ (y : Group). In y (group_of n xs ∷ gs)) (e ∙ ap (group_at n r) (sym q))
            (in_head (group_of n xs) gs)) (λ q. in_tail (group_at n r x) (group_of n xs) gs (u.whole x q)) (w x i);
      }

      go : (eqb b.node 0 ≡ true) ⊎ (eqb b.node 0 ≡ false) → group_of n xs ≡ group_at n r (shut_by b).root
          → Told (group_of n xs ∷ gs) (λ x. node_in x (shut_by b))
      go (inl e) d = cons (shut_by b).root (λ x. node_of_all x b) (st.inside (shut_by b).root (omega (arith, is_self (shut_by b).root))) d
          (t.alone e (rw e at st) (rw e at h)) (λ x. node_in x (shut_by b)) (λ x i. inr (rw e at i))
      go (inr e) d =
          let lk = link b.root b.node in
          let ss = rw e at st.sat in
          let up = (ss lk (Memᴰ.append_right b.links (Memᴰ.head refl))).0 in
          let l : b.node < nodes r = st.inside b.node (omega (arith, shut_node b.node b e, is_self b.node)) in
          let set_b : Set (λ x. node_of_all x b) b.links = record {
            sat = λ y m. ss y (Memᴰ.append_left (lk ∷ []) m);
            one = λ x. omega (arith, st.one x, shut_node x b e);
            inside = λ x i. st.inside x (omega (arith, i, shut_node x b e));
          } in
          let h' = rw e at h in
          let u = t.all b.node l up (inr refl) set_b
          (λ s c i o a m. h' s i (below_child n r (valid_rooted n r ok) c b.node s (set_b.inside c o) l (omega (arith, ok.low))
          a m)) in
          cons b.node (λ x. node_of_all x b) l (rw e at d) u (λ x. node_in x (shut_by b))
          (λ x i. ⊎_elim (λ q. inl (eqb-true x b.node q)) (λ q. inr (omega (arith, i, shut_node x b e, none x q)))
          (decide (eqb x b.node)))
        where
          none : (x : ℕ) → eqb x b.node ≡ false → is x b.node ≡ 0
          none x q = rw q refl

  tell_leaf : (y k : ℕ) (g : Strand) → n ≤ k → Fine (y ∷ []) k g → ((x : ℕ) → 1 ≤ node_in x g → Reach r g.root x) → g.links ≡ []
      → Set (λ x. node_in x g) g.links
      → ((s : ℕ) → s < n → Above r g.root s → 1 ≤ times s (y ∷ [])) → Told (group_of n (y ∷ []) ∷ []) (λ x. node_in x g)
  unfolding weigh
  tell_leaf y k g low f rs q st h =
      let d = group_root (y ∷ []) k g low f rs h in record {
        sound = λ a m. ⊎_elim (λ e. subst (λ (z : Group). In z (groups n r)) (sym (e ∙ d))
            (groups-in n r g.root (st.inside g.root (omega (arith, is_self g.root))))) (λ e. absurd (in_none a e))
            (in_cases a (group_of n (y ∷ [])) [] m);
        whole = λ x i. subst (λ (z : Group). In z (group_of n (y ∷ []) ∷ [])) (d ∙ ap (group_at n r) (sym (own x (rw q at i))))
            (in_head (group_of n (y ∷ [])) []);
      }
    where
      own : (x : ℕ) → 1 ≤ 0 + is x g.root → x ≡ g.root
      own x i = ⊎_elim (eqb-true x g.root) (λ e. absurd (omega (arith, rw e at i))) (decide (eqb x g.root))

  -- the groups of a laid tree are those of its nodes
  mutual
    unfolding grow samples groups_of

    pub grow_tells : (t : Tree) (k : ℕ) → 1 ≤ k → n ≤ k → (grow t k).next < table_words → Set (λ x. node_in x (grow t k)) (grow t k).links
        → ((s : ℕ) → s < n → Above r (grow t k).root s → 1 ≤ times s (samples t)) → Told (groups_of n t) (λ x. node_in x (grow t k))
    grow_tells (leaf y) k i low u st h =
        tell_leaf y k (grow (leaf y) k) low (grow_fine (leaf y) k i u) (grow_reach r (leaf y) k i u st.sat) refl st h
    grow_tells (pair f μ) k i low u st h =
        tell_shut (samples_in f) (groups_in n f) (spread f k) k low (grow_fine (pair f μ) k i u) (grow_reach r (pair f μ) k i u st.sat)
        (spread_tells f k i low u (shut_sat r (spread f k) st.sat)) st h

    pub spread_tells : (f : Forest) (k : ℕ) → 1 ≤ k → n ≤ k → (spread f k).next < table_words → Sat r (spread f k).links
        → TellIn (samples_in f) (groups_in n f) (spread f k)
    spread_tells (only t) k i low u st = tell_first (samples t) (groups_of n t) (grow t k) (λ s h. grow_tells t k i low u s h)
    spread_tells (more f t) k i low u st =
        let b = spread f k in
        let j = next_of b.node b.next in
        let m = next_grown b.node b.next in
        let w = grow_few t j in
        let p = part_sat r b (grow t j).links st in
        let ib = (spread_few f k).0 in
        tell_then (samples_in f) (samples t) (groups_in n f) (groups_of n t) b (grow t j) k j low (omega (arith, ib, m.0))
        (spread_fine f k i (omega (arith, m.0, w.0))) (grow_fine t j (omega (arith, ib, m.0)) u)
        (after_some r f k i (omega (arith, w.0)))
        (spread_reach r f k i (omega (arith, m.0, w.0)) p.0) (grow_reach r t j (omega (arith, ib, m.0)) u p.2)
        (spread_tells f k i low (omega (arith, m.0, w.0)) p.0)
        (λ s h. grow_tells t j (omega (arith, ib, m.0)) (omega (arith, ib, m.0)) u s h)

-- ---- the topmost node is an inner one, if there is any

top_shut : {xs : List ℕ} (k : ℕ) (b : Braid) → FineIn xs k b → (eqb b.node 0 ≡ true → (k ≤ b.root) ⊎ (b.next ≡ k))
    → (k ≤ (shut_by b).root) ⊎ ((shut_by b).next ≡ k)
top_shut k b f h = go (decide (eqb b.node 0)) f.own
  where
    go : (eqb b.node 0 ≡ true) ⊎ (eqb b.node 0 ≡ false) → (eqb b.node 0 ≡ true) ⊎ ((k ≤ b.node) × (b.node < b.next))
        → (k ≤ (shut_by b).root) ⊎ ((shut_by b).next ≡ k)
    go (inl e) o = rw e (h e)
    go (inr e) (inl o) = absurd (false≢true (sym e ∙ o))
    go (inr e) (inr o) = rw e (inl o.0)

mutual
  unfolding grow

  pub grow_top : (t : Tree) (k : ℕ) → 1 ≤ k → (grow t k).next < table_words → (k ≤ (grow t k).root) ⊎ ((grow t k).next ≡ k)
  grow_top (leaf y) k i u = inr refl
  grow_top (pair f μ) k i u = top_shut k (spread f k) (spread_fine f k i u) (λ e. spread_top f k i u e)

  spread_top : (f : Forest) (k : ℕ) → 1 ≤ k → (spread f k).next < table_words → eqb (spread f k).node 0 ≡ true
      → (k ≤ (spread f k).root) ⊎ ((spread f k).next ≡ k)
  spread_top (only t) k i u e = grow_top t k i u
  spread_top (more f t) k i u e =
      absurd (false≢true (sym (after_some [] f k i (omega (arith, (grow_few t (next_of (spread f k).node (spread f k).next)).0))) ∙ e))
