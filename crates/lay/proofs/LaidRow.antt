-- The row that is laid for a tree with each sample once is valid, and has the tree's groups. Assumes nothing.
use Prim.Native.Nat.{ℕ, zero, suc, ◌+◌, ◌-◌, ◌≤◌, ◌<◌, zero-le}
use Rattle.std.specs.Prelude.{◌≡◌, refl, ◌⊎◌, Bool, true, false, cond, eqb, ltb, length, get_or, set}
use Rattle.std.proofs.Common.{sym, ap, subst, ◌∙◌, inl, inr, ⊎_elim, length-append}
use mathlib.Core.List.{List, [], ◌∷◌, Memᴰ}
use Rattle.std.proofs.Math.Bool.{false≢true}
use Rattle.std.proofs.Math.Nat.{suc_inj}
use native.Mathlib.Omega.{arith}
use Rattle.std.proofs.Math.ListN.{length-set}
use Rattle.std.proofs.Math.Seq.{get_or-set_same, get_or-set_other}
use borrow.Author.Tests.{ltb-true, ltb-false, le-leb, lt-leb, eqb-true, eqb-false, eq-eqb, ne_eqb, lt-ltb, le-ltb}
use Rattle.trees.specs.Lists.{tabulate, zeros, range, filter, weigh, count}
use Rattle.trees.specs.Groups.{Group, member}
use Rattle.trees.specs.Rows.{nodes, parent, root_mark, child_of, meets, ends, groups}
use Rattle.trees.specs.Checks.{row_words, children}
use Rattle.trees.specs.Valid.{Valid, In}
use Rattle.trees.proofs.BoolLaws.{decide, true_eq}
use Rattle.trees.proofs.ListLaws.{length_zeros, get_or_zeros, range_in, weigh_one, weigh_found, count_two, count_all}
use Rattle.trees.proofs.WayLaws.{Met, here, up, met_to, meets_zero, ends_up, ends_here, ends_more, ends_enough}
use Rattle.trees.proofs.RowLaws.{in_groups}
use Rattle.newick.specs.Tree.{Tree}
use Rattle.newick.specs.Meaning.{samples, times, groups_of}
use Rattle.newick.specs.RowText.{gather}
use Rattle.newick.proofs.ListedLaws.{count_unique, length_filter, count_gather}
use Rattle.trees.proofs.ListLaws.{count_same}
use Rattle.lay.specs.Laying.{Link, sets, Strand, grow, laid_row}
use Rattle.lay.proofs.LayLaws.{is, keyed, under, Fine, grow_few, grow_fine}
use Rattle.lay.proofs.LaidLaws.{is_self, node_in, Reach, Sat, grow_reach, grow_tells, grow_top}

-- ---- the words of links

pub length_links : (ls : List Link) (row : List ℕ) → length (sets ls row) ≡ length row
unfolding sets
length_links [] row = refl
length_links (l ∷ ls) row = length_links ls (set row (suc l.child) l.up) ∙ length-set row (suc l.child) l.up

pub links_other : (ls : List Link) (row : List ℕ) (c : ℕ) → keyed c ls ≡ 0 → get_or (sets ls row) (suc c) 0 ≡ get_or row (suc c) 0
unfolding sets weigh
links_other [] row c h = refl
links_other (l ∷ ls) row c h = go (decide (eqb c l.child)) (λ k. links_other ls (set row (suc l.child) l.up) c k)
  where
    go : (eqb c l.child ≡ true) ⊎ (eqb c l.child ≡ false)
        → (keyed c ls ≡ 0 → get_or (sets ls (set row (suc l.child) l.up)) (suc c) 0 ≡ get_or (set row (suc l.child) l.up) (suc c) 0)
        → get_or (sets ls (set row (suc l.child) l.up)) (suc c) 0 ≡ get_or row (suc c) 0
    go (inl e) k = absurd (omega (arith, rw e at h))
    go (inr e) k =
        k (omega (arith, rw e at h)) ∙ get_or-set_other row (suc l.child) (suc c) l.up 0 (λ q. eqb-false c l.child e (suc_inj q))

pub links_get : (ls : List Link) (row : List ℕ) (l : Link) → Memᴰ l ls → keyed l.child ls ≤ 1 → suc l.child < length row
    → get_or (sets ls row) (suc l.child) 0 ≡ l.up
unfolding sets weigh
links_get [] row l m h i = elim m [ ]
links_get (k ∷ ls) row l (Memᴰ.head e) h i =
    subst (λ (z : Link). get_or (sets ls (set row (suc k.child) k.up)) (suc z.child) 0 ≡ z.up) (sym e)
    (links_other ls (set row (suc k.child) k.up) k.child (let h' = subst (λ (z : Link). keyed z.child (k ∷ ls) ≤ 1) e h in
    omega (arith, rw (eq-eqb k.child k.child refl) at h'))
    ∙ get_or-set_same row (suc k.child) k.up 0 (let i' = rw e at i in i'))
links_get (k ∷ ls) row l (Memᴰ.tail m) h i =
    links_get ls (set row (suc k.child) k.up) l m (omega (arith, h)) (omega (arith, i, length-set row (suc k.child) k.up))

-- of two links to one node, with children linked once each, the children differ
two_links : (ls : List Link) (v : ℕ) → ((x : ℕ) → keyed x ls ≤ 1) → 2 ≤ under v ls
    → (l k : Link) × Memᴰ l ls × Memᴰ k ls × (l.up ≡ v) × (k.up ≡ v) × (l.child ≡ k.child → ⊥)
unfolding weigh
two_links [] v h i = absurd (omega arith)
two_links (l ∷ ls) v h i = go (decide (eqb v l.up)) (λ j. two_links ls v (λ x. omega (arith, h x)) j)
  where
    go : (eqb v l.up ≡ true) ⊎ (eqb v l.up ≡ false)
        → (2 ≤ under v ls → (l k : Link) × Memᴰ l ls × Memᴰ k ls × (l.up ≡ v) × (k.up ≡ v) × (l.child ≡ k.child → ⊥))
        → (p q : Link) × Memᴰ p (l ∷ ls) × Memᴰ q (l ∷ ls) × (p.up ≡ v) × (q.up ≡ v) × (p.child ≡ q.child → ⊥)
    go (inl e) f =
        let w = weigh_found (λ k. 1) (λ k. eqb v k.up) ls (omega (arith, rw e at i)) in (
          l,
          w.0,
          Memᴰ.head refl,
          Memᴰ.tail w.1,
          sym (eqb-true v l.up e),
          sym (eqb-true v w.0.up w.2),
          λ q. omega (
            arith,
            rw (eq-eqb l.child l.child refl) at (h l.child),
            weigh_one (λ k. 1) (λ k. eqb l.child k.child) ls w.0 w.1 (eq-eqb l.child w.0.child q),
          ),
        )
    go (inr e) f = let w = f (omega (arith, rw e at i)) in (w.0, w.1, Memᴰ.tail w.2, Memᴰ.tail w.3, w.4, w.5, w.6)

-- ---- as many samples as there are, where each stands once

count_gathered : (xs : List ℕ) (k a : ℕ) → ((s : ℕ) → a ≤ s → s < a + k → length (filter (λ u. eqb u s) xs) ≡ 1)
    → length (gather (λ s. filter (λ u. eqb u s) xs) (tabulate k (λ u. u) a)) ≡ k
unfolding gather tabulate
count_gathered xs zero a h = refl
count_gathered xs (suc k) a h =
    length-append (filter (λ u. eqb u a) xs) (gather (λ s. filter (λ u. eqb u s) xs) (tabulate k (λ u. u) (suc a)))
    ∙ (let z : length (filter (λ u. eqb u a) xs) + length (gather (λ s. filter (λ u. eqb u s) xs) (tabulate k (λ u. u) (suc a))) ≡ suc k
    = omega (arith, h a (omega arith) (omega arith), count_gathered xs k (suc a) (λ s i j. h s (omega arith) (omega arith))) in z)

swap_eqb : (x y : ℕ) → eqb x y ≡ eqb y x
swap_eqb x y = true_eq (eqb x y) (eqb y x) (λ e. eq-eqb y x (sym (eqb-true x y e))) (λ e. eq-eqb x y (sym (eqb-true y x e)))

all_once : (n : ℕ) (xs : List ℕ) → ((x : ℕ) → times x xs ≡ cond (ltb x n) 1 0) → length xs ≡ n
all_once n xs h =
    let each : (s : ℕ) → 0 ≤ s → s < 0 + (n - 0) → length (filter (λ u. eqb u s) xs) ≡ 1 =
    λ s i j. length_filter (λ u. eqb u s) xs ∙ count_same (λ u. eqb u s) (eqb s) xs (λ u m. swap_eqb u s) ∙ h s
    ∙ rw (lt-ltb s n (omega arith)) refl in
    let small : (u : ℕ) → Memᴰ u xs → u < n =
    λ u m. ⊎_elim (ltb-true u n) (λ e. absurd (omega (arith, weigh_one (λ y. 1) (eqb u) xs u m (eq-eqb u u refl), rw e at (h u))))
    (decide (ltb u n)) in
    omega (
      arith,
      count_gather (λ u. u) xs (λ u. true) n small,
      count_gathered xs (n - 0) 0 each,
      count_all (λ u. true) xs (λ u m. refl),
      count_all (λ u. true) (gather (λ s. filter (λ u. eqb u s) xs) (range 0 n)) (λ u m. refl),
    )

-- a way up to where it ends ends
ends_along : (r : List ℕ) (g w : ℕ) → ends g r w ≡ true → (f v : ℕ) → meets f r w v ≡ true → ends (f + g) r v ≡ true
ends_along r g w e zero v m = rw (meets_zero r w v m) (subst (λ (i : ℕ). ends i r w ≡ true) (let z : g ≡ 0 + g = omega arith in z) e)
ends_along r g w e (suc f) v m = go (met_to r f w v m) (λ q. ends_along r g w e f (parent r v) q)
  where
    more : (i : ℕ) (x : ℕ) → ends g r x ≡ true → ends (i + g) r x ≡ true
    more zero x q = subst (λ (j : ℕ). ends j r x ≡ true) (let z : g ≡ 0 + g = omega arith in z) q
    more (suc i) x q =
        subst (λ (j : ℕ). ends j r x ≡ true) (let z : suc (i + g) ≡ suc i + g = omega arith in z) (ends_more r (i + g) x (more i x q))

    go : Met r f w v → (meets f r w (parent r v) ≡ true → ends (f + g) r (parent r v) ≡ true) → ends (suc f + g) r v ≡ true
    go (here q) k = more (suc f) v (subst (λ (x : ℕ). ends g r x ≡ true) (sym q) e)
    go (up d q) k = subst (λ (j : ℕ). ends j r v ≡ true) (let z : suc (f + g) ≡ suc f + g = omega arith in z) (ends_up r (f + g) v d ∙ k q)

one_at : (x y : ℕ) → x ≡ y → is x y ≡ 1
one_at x y e = rw (eq-eqb x y e) refl

-- ---- the row of a tree in which each sample stands once

module _ (n : ℕ) (t : Tree) (least : 2 ≤ n) (most : n ≤ 512) (h : (x : ℕ) → times x (samples t) ≡ cond (ltb x n) 1 0) where
  abbrev g : Strand
  g = grow t n

  abbrev m : ℕ
  m = (grow t n).next

  abbrev r : List ℕ
  r = laid_row n (grow t n)

  few : m < row_words n
  few = omega (arith, (grow_few t n).1, all_once n (samples t) h)

  fine : Fine (samples t) n g
  fine = grow_fine t n (omega arith) (omega (arith, few))

  -- each node below m is linked or topmost, once
  node_once : (x : ℕ) → node_in x g ≡ cond (ltb x m) 1 0
  node_once x = go (decide (ltb x m)) (decide (ltb x n))
    where
      go : (ltb x m ≡ true) ⊎ (ltb x m ≡ false) → (ltb x n ≡ true) ⊎ (ltb x n ≡ false) → node_in x g ≡ cond (ltb x m) 1 0
      go (inl e) (inl d) = let z = rw (lt-leb m x (omega (arith, ltb-true x m e)), lt-leb n x (omega (arith, ltb-true x n d))) at
          (fine.once x) in rw e (omega (arith, z, rw d at (h x)))
      go (inl e) (inr d) = let z = rw (lt-leb m x (omega (arith, ltb-true x m e)), le-leb n x (omega (arith, ltb-false x n d))) at
          (fine.once x) in rw e (omega (arith, z, rw d at (h x)))
      go (inr e) (inl d) = absurd (omega (arith, ltb-false x m e, ltb-true x n d, fine.grown))
      go (inr e) (inr d) = let z = rw (le-leb m x (omega (arith, ltb-false x m e)), le-leb n x (omega (arith, ltb-false x n d))) at
          (fine.once x) in rw e (omega (arith, z, rw d at (h x)))

  node_one : (x : ℕ) → node_in x g ≤ 1
  node_one x = go (ltb x m) (node_once x)
    where
      go : (b : Bool) → node_in x g ≡ cond b 1 0 → node_in x g ≤ 1
      go true e = omega (arith, e)
      go false e = omega (arith, e)

  node_low : (x : ℕ) → 1 ≤ node_in x g → x < m
  node_low x i = ⊎_elim (ltb-true x m) (λ e. absurd (omega (arith, i, rw e at (node_once x)))) (decide (ltb x m))

  node_is : (x : ℕ) → x < m → node_in x g ≡ 1
  node_is x i = node_once x ∙ rw (lt-ltb x m i) refl

  root_low : g.root < m
  root_low = node_low g.root (omega (arith, is_self g.root))

  -- a node is topmost or linked
  linked : (x : ℕ) → x < m → (x ≡ g.root → ⊥) → (l : Link) × Memᴰ l g.links × (l.child ≡ x)
  linked x i d =
      let z = rw (ne_eqb x g.root d) at (node_is x i) in
      let w = weigh_found (λ l. 1) (λ l. eqb x l.child) g.links (omega (arith, z)) in
      (w.0, w.1, sym (eqb-true x w.0.child w.2))

  child_key : (l : Link) → Memᴰ l g.links → (1 ≤ keyed l.child g.links) × (l.child < m) × (l.child ≡ g.root → ⊥)
  child_key l i =
      let k = weigh_one (λ y. 1) (λ y. eqb l.child y.child) g.links l i (eq-eqb l.child l.child refl) in
      (k, node_low l.child (omega (arith, k)), λ e. omega (arith, k, node_one l.child, one_at l.child g.root e))

  words : length r ≡ row_words n
  unfolding laid_row
  words = length-set (set (sets g.links (zeros (row_words n))) 0 m) (suc g.root) root_mark
      ∙ length-set (sets g.links (zeros (row_words n))) 0 m ∙ length_links g.links (zeros (row_words n)) ∙ length_zeros (row_words n)

  nodes_laid : nodes r ≡ m
  unfolding laid_row nodes
  nodes_laid = get_or-set_other (set (sets g.links (zeros (row_words n))) 0 m) (suc g.root) 0 root_mark 0 (λ e. omega (arith, e))
      ∙ get_or-set_same (sets g.links (zeros (row_words n))) 0 m 0
      (omega (arith, length_links g.links (zeros (row_words n)), length_zeros (row_words n)))

  parent_root : parent r g.root ≡ root_mark
  unfolding laid_row parent
  parent_root = get_or-set_same (set (sets g.links (zeros (row_words n))) 0 m) (suc g.root) root_mark 0
      (omega (
        arith,
        length-set (sets g.links (zeros (row_words n))) 0 m,
        length_links g.links (zeros (row_words n)),
        length_zeros (row_words n),
        root_low,
        few,
      ))

  parent_other : (c : ℕ) → (c ≡ g.root → ⊥) → parent r c ≡ get_or (sets g.links (zeros (row_words n))) (suc c) 0
  unfolding laid_row parent
  parent_other c d = get_or-set_other (set (sets g.links (zeros (row_words n))) 0 m) (suc g.root) (suc c) root_mark 0 (λ e. d (suc_inj e))
      ∙ get_or-set_other (sets g.links (zeros (row_words n))) 0 (suc c) m 0 (λ e. omega (arith, e))

  sat : Sat r g.links
  sat l i =
      let k = child_key l i in (
        parent_other l.child k.2
            ∙ links_get g.links (zeros (row_words n)) l i (omega (arith, node_one l.child))
            (omega (arith, length_zeros (row_words n), k.1, few)),
        ne_eqb l.up root_mark (λ e. omega (arith, (fine.ups l i).1, few)),
      )

  some : n < m
  some = ⊎_elim (ltb-true n m) (λ e. absurd (none (ltb-false n m e))) (decide (ltb n m))
    where
      none : m ≤ n → ⊥
      none i = let a = own 0 (omega arith) in let b = own 1 (omega arith) in omega (arith, a, b)
        where
          own : (x : ℕ) → x < n → x ≡ g.root
          own x j = ⊎_elim (eqb-true x g.root) (λ e. let w = linked x (omega (arith, fine.grown)) (eqb-false x g.root e) in
              let u = fine.ups w.0 w.1 in absurd (omega (arith, u.0, u.1))) (decide (eqb x g.root))

  root_high : n ≤ g.root
  root_high = ⊎_elim (λ i. i) (λ e. absurd (omega (arith, e, some))) (grow_top t n (omega arith) (omega (arith, few)))

  up_of : (x : ℕ) → x < m → (x ≡ g.root → ⊥) → (n ≤ parent r x) × (parent r x < m)
  up_of x i d =
      let w = linked x i d in
      let e : parent r x ≡ w.0.up = ap (parent r) (sym w.2) ∙ (sat w.0 w.1).0 in
      let u = fine.ups w.0 w.1 in (omega (arith, e, u.0), omega (arith, e, u.1))

  root_only : (x : ℕ) → x < m → parent r x ≡ root_mark → x ≡ g.root
  root_only x i e =
      ⊎_elim (eqb-true x g.root) (λ d. absurd (omega (arith, e, (up_of x i (eqb-false x g.root d)).1, few))) (decide (eqb x g.root))

  reaches : (v : ℕ) → v < m → ends m r v ≡ true
  unfolding Reach
  reaches v i =
      let w = grow_reach r t n (omega arith) (omega (arith, few)) sat v (omega (arith, node_is v i)) in
      ends_enough r m (λ u j e. (up_of u j (λ q. false≢true (sym e ∙ eq-eqb (parent r u) root_mark (ap (parent r) q ∙ parent_root)))).1)
      (w.0 + 1) v i
      (ends_along r 1 g.root (ends_here r 0 g.root (eq-eqb (parent r g.root) root_mark parent_root)) w.0 v w.1)

  pair_children : (v : ℕ) → n ≤ v → v < m → 2 ≤ count (child_of r v) (range 0 m)
  pair_children v i j =
      let w = two_links g.links v (λ x. omega (arith, node_one x)) (fine.two v i j) in
      let a = child_key w.0 w.2 in let b = child_key w.1 w.3 in
      count_two (child_of r v) (range 0 m) w.0.child w.1.child (range_in 0 m w.0.child zero-le a.1)
      (range_in 0 m w.1.child zero-le b.1) w.6
      (eq-eqb (parent r w.0.child) v ((sat w.0 w.2).0 ∙ w.4)) (eq-eqb (parent r w.1.child) v ((sat w.1 w.3).0 ∙ w.5))

  filled : (w : ℕ) → m < w → w < row_words n → get_or r w 0 ≡ 0
  unfolding parent
  filled zero i j = absurd (omega arith)
  filled (suc c) i j = parent_other c (λ e. omega (arith, root_low))
      ∙ links_other g.links (zeros (row_words n)) c (omega (arith, rw (le-ltb c m (omega arith)) at (node_once c)))
      ∙ get_or_zeros (row_words n) (suc c)

  -- each node that is laid has two children or more: a pair with one subtree makes none (RULES 14.9)
  pub laid_two : (v : ℕ) → n ≤ v → v < nodes r → 2 ≤ children r v
  laid_two v i j = rw nodes_laid (pair_children v i (omega (arith, nodes_laid)))

  pub laid_valid : Valid n r
  laid_valid = record {
    least = least;
    most = most;
    words = words;
    low = omega (arith, nodes_laid, some);
    high = omega (arith, nodes_laid, few);
    leaf = λ s i. let u = up_of s (omega (arith, some)) (λ e. omega (arith, root_high)) in (u.0, omega (arith, u.1, nodes_laid));
    up = λ v i j. ⊎_elim (λ e. inl (ap (parent r) (eqb-true v g.root e) ∙ parent_root))
        (λ e. let u = up_of v (omega (arith, nodes_laid)) (eqb-false v g.root e) in
        inr (u.0, omega (arith, u.1, nodes_laid))) (decide (eqb v g.root));
    one = rw nodes_laid (count_unique (child_of r root_mark) n m g.root root_high root_low
        (eq-eqb (parent r g.root) root_mark parent_root) (λ x i j e. root_only x j (eqb-true (parent r x) root_mark e)));
    filler = λ w i j. filled w (omega (arith, nodes_laid)) j;
    reach = λ v i. rw nodes_laid (reaches v (omega (arith, nodes_laid)));
    child = λ v i j. omega (arith, laid_two v i j);
  }

  pub laid_groups : (x : Group) → member x (groups n r) ≡ member x (groups_of n t)
  laid_groups x =
      let T = grow_tells n r laid_valid t n (omega arith) (omega arith) (omega (arith, few)) (record {
        sat = sat;
        one = node_one;
        inside = λ y i. omega (arith, node_low y i, nodes_laid);
      })
      (λ s i a. omega (arith, h s, rw (lt-ltb s n i) at (h s))) in
      true_eq (member x (groups n r)) (member x (groups_of n t))
      (λ e. let w = in_groups n r x e in
      subst (λ (y : Group). In y (groups_of n t)) w.2
      (T.whole w.0 (omega (arith, node_is w.0 (omega (arith, w.1, nodes_laid))))))
      (T.sound x)
