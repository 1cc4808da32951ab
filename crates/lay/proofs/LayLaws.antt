-- Each node of a laid tree is linked once, but for the topmost; each inner node has two links or more. Assumes nothing.
use Rattle.std.specs.Prelude.{ℕ, ◌+◌, ◌≤◌, ◌<◌, ◌≡◌, refl, ◌⊎◌, Bool, true, false, cond, eqb, ltb, leb, length}
use Rattle.std.proofs.Common.{sym, ap, ◌∙◌, inl, inr, ⊎_elim, add-zero, arith, length-append, ltb-true, ltb-false, leb-true, leb-false, le-leb, eqb-true, ne_eqb, lt-ltb}
use mathlib.Core.List.Memᴰ
use mathlib.Core.List.{List, [], ◌∷◌, ◌++◌, Memᴰ}
use Rattle.std.proofs.lemmas.Bool.{false≢true, lt-leb, eqb-false}
use Rattle.trees.specs.Lists.{weigh, count}
use Rattle.trees.proofs.BoolLaws.{decide}
use Rattle.trees.proofs.ListLaws.{weigh_append}
use Rattle.trees.specs.Tables.{table_words}
use Rattle.newick.specs.Tree.{Tree, Forest}
use Rattle.newick.specs.Tree.Tree.{leaf, pair}
use Rattle.newick.specs.Tree.Forest.{only, more}
use Rattle.newick.specs.Meaning.{samples, samples_in, times}
use Rattle.lay.specs.Laying.{Link, link, Strand, Braid, capped, next_of, first_of, part_by, then_by, shut_by, grow, spread}

-- 1 where two numbers are equal; 1 from a number on; 1 at the node of a pair that has one
abbrev pub is : ℕ → ℕ → ℕ
is x y = cond (eqb x y) 1 0

abbrev pub step_at : ℕ → ℕ → ℕ
step_at k x = cond (leb k x) 1 0

abbrev pub held_at : ℕ → ℕ → ℕ
held_at v x = cond (eqb v 0) 0 (is x v)

-- how often x is linked, and how many links come to v
abbrev pub keyed : ℕ → List Link → ℕ
keyed x ls = count (λ l. eqb x l.child) ls

abbrev pub under : ℕ → List Link → ℕ
under v ls = count (λ l. eqb v l.up) ls

step_one : (k x : ℕ) → is x k + step_at (k + 1) x ≡ step_at k x
step_one k x = go (decide (eqb x k)) (decide (leb k x))
  where
    go : (eqb x k ≡ true) ⊎ (eqb x k ≡ false) → (leb k x ≡ true) ⊎ (leb k x ≡ false) → is x k + step_at (k + 1) x ≡ step_at k x
    go (inl e) d = let q = eqb-true x k e in rw (e, lt-leb (k + 1) x (omega arith), le-leb k x (omega arith)) (omega arith)
    go (inr e) (inl d) = rw (e, d, le-leb (k + 1) x (omega (arith, leb-true k x d, eqb-false x k e))) (omega arith)
    go (inr e) (inr d) = rw (e, d, lt-leb (k + 1) x (omega (arith, leb-false k x d))) (omega arith)

pub count_last : (t : Link → Bool) (ls : List Link) (l : Link) → count t (ls ++ (l ∷ [])) ≡ count t ls + cond (t l) 1 0
unfolding weigh
count_last t ls l = weigh_append (λ y. 1) t ls (l ∷ []) ∙ ap (λ (k : ℕ). count t ls + k) (add-zero (cond (t l) 1 0))

-- ---- what holds of a laid subtree, in a pair, and after a comma; xs are the samples and k is the number from which nodes are made

pub record Fine (xs : List ℕ) (k : ℕ) (g : Strand) : Type 0 where
  pub grown : k ≤ g.next
  pub once : (x : ℕ) → keyed x g.links + is x g.root + step_at g.next x ≡ times x xs + step_at k x
  pub ups : (l : Link) → Memᴰ l g.links → (k ≤ l.up) × (l.up < g.next)
  pub two : (v : ℕ) → k ≤ v → v < g.next → 2 ≤ under v g.links

pub record FineIn (xs : List ℕ) (k : ℕ) (b : Braid) : Type 0 where
  pub grown : k ≤ b.next
  pub once : (x : ℕ) → keyed x b.links + is x b.root + held_at b.node x + step_at b.next x ≡ times x xs + step_at k x
  pub ups : (l : Link) → Memᴰ l b.links → (k ≤ l.up) × (l.up < b.next)
  pub own : (eqb b.node 0 ≡ true) ⊎ ((k ≤ b.node) × (b.node < b.next))
  pub two : (v : ℕ) → k ≤ v → v < b.next → 2 ≤ under v b.links + held_at b.node v

pub record FineAfter (xs : List ℕ) (k : ℕ) (b : Braid) : Type 0 where
  pub grown : k ≤ b.next
  pub once : (x : ℕ) → keyed x b.links + is x b.node + step_at b.next x ≡ times x xs + step_at k x
  pub ups : (l : Link) → Memᴰ l b.links → (k ≤ l.up) × (l.up < b.next)
  pub own : (k ≤ b.node) × (b.node < b.next)
  pub two : (v : ℕ) → k ≤ v → v < b.next → 2 ≤ under v b.links + is v b.node

fine_first : (xs : List ℕ) (k : ℕ) (g : Strand) → Fine xs k g → FineIn xs k (first_of g)
fine_first xs k g h = record {
  grown = h.grown;
  once = λ x. omega (arith, h.once x);
  ups = h.ups;
  own = inl refl;
  two = λ v a b. omega (arith, h.two v a b);
}

ups_last : (k n m c p : ℕ) (ls : List Link) → ((l : Link) → Memᴰ l ls → (k ≤ l.up) × (l.up < n)) → n ≤ m → k ≤ p → p < m
    → (l : Link) → Memᴰ l (ls ++ (link c p ∷ [])) → (k ≤ l.up) × (l.up < m)
ups_last k n m c p ls h a b e l i = ⊎_elim (λ j. let q = h l j in (q.0, omega (arith, q.1))) (λ j. one j) (Memᴰ.append_cases ls i)
  where
    one : Memᴰ l (link c p ∷ []) → (k ≤ l.up) × (l.up < m)
    one (Memᴰ.tail j) = elim j [ ]
    one (Memᴰ.head q) = rw q (b, e)

-- at a comma
pub fine_part : (xs : List ℕ) (k : ℕ) (b : Braid) → 1 ≤ k → FineIn xs k b → next_of b.node b.next < table_words
    → FineAfter xs k (part_by b)
fine_part xs k b s h f = go (decide (eqb b.node 0)) h.own
  where
    go : (eqb b.node 0 ≡ true) ⊎ (eqb b.node 0 ≡ false) → (eqb b.node 0 ≡ true) ⊎ ((k ≤ b.node) × (b.node < b.next))
        → FineAfter xs k (part_by b)
    go (inl e) o =
        let room : b.next < table_words = ⊎_elim (ltb-true b.next table_words)
        (λ q. omega (arith, ltb-false b.next table_words q, rw (e, q) at f)) (decide (ltb b.next table_words)) in
        let c : capped b.next ≡ b.next + 1 = rw (lt-ltb b.next table_words room) refl in
        rw (e, c) (record {
          grown = omega (arith, h.grown);
          once = λ x. omega (
            arith,
            count_last (λ l. eqb x l.child) b.links (link b.root b.next),
            step_one b.next x,
            rw e at (h.once x),
          );
          ups = ups_last k b.next (b.next + 1) b.root b.next b.links h.ups (omega arith) h.grown (omega arith);
          own = (h.grown, omega arith);
          two = λ v i j. newest v i j (decide (eqb v b.next));
        })
      where
        newest : (v : ℕ) → k ≤ v → v < b.next + 1 → (eqb v b.next ≡ true) ⊎ (eqb v b.next ≡ false)
            → 2 ≤ under v (b.links ++ (link b.root b.next ∷ [])) + is v b.next
        newest v i j (inl q) =
            let z = rw q at (count_last (λ l. eqb v l.up) b.links (link b.root b.next)) in rw q (omega (arith, z))
        newest v i j (inr q) = omega (
          arith,
          count_last (λ l. eqb v l.up) b.links (link b.root b.next),
          rw e at (h.two v i (omega (arith, eqb-false v b.next q))),
        )
    go (inr e) (inl o) = absurd (false≢true (sym e ∙ o))
    go (inr e) (inr o) = rw e (record {
      grown = h.grown;
      once = λ x. omega (arith, count_last (λ l. eqb x l.child) b.links (link b.root b.node), rw e at (h.once x));
      ups = ups_last k b.next b.next b.root b.node b.links h.ups (omega arith) o.0 o.1;
      own = o;
      two = λ v i j. omega (arith, count_last (λ l. eqb v l.up) b.links (link b.root b.node), rw e at (h.two v i j));
    })

-- at a further subtree
fine_then : (xs ys : List ℕ) (k : ℕ) (b : Braid) (g : Strand) → 1 ≤ k → FineAfter xs k b → Fine ys b.next g
    → FineIn (xs ++ ys) k (then_by b g)
fine_then xs ys k b g s h i =
    let nz : eqb b.node 0 ≡ false = ne_eqb b.node 0 (λ e. omega (arith, h.own.0)) in record {
      grown = omega (arith, h.grown, i.grown);
      once = λ x. rw nz (omega (
        arith,
        weigh_append (λ l. 1) (λ l. eqb x l.child) b.links g.links,
        weigh_append (λ y. 1) (eqb x) xs ys,
        h.once x,
        i.once x,
      ));
      ups = λ l m. ⊎_elim (λ j. let q = h.ups l j in (q.0, omega (arith, q.1, i.grown)))
          (λ j. let q = i.ups l j in (omega (arith, q.0, h.grown), q.1)) (Memᴰ.append_cases b.links m);
      own = inr (h.own.0, omega (arith, h.own.1, i.grown));
      two = λ v a c. rw nz (either v a c (decide (ltb v b.next)));
    }
  where
    either : (v : ℕ) → k ≤ v → v < g.next → (ltb v b.next ≡ true) ⊎ (ltb v b.next ≡ false)
        → 2 ≤ under v (b.links ++ g.links) + is v b.node
    either v a c (inl e) =
        omega (arith, weigh_append (λ l. 1) (λ l. eqb v l.up) b.links g.links, h.two v a (ltb-true v b.next e))
    either v a c (inr e) =
        omega (arith, weigh_append (λ l. 1) (λ l. eqb v l.up) b.links g.links, i.two v (ltb-false v b.next e) c)

-- at the closing bracket
fine_shut : (xs : List ℕ) (k : ℕ) (b : Braid) → FineIn xs k b → Fine xs k (shut_by b)
fine_shut xs k b h = go (decide (eqb b.node 0)) h.own
  where
    go : (eqb b.node 0 ≡ true) ⊎ (eqb b.node 0 ≡ false) → (eqb b.node 0 ≡ true) ⊎ ((k ≤ b.node) × (b.node < b.next))
        → Fine xs k (shut_by b)
    go (inl e) o = rw e (record {
      grown = h.grown;
      once = λ x. omega (arith, rw e at (h.once x));
      ups = h.ups;
      two = λ v i j. omega (arith, rw e at (h.two v i j));
    })
    go (inr e) (inl o) = absurd (false≢true (sym e ∙ o))
    go (inr e) (inr o) = rw e (record {
      grown = h.grown;
      once = λ x. omega (arith, count_last (λ l. eqb x l.child) b.links (link b.root b.node), rw e at (h.once x));
      ups = ups_last k b.next b.next b.root b.node b.links h.ups (omega arith) o.0 o.1;
      two = λ v i j. omega (arith, count_last (λ l. eqb v l.up) b.links (link b.root b.node), rw e at (h.two v i j));
    })

-- ---- numbers only grow, and there are fewer nodes than samples

pub next_grown : (node next : ℕ) → (next ≤ next_of node next) × (next_of node next ≤ next + 1)
next_grown node next = go (decide (eqb node 0)) (decide (ltb next table_words))
  where
    go : (eqb node 0 ≡ true) ⊎ (eqb node 0 ≡ false) → (ltb next table_words ≡ true) ⊎ (ltb next table_words ≡ false)
        → (next ≤ next_of node next) × (next_of node next ≤ next + 1)
    go (inl e) (inl d) = rw (e, d) (omega arith, omega arith)
    go (inl e) (inr d) = rw (e, d) (omega arith, omega arith)
    go (inr e) d = rw e (omega arith, omega arith)

mutual
  unfolding grow samples

  pub grow_few : (t : Tree) (k : ℕ) → (k ≤ (grow t k).next) × ((grow t k).next + 1 ≤ k + length (samples t))
  grow_few (leaf x) k = (omega arith, omega arith)
  grow_few (pair f μ) k = spread_few f k

  pub spread_few : (f : Forest) (k : ℕ) → (k ≤ (spread f k).next) × ((spread f k).next + 1 ≤ k + length (samples_in f))
  spread_few (only t) k = grow_few t k
  spread_few (more f t) k =
      let b = spread f k in
      let i = spread_few f k in
      let n = next_grown b.node b.next in
      let j = grow_few t (next_of b.node b.next) in
      (omega (arith, i.0, n.0, j.0), omega (arith, i.1, n.1, j.1, length-append (samples_in f) (samples t)))

mutual
  unfolding grow samples weigh

  pub grow_fine : (t : Tree) (k : ℕ) → 1 ≤ k → (grow t k).next < table_words → Fine (samples t) k (grow t k)
  grow_fine (leaf x) k s h = record {
    grown = omega arith;
    once = λ y. omega arith;
    ups = λ l m. nothing l m;
    two = λ v a b. absurd (omega arith);
  }
    where
      nothing : (l : Link) → Memᴰ l [] → (k ≤ l.up) × (l.up < k)
      nothing l m = absurd (Memᴰ.not-nil m)
  grow_fine (pair f μ) k s h = fine_shut (samples_in f) k (spread f k) (spread_fine f k s h)

  pub spread_fine : (f : Forest) (k : ℕ) → 1 ≤ k → (spread f k).next < table_words → FineIn (samples_in f) k (spread f k)
  spread_fine (only t) k s h = fine_first (samples t) k (grow t k) (grow_fine t k s h)
  spread_fine (more f t) k s h =
      let b = spread f k in
      let n = next_grown b.node b.next in
      let j = grow_few t (next_of b.node b.next) in
      fine_then (samples_in f) (samples t) k (part_by b) (grow t (next_of b.node b.next)) s
      (fine_part (samples_in f) k b s (spread_fine f k s (omega (arith, n.0, j.0))) (omega (arith, j.0)))
      (grow_fine t (next_of b.node b.next) (omega (arith, (spread_few f k).0, n.0)) h)
