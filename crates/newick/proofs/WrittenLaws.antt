-- The text of a valid row is of the form, and means a tree with the row's groups. Assumes nothing.
use Prim.Native.Nat.{ℕ, zero, suc, ◌+◌, ◌≤◌, ◌<◌}
use Rattle.std.proofs.Math.Path.{◌≡◌, refl, sym, ap, subst}
use Rattle.std.proofs.Common.{◌∙◌, inl, inr}
use Rattle.std.specs.Prelude.{◌⊎◌, Bool, false, ◌&&◌, ◌||◌, eqb, ltb, leb, length, get_or}
use Rattle.std.proofs.Math.Logic.{⊎_elim}
use mathlib.Core.List.{List, [], ◌∷◌, ◌++◌, Memᴰ, append_assoc, append-nil}
use Rattle.std.proofs.Math.Bool.{true, cond}
use Rattle.std.proofs.Math.Nat.{add-zero}
use native.Mathlib.Omega.{arith}
use Rattle.std.proofs.Math.Seq.{append_snoc}
use borrow.Author.Tests.{ltb-true, ltb-false, eqb-true, eqb-false, eq-eqb, lt-ltb}
use Rattle.trees.specs.Lists.{weigh, count}
use Rattle.trees.specs.Groups.{Group, member}
use Rattle.trees.specs.Rows.{nodes, root_mark, child_of, meets, group_at, groups}
use Rattle.trees.specs.Valid.{Valid, In}
use Rattle.trees.proofs.BoolLaws.{and_l, and_r, and_both, or_cases, or_l, or_r, true_eq, decide}
use Rattle.trees.proofs.ListLaws.{tabulate_same, weigh_append, weigh_none}
use Rattle.trees.proofs.MemberLaws.{in_none, in_head, in_tail, in_cases, member_append}
use Rattle.trees.proofs.WayLaws.{meets_refl}
use Rattle.trees.proofs.RowLaws.{Above, groups-in, no_leaf_above, valid_rooted}
use Rattle.ascii.specs.Decimal.{decimal}
use Rattle.newick.specs.Bytes.{closing_byte, comma_byte, opening_byte}
use Rattle.newick.specs.Tree.{Mark, Tree, Forest}
use Rattle.newick.specs.Tree.Mark.{unmarked, marked}
use Rattle.newick.specs.Tree.Tree.{leaf, pair}
use Rattle.newick.specs.Tree.Forest.{only, more}
use Rattle.newick.specs.Grammar.{Support, Length, Subtree, Subtrees}
use Rattle.newick.specs.Grammar.All.{none}
use Rattle.newick.specs.Meaning.{samples, samples_in, times, among, group_of, groups_of, groups_in}
use Rattle.newick.specs.RowText.{Wanted, children_of, commas, listed, word_text, mark_text, node_text}
use Rattle.newick.specs.RowText.Wanted.{plain, with_words}
use Rattle.newick.proofs.DigitLaws.{decimal_support, decimal_sample}
use Rattle.newick.proofs.ChildLaws.{child_once, pairs_at, pairs_fall, pairs_some}
use Rattle.newick.proofs.ChildrenLaws.{in_child, count_child, length_child}

among_cond : (b : Bool) → leb 1 (cond b 1 0) ≡ b
among_cond true = refl
among_cond false = refl

count_one : (t : ℕ → Bool) (c : ℕ) → count t (c ∷ []) ≡ cond (t c) 1 0
unfolding weigh
count_one t c = add-zero (cond (t c) 1 0)

found_one : (t : ℕ → Bool) (c : ℕ) → 1 ≤ count t (c ∷ []) → t c ≡ true
unfolding weigh
found_one t c e = go (t c) e
  where
    go : (b : Bool) → 1 ≤ cond b 1 0 + 0 → b ≡ true
    go true e = refl
    go false e = absurd (omega arith)

module _ (n : ℕ) (r : List ℕ) where
  -- whether x is a sample at or below node v
  abbrev pub shows : ℕ → ℕ → Bool
  shows v x = ltb x n && meets (nodes r) r v x

  -- l is the text of a tree with the samples and groups below node v
  pub record Meant (v d : ℕ) (l : List ℕ) : Type 0 where
    pub tree : Tree
    pub form : Subtree d l tree
    pub stands : (x : ℕ) → times x (samples tree) ≡ cond (shows v x) 1 0
    pub sound : (g : Group) → In g (groups_of n tree) → In g (groups n r)
    pub whole : (u : ℕ) → u < nodes r → Above r v u → In (group_at n r u) (groups_of n tree)

  -- and of trees with those below each of some nodes
  pub record MeantIn (cs : List ℕ) (d : ℕ) (l : List ℕ) : Type 0 where
    pub forest : Forest
    pub form : Subtrees d l forest
    pub stands : (x : ℕ) → times x (samples_in forest) ≡ count (λ c. shows c x) cs
    pub sound : (g : Group) → In g (groups_in n forest) → In g (groups n r)
    pub whole : (u : ℕ) → u < nodes r → 1 ≤ count (λ c. meets (nodes r) r c u) cs → In (group_at n r u) (groups_in n forest)

  -- a list in which the samples below v stand has the group of v
  group_same : (v : ℕ) (xs : List ℕ) → ((x : ℕ) → times x xs ≡ cond (shows v x) 1 0) → group_of n xs ≡ group_at n r v
  unfolding group_of group_at
  group_same v xs h = tabulate_same n (λ s. among s xs) (meets (nodes r) r v) 0
      (λ s a b. ap (leb 1) (h s) ∙ among_cond (shows v s) ∙ rw (lt-ltb s n (omega arith)) refl)

  -- ---- lists of nodes

  meant_only : (c d : ℕ) (l : List ℕ) → Meant c d l → MeantIn (c ∷ []) d l
  unfolding samples_in groups_in
  meant_only c d l h = record {
    forest = only h.tree;
    form = Subtrees.one d l h.tree h.form;
    stands = λ x. h.stands x ∙ sym (count_one (λ y. shows y x) c);
    sound = h.sound;
    whole = λ u k e. h.whole u k (found_one (λ y. meets (nodes r) r y u) c e);
  }

  meant_next : (cs : List ℕ) (c d : ℕ) (l k : List ℕ) → MeantIn cs d l → Meant c d k
      → MeantIn (cs ++ (c ∷ [])) d (l ++ (comma_byte ∷ k))
  unfolding samples_in groups_in
  meant_next cs c d l k h g = record {
    forest = more h.forest g.tree;
    form = Subtrees.parted d (l ++ (comma_byte ∷ k)) l k h.forest g.tree refl h.form g.form;
    stands = λ x. weigh_append (λ y. 1) (eqb x) (samples_in h.forest) (samples g.tree)
        ∙ (let z : times x (samples_in h.forest) + times x (samples g.tree) ≡ count (λ y. shows y x) cs + count (λ y. shows y x)
        (c ∷ []) = omega (arith, h.stands x, g.stands x, count_one (λ y. shows y x) c) in z)
        ∙ sym (weigh_append (λ y. 1) (λ y. shows y x) cs (c ∷ []));
    sound = λ x m. ⊎_elim (h.sound x) (g.sound x) (or_cases (member x (groups_in n h.forest)) (member x (groups_of n g.tree))
        (sym (member_append x (groups_in n h.forest) (groups_of n g.tree)) ∙ m));
    whole = λ u j e. member_append (group_at n r u) (groups_in n h.forest) (groups_of n g.tree)
        ∙ one_of (member (group_at n r u) (groups_in n h.forest)) (member (group_at n r u) (groups_of n g.tree))
        (count (λ y. meets (nodes r) r y u) cs) (count (λ y. meets (nodes r) r y u) (c ∷ []))
        (h.whole u j) (λ i. g.whole u j (found_one (λ y. meets (nodes r) r y u) c i))
        (omega (arith, weigh_append (λ y. 1) (λ y. meets (nodes r) r y u) cs (c ∷ [])));
  }
    where
      one_of : (a b : Bool) (i j : ℕ) → (1 ≤ i → a ≡ true) → (1 ≤ j → b ≡ true) → 1 ≤ i + j → a || b ≡ true
      one_of a b zero j f e s = or_r a b (e (omega arith))
      one_of a b (suc i) j f e s = or_l a b (f (omega arith))

  meant_more : (f : ℕ → List ℕ) (cs done : List ℕ) (d : ℕ) (l : List ℕ) → MeantIn done d l
      → ((c : ℕ) → Memᴰ c cs → Meant c d (f c)) → MeantIn (done ++ cs) d (l ++ commas f cs)
  unfolding commas
  meant_more f [] done d l h g = rw (append-nil done, append-nil l) h
  meant_more f (c ∷ cs) done d l h g =
      subst (λ (z : List ℕ). MeantIn z d (l ++ (comma_byte ∷ (f c ++ commas f cs)))) (append_snoc done c cs)
      (subst (λ (z : List ℕ). MeantIn ((done ++ (c ∷ [])) ++ cs) d z) (append_assoc l (comma_byte ∷ f c) (commas f cs))
      (meant_more f cs (done ++ (c ∷ [])) d (l ++ (comma_byte ∷ f c))
      (meant_next done c d l (f c) h (g c (Memᴰ.head refl))) (λ e m. g e (Memᴰ.tail m))))

  meant_list : (f : ℕ → List ℕ) (cs : List ℕ) (d : ℕ) → 1 ≤ length cs → ((c : ℕ) → Memᴰ c cs → Meant c d (f c))
      → MeantIn cs d (listed f cs)
  unfolding listed
  meant_list f [] d h g = absurd (omega arith)
  meant_list f (c ∷ cs) d h g = meant_more f cs (c ∷ []) d (f c) (meant_only c d (f c) (g c (Memᴰ.head refl)))
      (λ e m. g e (Memᴰ.tail m))

no_length : Length []
no_length = Length.lengthless [] none

module _ (n : ℕ) (r : List ℕ) (ok : Valid n r) where
  -- ---- a sample

  shows_leaf : (s x : ℕ) → s < n → eqb x s ≡ shows n r s x
  shows_leaf s x h = true_eq (eqb x s) (shows n r s x)
      (λ e. rw (eqb-true x s e) (and_both (ltb s n) (meets (nodes r) r s s) (lt-ltb s n h) (meets_refl r (nodes r) s)))
      (λ e. eq-eqb x s (no_leaf_above n r (valid_rooted n r ok) s x h
      (omega (arith, ltb-true x n (and_l (ltb x n) (meets (nodes r) r s x) e), ok.low)) (and_r (ltb x n) (meets (nodes r) r s x) e)))

  stands_leaf : (s x : ℕ) → s < n → times x (s ∷ []) ≡ cond (shows n r s x) 1 0
  unfolding weigh
  stands_leaf s x h = add-zero (cond (eqb x s) 1 0) ∙ ap (λ (b : Bool). cond b 1 0) (shows_leaf s x h)

  meant_leaf : (s d : ℕ) → s < n → Meant n r s d (decimal s)
  unfolding samples groups_of
  meant_leaf s d h =
      let e = group_same n r s (s ∷ []) (λ x. stands_leaf s x h) in record {
        tree = leaf s;
        form = Subtree.a_sample d (decimal s) [] (decimal s) [] s (sym (append-nil (decimal s))) none
            (decimal_sample s (omega (arith, ok.most))) no_length;
        stands = λ x. stands_leaf s x h;
        sound = λ g m. ⊎_elim (λ q. subst (λ (z : Group). In z (groups n r)) (sym (q ∙ e)) (groups-in n r s (omega (arith, ok.low))))
            (λ q. absurd (in_none g q)) (in_cases g (group_of n (s ∷ [])) [] m);
        whole = λ u k a. rw (no_leaf_above n r (valid_rooted n r ok) s u h k a, e) (in_head (group_at n r s) []);
      }

  -- ---- a pair of brackets

  shows_count : (v x : ℕ) → n ≤ v → v < nodes r → count (λ c. shows n r c x) (children_of n r v) ≡ cond (shows n r v x) 1 0
  shows_count v x a h = go (decide (ltb x n))
    where
      go : (ltb x n ≡ true) ⊎ (ltb x n ≡ false) → count (λ c. shows n r c x) (children_of n r v) ≡ cond (shows n r v x) 1 0
      go (inl e) = let k = ltb-true x n e in rw e (count_child n r ok v (λ c. meets (nodes r) r c x)
          ∙ child_once n r ok v x h (omega (arith, ok.low)) (λ q. omega arith))
      go (inr e) = rw e (weigh_none (λ c. 1) (λ c. false) (children_of n r v) (λ c m. refl))

  meant_pair : (v d : ℕ) (l s : List ℕ) (μ : Mark) → n ≤ v → v < nodes r → MeantIn n r (children_of n r v) d l → Support s μ
      → Meant n r v (suc d) (opening_byte ∷ (l ++ (closing_byte ∷ s)))
  unfolding samples groups_of
  meant_pair v d l s μ a h k z =
      let st : (x : ℕ) → times x (samples_in k.forest) ≡ cond (shows n r v x) 1 0 = λ x. k.stands x ∙ shows_count v x a h in
      let e = group_same n r v (samples_in k.forest) st in record {
        tree = pair k.forest μ;
        form = Subtree.a_pair d (opening_byte ∷ (l ++ (closing_byte ∷ s))) [] l s [] k.forest μ (rw (append-nil s) refl) none
            k.form z no_length;
        stands = st;
        sound = λ g m. ⊎_elim (λ q. subst (λ (z : Group). In z (groups n r)) (sym (q ∙ e)) (groups-in n r v h)) (k.sound g)
            (in_cases g (group_of n (samples_in k.forest)) (groups_in n k.forest) m);
        whole = λ u j b. below u j b e (decide (eqb u v));
      }
    where
      below : (u : ℕ) → u < nodes r → Above r v u → group_of n (samples_in k.forest) ≡ group_at n r v → (eqb u v ≡ true) ⊎ (eqb u v ≡ false)
          → In (group_at n r u) (group_of n (samples_in k.forest) ∷ groups_in n k.forest)
      below u j b e (inl q) = rw (e, eqb-true u v q) (in_head (group_at n r v) (groups_in n k.forest))
      below u j b e (inr q) = in_tail (group_at n r u) (group_of n (samples_in k.forest)) (groups_in n k.forest) (k.whole u j
          (omega (
            arith,
            count_child n r ok v (λ c. meets (nodes r) r c u),
            child_once n r ok v u h j (eqb-false u v q),
            one (meets (nodes r) r v u) b,
          )))
        where
          one : (t : Bool) → t ≡ true → ◌≡◌ {A = ℕ} (cond t 1 0) 1
          one t i = rw i refl

  module _ (w : Wanted) where
    word_support : (w' : Wanted) (v : ℕ) → (μ : Mark) × Support (word_text w' v) μ
    word_support plain v = (unmarked, Support.unsupported [] none)
    word_support (with_words ws) v = (marked (get_or ws (suc v) 0), decimal_support (get_or ws (suc v) 0))

    mark_support : (v : ℕ) → (μ : Mark) × Support (mark_text r w v) μ
    mark_support v = go (child_of r root_mark v)
      where
        go : (b : Bool) → (μ : Mark) × Support (cond b [] (word_text w v)) μ
        go true = (unmarked, Support.unsupported [] none)
        go false = word_support w v

    pub meant : (f d v : ℕ) → v < nodes r → pairs_at n r ok v ≤ f → pairs_at n r ok v ≤ d → Meant n r v d (node_text f n r w v)
    unfolding node_text
    meant zero d v h a b = meant_leaf v d (⊎_elim (ltb-true v n)
        (λ e. absurd (omega (arith, pairs_some n r ok v (ltb-false v n e) h))) (decide (ltb v n)))
    meant (suc f) d v h a b = go d b (decide (ltb v n)) (λ c e. meant f e c)
      where
        go : (d : ℕ) → pairs_at n r ok v ≤ d → (ltb v n ≡ true) ⊎ (ltb v n ≡ false)
            → ((c e : ℕ) → c < nodes r → pairs_at n r ok c ≤ f → pairs_at n r ok c ≤ e → Meant n r c e (node_text f n r w c))
            → Meant n r v d (cond (ltb v n) (decimal v) (opening_byte ∷
            (listed (node_text f n r w) (children_of n r v) ++ (closing_byte ∷ mark_text r w v))))
        go d b (inl e) g = rw e (meant_leaf v d (ltb-true v n e))
        go zero b (inr e) g = absurd (omega (arith, pairs_some n r ok v (ltb-false v n e) h))
        go (suc d) b (inr e) g =
            let i = ltb-false v n e in
            let t = mark_support v in
            rw e (meant_pair v d (listed (node_text f n r w) (children_of n r v)) (mark_text r w v) t.0 i h
            (meant_list n r (node_text f n r w) (children_of n r v) d (omega (arith, length_child n r ok v, ok.child v i h))
            (λ c m. let k = in_child n r ok v c m in let j = pairs_fall n r ok c v k.0 i h k.1 in
            g c d k.0 (omega arith) (omega arith)))
            t.1)
