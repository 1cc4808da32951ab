-- The length of the text of a valid row is what its nodes add, and at most 11 for each sample. Assumes nothing.
use Prim.Native.Nat.{ℕ, zero, suc, ◌+◌, ◌-◌, ◌*◌, ◌≤◌, ◌<◌, zero-le}
use Rattle.std.specs.Prelude.{◌≡◌, ◌⊎◌, Bool, true, false, ◌&&◌, eqb, ltb, get_or}
use Rattle.std.proofs.Math.Path.{refl}
use Rattle.std.proofs.Common.{ap, ◌∙◌, inl, inr, add-one}
use Rattle.std.proofs.Math.Logic.{⊎_elim}
use mathlib.Core.List.{List, [], ◌∷◌, ◌++◌, Memᴰ}
use Rattle.std.proofs.Math.Bool.{cond}
use native.Mathlib.Omega.{arith}
use Rattle.std.proofs.Math.ListN.{length, length-append}
use borrow.Author.Tests.{ltb-true, ltb-false, eqb-true, eqb-false, eq-eqb, lt-ltb, le-ltb}
use Rattle.trees.specs.Lists.{range, weigh, count, nowhere}
use Rattle.trees.specs.Rows.{nodes, parent, root_mark, child_of, meets}
use Rattle.trees.specs.Valid.{Valid}
use Rattle.trees.proofs.BoolLaws.{and_l, and_r, not_yes, decide}
use Rattle.trees.proofs.ListLaws.{in-range, range_cons, range_none, weigh_none}
use Rattle.trees.proofs.WayLaws.{meets_refl}
use Rattle.trees.proofs.RowLaws.{no_leaf_above, valid_rooted}
use Rattle.ascii.specs.Decimal.{decimal}
use Rattle.ascii.specs.DecimalLaws.{decimal_long}
use Rattle.newick.specs.RowText.{Wanted, children_of, commas, listed, word_text, mark_text, node_text, root_of, written, check_room}
use Rattle.newick.specs.RowText.Wanted.{plain, with_words}
use Rattle.newick.proofs.ListedLaws.{count_unique}
use Rattle.newick.proofs.ChildLaws.{child_once, not_below}
use Rattle.newick.proofs.ChildrenLaws.{in_child, count_child, length_child}
use Rattle.newick.proofs.ChildLaws.{pairs_at, pairs_fall, pairs_some, pairs_few, root_at, root_above}
use Rattle.newick.specs.Bytes.{opening_byte, closing_byte, semicolon_byte}
use Rattle.writer.specs.SumLaws.{total, total_same, weigh_at, sums_swap}
use Rattle.writer.specs.Lengths.{bytes_of, bytes_from, SmallWords, word_most, sample_most, node_most, text_most, BytesLeft}

-- ---- texts parted by commas: one byte before each but the first

module _ (f : ℕ → List ℕ) where
  commas_length : (cs : List ℕ) → length (commas f cs) ≡ total (λ c. length (f c) + 1) cs
  unfolding commas weigh
  commas_length [] = refl
  commas_length (c ∷ cs) = omega (arith, length-append (f c) (commas f cs), commas_length cs)

  listed_length : (cs : List ℕ) → 1 ≤ length cs → length (listed f cs) + 1 ≡ total (λ c. length (f c) + 1) cs
  unfolding listed weigh
  listed_length [] h = absurd (omega arith)
  listed_length (c ∷ cs) h = omega (arith, length-append (f c) (commas f cs), commas_length cs)

-- ---- a valid row

module _ (n : ℕ) (r : List ℕ) (ok : Valid n r) (w : Wanted) where
  -- what the nodes at or below v add
  abbrev below : ℕ → ℕ
  below v = weigh (bytes_of n r w) (meets (nodes r) r v) (range 0 (nodes r))

  -- v itself, and what is below each of some nodes, where what is below v stands once
  below_split : (v : ℕ) (cs : List ℕ) → v < nodes r
      → ((u : ℕ) → u < nodes r → count (λ c. meets (nodes r) r c u) cs + cond (eqb u v) 1 0 ≡ cond (meets (nodes r) r v u) 1 0)
      → total below cs + bytes_of n r w v ≡ below v
  below_split v cs h g = omega (
    arith,
    sums_swap (bytes_of n r w) (meets (nodes r) r) (meets (nodes r) r v) (λ u. eqb u v) cs (range 0 (nodes r))
        (λ u m. g u (in-range 0 (nodes r) u m).1),
    weigh_at (bytes_of n r w) v (range 0 (nodes r)),
    ap (λ (k : ℕ). k * bytes_of n r w v)
        (count_unique (λ u. eqb u v) 0 (nodes r) v zero-le h (eq-eqb v v refl) (λ x a b e. eqb-true x v e)),
  )

  below_leaf : (v : ℕ) → v < n → bytes_of n r w v ≡ below v
  unfolding weigh
  below_leaf v h = omega (arith, below_split v [] (omega (arith, ok.low)) (λ u k. alone u k (decide (eqb u v))))
    where
      alone : (u : ℕ) → u < nodes r → (eqb u v ≡ true) ⊎ (eqb u v ≡ false) → 0 + cond (eqb u v) 1 0 ≡ cond (meets (nodes r) r v u) 1 0
      alone u k (inl e) = rw (eqb-true u v e, eq-eqb v v refl, meets_refl r (nodes r) v)
      alone u k (inr e) = rw (e, not_yes _ (λ m. eqb-false u v e (no_leaf_above n r (valid_rooted n r ok) v u h k m)))

  below_pair : (v : ℕ) → v < nodes r → total below (children_of n r v) + bytes_of n r w v ≡ below v
  below_pair v h = below_split v (children_of n r v) h
      (λ u k. ap (λ (i : ℕ). i + cond (eqb u v) 1 0) (count_child n r ok v (λ c. meets (nodes r) r c u)) ∙ apart u k (decide (eqb u v)))
    where
      apart : (u : ℕ) → u < nodes r → (eqb u v ≡ true) ⊎ (eqb u v ≡ false)
          → count (λ c. child_of r v c && meets (nodes r) r c u) (range 0 (nodes r)) + cond (eqb u v) 1 0 ≡ cond (meets (nodes r) r v u) 1 0
      apart u k (inl e) = rw (eqb-true u v e, eq-eqb v v refl, meets_refl r (nodes r) v) (omega (
        arith,
        weigh_none (λ c. 1) (λ c. child_of r v c && meets (nodes r) r c v) (range 0 (nodes r)) (λ c m. not_yes _ (λ q.
            not_below n r ok c v h (eqb-true (parent r c) v (and_l (child_of r v c) (meets (nodes r) r c v) q))
            (and_r (child_of r v c) (meets (nodes r) r c v) q))),
      ))
      apart u k (inr e) = rw e (omega (arith, child_once n r ok v u h k (eqb-false u v e)))

  own_leaf : (v : ℕ) → v < n → bytes_of n r w v ≡ 1 + length (decimal v)
  own_leaf v h = rw (lt-ltb v n h)

  own_pair : (v : ℕ) → n ≤ v → bytes_of n r w v ≡ 1 + (1 + length (mark_text r w v))
  own_pair v h = rw (le-ltb v n h)

  -- a pair of brackets, where each child's text and one byte are what is at or below the child
  pair_bytes : (f : ℕ → List ℕ) (v : ℕ) → n ≤ v → v < nodes r → ((c : ℕ) → Memᴰ c (children_of n r v) → length (f c) + 1 ≡ below c)
      → length (opening_byte ∷ (listed f (children_of n r v) ++ (closing_byte ∷ mark_text r w v))) + 1 ≡ below v
  pair_bytes f v a h g = omega (
    arith,
    length-append (listed f (children_of n r v)) (closing_byte ∷ mark_text r w v),
    listed_length f (children_of n r v) (omega (arith, length_child n r ok v, ok.child v a h)),
    total_same (λ c. length (f c) + 1) below (children_of n r v) g,
    below_pair v h,
    own_pair v a,
  )

  -- the text of a node, and the one byte before it or behind it, are what the nodes at or below it add
  text_bytes : (f v : ℕ) → v < nodes r → pairs_at n r ok v ≤ f → length (node_text f n r w v) + 1 ≡ below v
  unfolding node_text
  text_bytes zero v h a =
      let k : v < n = ⊎_elim (ltb-true v n) (λ e. absurd (omega (arith, pairs_some n r ok v (ltb-false v n e) h))) (decide (ltb v n)) in
      omega (arith, below_leaf v k, own_leaf v k)
  text_bytes (suc f) v h a = go (decide (ltb v n)) (λ c k l. text_bytes f c k l)
    where
      go : (ltb v n ≡ true) ⊎ (ltb v n ≡ false)
          → ((c : ℕ) → c < nodes r → pairs_at n r ok c ≤ f → length (node_text f n r w c) + 1 ≡ below c)
          → length (cond (ltb v n) (decimal v) (opening_byte ∷ (listed (node_text f n r w) (children_of n r v) ++ (closing_byte ∷ mark_text r w v)))) + 1
          ≡ below v
      go (inl e) g = rw e (omega (arith, below_leaf v (ltb-true v n e), own_leaf v (ltb-true v n e)))
      go (inr e) g = let b = ltb-false v n e in rw e (pair_bytes (node_text f n r w) v b h (λ c m.
          let k = in_child n r ok v c m in
          g c k.0 (omega (arith, pairs_fall n r ok c v k.0 b h k.1))))

  -- THE LENGTH (RULES 14): what the nodes add, one by one
  pub written_bytes : length (written n r w) ≡ bytes_from n r w 0
  unfolding written weigh
  written_bytes =
      let v = root_of n r in
      let h = root_at n r ok in
      omega (
        arith,
        length-append (node_text (nodes r) n r w v) (semicolon_byte ∷ []),
        text_bytes (nodes r) v h.1 (omega (arith, pairs_few n r ok v)),
        sums_swap (bytes_of n r w) (λ c u. false) (meets (nodes r) r v) (λ u. true) [] (range 0 (nodes r))
            (λ u m. rw (root_above n r ok u (in-range 0 (nodes r) u m).1)),
      )

  -- ---- at most

  mark_most : SmallWords w → (v : ℕ) → length (mark_text r w v) ≤ word_most
  mark_most small v = go (child_of r root_mark v)
    where
      word : (w' : Wanted) → SmallWords w' → length (word_text w' v) ≤ word_most
      word plain k = zero-le
      word (with_words ws) k = decimal_long 4 (get_or ws (suc v) 0) (omega (arith, k (suc v)))

      go : (b : Bool) → length (cond b [] (word_text w v)) ≤ word_most
      go true = zero-le
      go false = word w small

  sample-most : (v : ℕ) → v < n → bytes_of n r w v ≤ sample_most
  sample-most v h = omega (arith, own_leaf v h, decimal_long 2 v (omega (arith, ok.most)))

  pair_most : SmallWords w → (v : ℕ) → n ≤ v → bytes_of n r w v ≤ node_most
  pair_most small v h = omega (arith, own_pair v h, mark_most small v)

-- ---- node by node

module _ (n : ℕ) (r : List ℕ) (w : Wanted) where
  pub bytes_next : (a : ℕ) → a < nodes r → bytes_from n r w a ≡ bytes_of n r w a + bytes_from n r w (a + 1)
  unfolding weigh
  bytes_next a h = rw (range_cons a (nodes r) h, add-one)

  pub bytes_end : (a : ℕ) → nodes r ≤ a → bytes_from n r w a ≡ 0
  unfolding weigh
  bytes_end a h = rw (range_none a (nodes r) h)

  -- a stretch of nodes that add at most k each
  bytes_most : (k d a : ℕ) → a + d ≤ nodes r → ((u : ℕ) → a ≤ u → u < a + d → bytes_of n r w u ≤ k)
      → bytes_from n r w a ≤ k * d + bytes_from n r w (a + d)
  bytes_most k zero a e h = let z : a + 0 ≡ a = omega arith in rw z (omega arith)
  bytes_most k (suc d) a e h =
      let z : a + suc d ≡ a + 1 + d = omega arith in
      rw z (omega (
        arith,
        bytes_next a (omega arith),
        h a (omega arith) (omega arith),
        bytes_most k d (a + 1) (omega arith) (λ u b c. h u (omega arith) (omega arith)),
      ))

-- a buffer of 11n bytes is never too short
pub written_most : (n : ℕ) (r : List ℕ) → Valid n r → (w : Wanted) → SmallWords w → length (written n r w) ≤ text_most * n
written_most n r ok w small = omega (
  arith,
  ok.low,
  ok.high,
  written_bytes n r ok w,
  bytes_most n r w sample_most n 0 (omega (arith, ok.low)) (λ u a b. sample-most n r ok w u (omega arith)),
  bytes_most n r w node_most (nodes r - n) n (omega (arith, ok.low)) (λ u a b. pair_most n r ok w small u a),
  bytes_end n r w (n + (nodes r - n)) (omega (arith, ok.low)),
  ap (bytes_from n r w) (let z : 0 + n ≡ n = omega arith in z),
)

-- and is never refused with the last check 3
pub written_fits : (n : ℕ) (r : List ℕ) → Valid n r → (w : Wanted) → SmallWords w → (text : List ℕ) → text_most * n ≤ length text
    → (check_room (written n r w) text).fault ≡ nowhere
written_fits n r ok w small text h = rw (le-ltb (length text) (length (written n r w)) (omega (arith, written_most n r ok w small)))

-- ---- the nodes added up one by one

module _ (n : ℕ) (r : List ℕ) (w : Wanted) (v bytes : ℕ) (left : BytesLeft n r w v bytes) where
  pub left_next : (b : ℕ) → b ≡ bytes_of n r w v → b ≤ node_most → v < nodes r → BytesLeft n r w (v + 1) (bytes + b)
  left_next b e k h = record {
    whole = omega (arith, left.whole, bytes_next n r w v h);
    few = omega (arith, left.few);
    within = omega arith;
  }

  pub left_end : Valid n r → nodes r ≤ v → bytes ≡ length (written n r w)
  left_end ok h = omega (arith, left.whole, bytes_end n r w v h, written_bytes n r ok w)
