-- One walk over two rows numbers their kept groups in order: the smaller rank is next, and is numbered on its side or on both. Assumes nothing.
use Rattle.std.specs.Prelude.{ℕ, suc, ◌+◌, ◌-◌, ◌%◌, ◌≤◌, ◌<◌, min, ◌≡◌, ◌⊎◌, Bool, ◌||◌, cond, ltb, set}
use Rattle.std.proofs.Math.Path.{refl, ap}
use Rattle.std.proofs.Common.{sym, ◌∙◌, subst, inl, inr, ⊎_elim, true≢false, eq-or-lt_of_le, length-set, drop-cons}
use mathlib.Core.List.{List, [], ◌∷◌, ◌++◌}
use Rattle.std.proofs.Math.Bool.{true, false}
use Rattle.std.proofs.Math.Nat.{min-eq_left, min-eq_right}
use native.Mathlib.Omega.{arith}
use Rattle.std.proofs.Math.ListN.{length, drop, length-drop}
use borrow.Author.Tests.{ltb-true, ltb-false, leb-true, lt-ltb, le-ltb, le-leb, lt-leb}
use Rattle.trees.specs.Groups.{Group, size, lowest, same, before, member}
use Rattle.trees.specs.Rows.{nodes, group_at}
use Rattle.trees.specs.Valid.{In, Strict, Standard}
use Rattle.trees.specs.Numbering.{ordered}
use Rattle.trees.specs.Tables.{table_words, entry, rank_step}
use Rattle.trees.specs.Passes.{Ranked}
use Rattle.trees.specs.Merging.{kept_from, kept, merged, Mergeable}
use Rattle.trees.specs.Lockstep.{Next, blank, rank_end, rank_or_end, Chosen, place_in, number_at, low_of, Numbered, Side, Lock, Given}
use Rattle.trees.proofs.BoolLaws.{or_cases, or_none, or_swap, decide}
use Rattle.trees.proofs.ListLaws.{length_zeros, get_or_zeros}
use Rattle.trees.proofs.GroupLaws.{same_eq, eq_same}
use Rattle.trees.specs.Groups.{Agree}
use Rattle.trees.proofs.OrderLaws.{before_irrefl, before_trans}
use Rattle.trees.proofs.MemberLaws.{in_none, in_cases, in_at, member_append, member_ordered, strict_at, strict_ordered, strict_unique}
use Rattle.trees.specs.Groups.{nth}
use Rattle.trees.proofs.RowLaws.{length_group, inner_two}
use Rattle.trees.proofs.FamilyLaws.{fewer}
use Rattle.trees.proofs.StandardLaws.{node_before}
use Rattle.trees.proofs.NeverLaws.{Tri, less, equal, more, tri}
use Rattle.trees.proofs.TableLaws.{tabled_store, tabled_more, tabled_none}
use Rattle.trees.proofs.LinearLaws.{rank_is}
use Rattle.trees.proofs.MergingLaws.{in_kept, kept_in, kept_cons, kept_none, kept_past, agree_sym, merged_family}
use Rattle.trees.specs.Ranks.{group_rank}
use Rattle.trees.proofs.RankLaws.{lowest_in, rank_lowest, least_is_lowest, rank_ahead, rank_one}

-- ---- the place of a group in a list in strict order

pub place-in : (g : Group) (gs : List Group) → In g gs → (place_in g gs < length gs) × (nth gs (place_in g gs) ≡ g)
unfolding place_in member
place-in g [] m = absurd (in_none g m)
place-in g (h ∷ hs) m = go (same g h) refl (in_cases g h hs m) (λ k. place-in g hs k)
  where
    go : (b : Bool) → same g h ≡ b → (g ≡ h) ⊎ In g hs → (In g hs → (place_in g hs < length hs) × (nth hs (place_in g hs) ≡ g))
        → (cond b 0 (suc (place_in g hs)) < length (h ∷ hs)) × (nth (h ∷ hs) (cond b 0 (suc (place_in g hs))) ≡ g)
    go true e c r = (omega arith, sym (same_eq g h e))
    go false e (inl q) r = absurd (true≢false (sym (eq_same g h q) ∙ e))
    go false e (inr q) r = let t = r q in (omega arith, t.1)

module _ (gs : List Group) (strict : Strict gs) where
  -- what comes before has the smaller index
  pub index_before : (i j : ℕ) → i < length gs → j < length gs → before (nth gs i) (nth gs j) ≡ true → i < j
  index_before i j a b e = elim (tri i j) [
    | less h ↦ h
    | equal h ↦ absurd (before_irrefl (nth gs j) (subst (λ (k : ℕ). before (nth gs k) (nth gs j) ≡ true) h e))
    | more h ↦ absurd (before_irrefl (nth gs i) (before_trans (nth gs i) (nth gs j) (nth gs i) e (strict_at gs strict i j h a)))
  ]

  pub index_one : (i j : ℕ) → i < length gs → j < length gs → nth gs i ≡ nth gs j → i ≡ j
  index_one i j a b e = elim (tri i j) [
    | less h ↦ absurd (before_irrefl (nth gs j) (rw e at (strict_at gs strict j i h b)))
    | equal h ↦ h
    | more h ↦ absurd (before_irrefl (nth gs j) (rw e at (strict_at gs strict i j h a)))
  ]

  place_at : (i : ℕ) (g : Group) → i < length gs → nth gs i ≡ g → place_in g gs ≡ i
  place_at i g h e = let t = place-in g gs (rw (← e) (in_at gs i h)) in index_one (place_in g gs) i t.0 h (t.1 ∙ sym e)

-- ---- the first of what is left

abbrev Leads : Group → List Group → Type 0
Leads g hs = (h : Group) → In h hs → before g h ≡ true

-- a group that leads all others of a list is the first in order
front : (g : Group) (zs ws : List Group) → Leads g ws → ((z : Group) → member z zs ≡ (same z g || member z ws)) → ordered zs ≡ g ∷ ordered ws
unfolding member
front g zs ws f e = strict_unique (ordered zs) (g ∷ ordered ws) (strict_ordered zs) (λ h m. f h (sym (member_ordered h ws) ∙ m), strict_ordered ws)
    (λ z. member_ordered z zs ∙ e z ∙ ap (λ (b : Bool). same z g || b) (sym (member_ordered z ws)))

leads_both : (g : Group) (xs ys : List Group) → Leads g xs → Leads g ys → Leads g (xs ++ ys)
leads_both g xs ys p q h m = ⊎_elim (p h) (q h) (or_cases (member h xs) (member h ys) (sym (member_append h xs ys) ∙ m))

module _ (g : Group) (xs ys : List Group) (p : Leads g xs) (q : Leads g ys) where
  take_first : ordered ((g ∷ xs) ++ ys) ≡ g ∷ ordered (xs ++ ys)
  unfolding member
  take_first = front g ((g ∷ xs) ++ ys) (xs ++ ys) (leads_both g xs ys p q) (λ z. refl)

  take_second : ordered (xs ++ (g ∷ ys)) ≡ g ∷ ordered (xs ++ ys)
  unfolding member
  take_second = front g (xs ++ (g ∷ ys)) (xs ++ ys) (leads_both g xs ys p q)
      (λ z. rw (member_append z xs (g ∷ ys), member_append z xs ys) (or_swap (member z xs) (same z g) (member z ys)))

  take_both : ordered ((g ∷ xs) ++ (g ∷ ys)) ≡ g ∷ ordered (xs ++ ys)
  unfolding member
  take_both = front g ((g ∷ xs) ++ (g ∷ ys)) (xs ++ ys) (leads_both g xs ys p q)
      (λ z. rw (member_append z xs (g ∷ ys), member_append z xs ys) (twice (same z g) (member z xs) (member z ys)))
    where
      twice : (a b c : Bool) → a || (b || (a || c)) ≡ (a || (b || c))
      twice true b c = refl
      twice false b c = refl

-- ---- one side

blank_words : length blank ≡ table_words
unfolding blank
blank_words = length_zeros table_words

blank_word : (v : ℕ) → entry blank v ≡ 0
unfolding blank
blank_word v = get_or_zeros table_words v

module _ {n : ℕ} {r : List ℕ} (std : Standard n r) (keep : List Bool) where
  leads_later : (x : ℕ) → n ≤ x → x < nodes r → Leads (group_at n r x) (kept_from n r keep (suc x))
  leads_later x a h g m = let t = in_kept n r keep (suc x) g m in rw t.4 at (node_before n r std x t.0 a t.1 t.2)

  leads_from : (g : Group) (x : ℕ) → n ≤ x → (x < nodes r → before g (group_at n r x) ≡ true) → Leads g (kept_from n r keep x)
  leads_from g x a f h m = let t = in_kept n r keep x h m in go t.0 t.2 t.4 (eq-or-lt_of_le t.1)
    where
      go : (v : ℕ) → v < nodes r → group_at n r v ≡ h → (x ≡ v) ⊎ (x < v) → before g h ≡ true
      go v l e (inl q) = rw (← e, ← q) (f (omega arith))
      go v l e (inr q) = before_trans g (group_at n r x) h (f (omega arith)) (rw e at (node_before n r std x v a q l))

  kept_next : (x y : ℕ) → Next keep (x + 1) (nodes r) y → kept_from n r keep (suc x) ≡ kept_from n r keep y
  kept_next x y t = kept_past n r keep (y - suc x) (suc x) y (omega (arith, t.low)) t.high (λ u a b. t.none u (omega arith) b)

  kept_start : (x : ℕ) → Next keep n (nodes r) x → kept n r keep ≡ kept_from n r keep x
  kept_start x t = kept_past n r keep (x - n) n x (omega (arith, t.low)) t.high t.none

  full : (x : ℕ) → n ≤ x → x < nodes r → 0 < size (group_at n r x)
  full x a h = omega (arith, inner_two n r std x a h)

  rank-in : {z l : List ℕ} → Ranked n r z l → (x : ℕ) → n ≤ x → x < nodes r → rank_or_end n (nodes r) z l x ≡ group_rank n (group_at n r x)
  unfolding rank_or_end
  rank-in {z} {l} t x a h = rw (
    lt-ltb x (nodes r) h,
    rank_is n r z l t x h,
    least_is_lowest n std.valid.most (group_at n r x) (length_group n r x) (full x a h),
  )

  rank_past : (z l : List ℕ) (x : ℕ) → nodes r ≤ x → rank_or_end n (nodes r) z l x ≡ rank_end
  unfolding rank_or_end
  rank_past z l x h = rw (le-ltb x (nodes r) h)

  rank_short : (x : ℕ) → n ≤ x → x < nodes r → group_rank n (group_at n r x) < rank_end
  rank_short x a h = omega (arith, std.valid.most, lowest_in n std.valid.most (group_at n r x) (length_group n r x) (full x a h))

  -- a node whose rank is not past the end is one
  rank_node : (z l : List ℕ) → (x : ℕ) → rank_or_end n (nodes r) z l x < rank_end → x < nodes r
  rank_node z l x h = ⊎_elim (λ e. ltb-true x (nodes r) e) (λ e. absurd (omega (arith, rank_past z l x (ltb-false x (nodes r) e)))) (decide (ltb x (nodes r)))

  pub side_start : (gs : List Group) (x : ℕ) (num : List ℕ) → num ≡ blank → Next keep n (nodes r) x → Side n r keep gs x num
  side_start gs x num e t = record {
    low = t.low;
    high = t.high;
    kept = t.kept;
    words = ap length e ∙ blank_words;
    given = record { is = λ v a h. rw (e, blank_word v) (go v a (decide (ltb v x))) };
  }
    where
      go : (v : ℕ) → n ≤ v → (ltb v x ≡ true) ⊎ (ltb v x ≡ false) → 0 ≡ cond (ltb v x) (number_at n r keep gs v) 0
      go v a (inl q) = rw (q, t.none v a (ltb-true v x q))
      go v a (inr q) = rw q

  -- its node takes the number c
  side_take : (gs : List Group) (x y c : ℕ) (num : List ℕ) → Side n r keep gs x num → x < table_words → n ≤ c → place_in (group_at n r x) gs ≡ c - n → x < nodes r
      → Next keep (x + 1) (nodes r) y → Side n r keep gs y (set num x c)
  side_take gs x y c num s f l e h t = record {
    low = omega (arith, s.low, t.low);
    high = t.high;
    kept = t.kept;
    words = length-set num x c ∙ s.words;
    given = tabled_store (λ v. cond (ltb v x) (number_at n r keep gs v) 0) (λ v. cond (ltb v y) (number_at n r keep gs v) 0) n (nodes r) x c num s.given
        (omega (arith, s.words)) here (λ v a b d. other v d (tri v x));
  }
    where
      here : c ≡ cond (ltb x y) (number_at n r keep gs x) 0
      here = let q : n + (c - n) ≡ c = omega arith in rw (lt-ltb x y (omega (arith, t.low)), s.kept h, e) (sym q)

      other : (v : ℕ) → (v ≡ x → ⊥) → Tri v x → cond (ltb v x) (number_at n r keep gs v) 0 ≡ cond (ltb v y) (number_at n r keep gs v) 0
      other v d (less q) = rw (lt-ltb v x q, lt-ltb v y (omega (arith, t.low)))
      other v d (equal q) = absurd (d q)
      other v d (more q) = rw (le-ltb v x (omega arith)) (go (decide (ltb v y)))
        where
          go : (ltb v y ≡ true) ⊎ (ltb v y ≡ false) → 0 ≡ cond (ltb v y) (number_at n r keep gs v) 0
          go (inl z) = rw (z, t.none v (omega arith) (ltb-true v y z))
          go (inr z) = rw z

-- ---- the walk

drop_head : (gs : List Group) (i : ℕ) (g : Group) (zs : List Group) → drop i gs ≡ g ∷ zs → (i < length gs) × (nth gs i ≡ g) × (drop (suc i) gs ≡ zs)
drop_head gs i g zs e = let h : i < length gs = omega (arith, ap length e, length-drop i gs) in let d = drop-cons gs i [] h in (h, (cc), (cc))

module _ {n : ℕ} {a : List ℕ} {keep_a : List Bool} {b : List ℕ} {keep_b : List Bool} (ok : Mergeable n a keep_a b keep_b) where
  abbrev gs : List Group
  gs = merged n a keep_a b keep_b

  pub lock_start : {num_a num_b mins : List ℕ} {x y : ℕ} → num_a ≡ blank → num_b ≡ blank → length mins ≡ table_words → Next keep_a n (nodes a) x
      → Next keep_b n (nodes b) y
      → Lock n a keep_a b keep_b num_a num_b mins x y n
  unfolding merged
  lock_start {num_a} {num_b} {mins} {x} {y} p q l s t = record {
    left = side_start ok.first keep_a gs x num_a p s;
    right = side_start ok.second keep_b gs y num_b q t;
    least = omega arith;
    most = omega arith;
    words = l;
    lows = tabled_none (low_of n gs) n mins;
    rest = let z : n - n ≡ 0 = omega arith in rw (z, ← kept_start ok.first keep_a x s, ← kept_start ok.second keep_b y t);
  }

  module _ {num_a num_b mins : List ℕ} {x y c : ℕ} (lock : Lock n a keep_a b keep_b num_a num_b mins x y c) where
    -- there is room for c where a group is left
    lock_room : (g : Group) (zs : List Group) → drop (c - n) gs ≡ g ∷ zs → c < n + length gs
    lock_room g zs e = omega (arith, (drop_head gs (c - n) g zs e).0, lock.least)

    next_place : (g : Group) (zs : List Group) → drop (c - n) gs ≡ g ∷ zs → place_in g gs ≡ c - n
    next_place g zs e = let t = drop_head gs (c - n) g zs e in place_at gs (merged_family ok).strict (c - n) g t.0 t.1

    advance : (g : Group) (low x' y' : ℕ) (num_a' num_b' : List ℕ) → drop (c - n) gs ≡ g ∷ ordered (kept_from n a keep_a x' ++ kept_from n b keep_b y')
        → low ≡ lowest g
        → Side n a keep_a gs x' num_a' → Side n b keep_b gs y' num_b' → Lock n a keep_a b keep_b num_a' num_b' (set mins c low) x' y' (c + 1)
    advance g low x' y' num_a' num_b' e d s t =
        let f = drop_head gs (c - n) g _ e in
        let q : suc (c - n) ≡ c + 1 - n = omega (arith, lock.least) in
        record {
          left = s;
          right = t;
          least = omega (arith, lock.least);
          most = omega (arith, f.0, lock.least);
          words = length-set mins c low ∙ lock.words;
          lows = tabled_more (low_of n gs) n c low mins lock.lows (omega
              (arith, f.0, lock.least, lock.words, fewer n gs (merged_family ok), ok.first.valid.most)) (d ∙ ap lowest (sym f.1));
          rest = rw q at f.2;
        }

    -- at the end all are numbered
    pub lock_end : ltb x (nodes a) || ltb y (nodes b) ≡ false → Numbered n a keep_a b keep_b num_a num_b mins c
    unfolding ordered
    lock_end e =
        let t = or_none (ltb x (nodes a)) (ltb y (nodes b)) e in
        let h = ltb-false x (nodes a) t.0 in
        let k = ltb-false y (nodes b) t.1 in
        let f : drop (c - n) gs ≡ [] = lock.rest ∙ (rw (kept_none n a keep_a x h, kept_none n b keep_b y k)) in
        record {
          total = omega (arith, ap length f, length-drop (c - n) gs, lock.least, lock.most);
          left = record { is = λ v i j. rw (lt-ltb v x (omega arith)) at (lock.left.given.is v i j) };
          right = record { is = λ v i j. rw (lt-ltb v y (omega arith)) at (lock.right.given.is v i j) };
          lows = lock.lows;
          words_a = lock.left.words;
          words_b = lock.right.words;
          words = lock.words;
        }

    module _ {za la zb lb : List ℕ} (ka : Ranked n a za la) (kb : Ranked n b zb lb) where
      abbrev p : ℕ
      p = rank_or_end n (nodes a) za la x

      abbrev q : ℕ
      q = rank_or_end n (nodes b) zb lb y

      abbrev ga : Group
      ga = group_at n a x

      abbrev gb : Group
      gb = group_at n b y

      full_a : x < nodes a → 0 < size ga
      full_a = full ok.first keep_a x lock.left.low

      full_b : y < nodes b → 0 < size gb
      full_b = full ok.second keep_b y lock.right.low

      rank_a : x < nodes a → p ≡ group_rank n ga
      rank_a = rank-in ok.first keep_a ka x lock.left.low

      rank_b : y < nodes b → q ≡ group_rank n gb
      rank_b = rank-in ok.second keep_b kb y lock.right.low

      later_a : x < nodes a → Leads ga (kept_from n a keep_a (suc x))
      later_a = leads_later ok.first keep_a x lock.left.low

      later_b : y < nodes b → Leads gb (kept_from n b keep_b (suc y))
      later_b = leads_later ok.second keep_b y lock.right.low

      agrees : x < nodes a → y < nodes b → Agree ga gb
      agrees h k = ok.agree ga gb (kept_in n a keep_a n x lock.left.low h (lock.left.kept h))
          (kept_in n b keep_b n y lock.right.low k (lock.right.kept k))

      first_leads : p < q → x < nodes a → Leads ga (kept_from n b keep_b y)
      first_leads e h = leads_from ok.second keep_b ga y lock.right.low
          (λ k. rank_ahead n ok.first.valid.most ga gb (length_group n a x) (length_group n b y) (agrees h k)
          (full_a h) (full_b k) (omega (arith, rank_a h, rank_b k)))

      second_leads : q < p → y < nodes b → Leads gb (kept_from n a keep_a x)
      second_leads e k = leads_from ok.first keep_a gb x lock.left.low
          (λ h. rank_ahead n ok.first.valid.most gb ga (length_group n b y) (length_group n a x) (agree_sym ga gb (agrees h k))
          (full_b k) (full_a h) (omega (arith, rank_a h, rank_b k)))

      both_one : p ≡ q → x < nodes a → y < nodes b → ga ≡ gb
      both_one e h k = rank_one n ok.first.valid.most ga gb (length_group n a x) (length_group n b y) (agrees h k)
          (full_a h) (full_b k) (sym (rank_a h) ∙ e ∙ rank_b k)

      -- what is left, taken apart at its first group

      head_first : p < q → x < nodes a → drop (c - n) gs ≡ ga ∷ ordered (kept_from n a keep_a (suc x) ++ kept_from n b keep_b y)
      head_first e h = lock.rest ∙ ap (λ (xs : List Group). ordered (xs ++ kept_from n b keep_b y)) (kept_cons n a keep_a x h (lock.left.kept h))
          ∙ take_first ga (kept_from n a keep_a (suc x)) (kept_from n b keep_b y) (later_a h) (first_leads e h)

      head_second : q < p → y < nodes b → drop (c - n) gs ≡ gb ∷ ordered (kept_from n a keep_a x ++ kept_from n b keep_b (suc y))
      head_second e k = lock.rest ∙ ap (λ (ys : List Group). ordered (kept_from n a keep_a x ++ ys)) (kept_cons n b keep_b y k (lock.right.kept k))
          ∙ take_second gb (kept_from n a keep_a x) (kept_from n b keep_b (suc y)) (second_leads e k) (later_b k)

      head_both : p ≡ q → x < nodes a → y < nodes b → drop (c - n) gs ≡ ga ∷ ordered (kept_from n a keep_a (suc x) ++ kept_from n b keep_b (suc y))
      head_both e h k = lock.rest ∙ ap (λ (xs : List Group). ordered (xs ++ kept_from n b keep_b y)) (kept_cons n a keep_a x h (lock.left.kept h))
          ∙ ap (λ (ys : List Group). ordered ((ga ∷ kept_from n a keep_a (suc x)) ++ ys))
          (kept_cons n b keep_b y k (lock.right.kept k) ∙ ap (λ (g : Group). g ∷ kept_from n b keep_b (suc y)) (sym (both_one e h k)))
          ∙ take_both ga (kept_from n a keep_a (suc x)) (kept_from n b keep_b (suc y)) (later_a h)
          (subst (λ (g : Group). Leads g (kept_from n b keep_b (suc y))) (sym (both_one e h k)) (later_b k))

      -- which nodes there are

      module _ (left : ltb x (nodes a) || ltb y (nodes b) ≡ true) where
        first_there : p ≤ q → x < nodes a
        first_there e = ⊎_elim (λ h. ltb-true x (nodes a) h)
            (λ h. let k = ltb-true y (nodes b) h in rank_node ok.first keep_a za la x
            (omega (arith, rank_b k, rank_short ok.second keep_b y lock.right.low k)))
            (or_cases (ltb x (nodes a)) (ltb y (nodes b)) left)

        second_there : q ≤ p → y < nodes b
        second_there e = ⊎_elim (λ h. let k = ltb-true x (nodes a) h in rank_node ok.second keep_b zb lb y
            (omega (arith, rank_a k, rank_short ok.first keep_a x lock.left.low k)))
            (λ h. ltb-true y (nodes b) h)
            (or_cases (ltb x (nodes a)) (ltb y (nodes b)) left)

        pub first_taken : {first second : Bool} {low : ℕ} → Chosen p q first second low → first ≡ true → x < nodes a
        first_taken t e = first_there (leb-true p q (sym t.left ∙ e))

        pub second_taken : {first second : Bool} {low : ℕ} → Chosen p q first second low → second ≡ true → y < nodes b
        second_taken t e = second_there (leb-true q p (sym t.right ∙ e))

        number_left : c < n + length gs
        number_left = elim (tri p q) [
          | less e ↦ lock_room ga _ (head_first e (first_there (omega arith)))
          | equal e ↦ lock_room ga _ (head_both e (first_there (omega arith)) (second_there (omega arith)))
          | more e ↦ lock_room gb _ (head_second e (second_there (omega arith)))
        ]

        pub number_fits : c < table_words
        number_fits = omega (arith, number_left, fewer n gs (merged_family ok), ok.first.valid.most)

        -- ---- one step

        node_fits : (r : List ℕ) (v : ℕ) → Standard n r → v < nodes r → v < table_words
        node_fits r v s h = omega (arith, s.valid.high, s.valid.most)

        lowest_first : p ≤ q → x < nodes a → min p q % rank_step ≡ lowest ga
        lowest_first e h = rw (min-eq_left e, rank_a h)
            (rank_lowest n ok.first.valid.most ga (length_group n a x) (full_a h))

        lowest_second : q ≤ p → y < nodes b → min p q % rank_step ≡ lowest gb
        lowest_second e k = rw (min-eq_right e, rank_b k)
            (rank_lowest n ok.first.valid.most gb (length_group n b y) (full_b k))

        pub lock_step : {first second : Bool} {low x' y' : ℕ} {num_a' num_b' : List ℕ} → Chosen p q first second low
            → Given num_a keep_a x (nodes a) c first num_a' x' → Given num_b keep_b y (nodes b) c second num_b' y'
            → Lock n a keep_a b keep_b num_a' num_b' (set mins c low) x' y' (c + 1)
        lock_step {first} {second} {low} {x'} {y'} {num_a'} {num_b'} t u w = go (tri p q)
          where
            left_on : (h : x < nodes a) → first ≡ true → place_in ga gs ≡ c - n → Side n a keep_a gs x' num_a'
            left_on h e d = subst (Side n a keep_a gs x') (u.stored e)
                (side_take ok.first keep_a gs x x' c num_a lock.left (node_fits a x ok.first h) lock.least d h (u.next e))

            right_on : (k : y < nodes b) → second ≡ true → place_in gb gs ≡ c - n → Side n b keep_b gs y' num_b'
            right_on k e d = subst (Side n b keep_b gs y') (w.stored e)
                (side_take ok.second keep_b gs y y' c num_b lock.right (node_fits b y ok.second k) lock.least d k (w.next e))

            go : Tri p q → Lock n a keep_a b keep_b num_a' num_b' (set mins c low) x' y' (c + 1)
            go (less e) =
                let h = first_there (omega arith) in
                let f : first ≡ true = t.left ∙ le-leb p q (omega arith) in
                let d = head_first e h in
                let s = w.same (t.right ∙ lt-leb q p e) in
                advance ga low x' y' num_a' num_b' (rw (kept_next ok.first keep_a x x' (u.next f), s.1) at d) (t.sample ∙ lowest_first (omega arith) h)
                (left_on h f (next_place ga _ d)) (rw (s.0, s.1) at lock.right)
            go (equal e) =
                let h = first_there (omega arith) in
                let k = second_there (omega arith) in
                let f : first ≡ true = t.left ∙ le-leb p q (omega arith) in
                let g : second ≡ true = t.right ∙ le-leb q p (omega arith) in
                let d = head_both e h k in
                let i = next_place ga _ d in
                advance ga low x' y' num_a' num_b' (rw (kept_next ok.first keep_a x x' (u.next f), kept_next ok.second keep_b y y' (w.next g)) at d)
                (t.sample ∙ lowest_first (omega arith) h)
                (left_on h f i) (right_on k g (rw (both_one e h k) at i))
            go (more e) =
                let k = second_there (omega arith) in
                let g : second ≡ true = t.right ∙ le-leb q p (omega arith) in
                let d = head_second e k in
                let s = u.same (t.left ∙ lt-leb p q e) in
                advance gb low x' y' num_a' num_b' (rw (kept_next ok.second keep_b y y' (w.next g), s.1) at d) (t.sample ∙ lowest_second (omega arith) k)
                (rw (s.0, s.1) at lock.left) (right_on k g (next_place gb _ d))

        -- each step goes on
        pub lock_on : {first second : Bool} {low x' y' : ℕ} {num_a' num_b' : List ℕ} → Chosen p q first second low → Given num_a keep_a x (nodes a) c first num_a' x'
            → Given num_b keep_b y (nodes b) c second num_b' y' → x + y < x' + y'
        lock_on t u w = elim (tri p q) [
          | less e ↦ omega (arith, (u.next (t.left ∙ le-leb p q (omega arith))).low, w.same (t.right ∙ lt-leb q p e))
          | equal e ↦ omega (arith, (u.next (t.left ∙ le-leb p q (omega arith))).low, (w.next (t.right ∙ le-leb q p (omega arith))).low)
          | more e ↦ omega (arith, (w.next (t.right ∙ le-leb q p (omega arith))).low, u.same (t.left ∙ lt-leb p q e))
        ]
