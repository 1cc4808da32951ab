-- A family of groups, the groups of a tree in order: its nesting, its children, and that it has fewer than n groups. Assumes nothing.
use Rattle.std.specs.Prelude.{ℕ, zero, suc, ◌+◌, ◌-◌, ◌*◌, ◌≤◌, ◌<◌, ◌≡◌, refl, ◌⊎◌, List, Bool, true, false, cond, eqb, ltb, length, take}
use Rattle.std.proofs.Common.{zero-le, sym, ap, ◌∙◌, inl, inr, true≢false, eq-or-lt_of_le, le_of_suc-le-suc, le_refl, arith, ltb-true, ltb-false, eqb-true, lt-ltb, le-ltb, eq-eqb, ne_eqb}
use Rattle.std.proofs.Math.Nat.{add-zero}
use Rattle.std.proofs.lemmas.List.{length-replicate}
use Rattle.std.proofs.Math.Seq.{take-length}
use Rattle.trees.specs.Lists.{range, count}
use Rattle.trees.specs.Groups.{Group, has, whole, size, lowest}
use Rattle.trees.specs.Valid.{In, Strict}
use Rattle.trees.specs.Numbering.{last_with}
use Rattle.trees.proofs.ListLaws.{range_in, length_range, weigh_one, weigh_apart, weigh_both, count_all, count_two}
use Rattle.trees.proofs.GroupLaws.{lowest_has, has_lt, has_whole, size_whole, within_whole, within_eq, another, extra}
use Rattle.trees.specs.Groups.{Agree}
use Rattle.trees.proofs.OrderLaws.{before_size, all_or_none, sharing_larger}
use Rattle.trees.proofs.MemberLaws.{in_at, at_in, strict_at}
use Rattle.trees.specs.Groups.{nth}
use Rattle.trees.proofs.RowOfLaws.{last_suc}

-- in strict order, of n samples, of two samples or more each, agreeing pairwise, the whole among them
pub record Family (n : ℕ) (gs : List Group) : Type 0 where
  pub strict : Strict gs
  pub long : (g : Group) → In g gs → length g ≡ n
  pub big : (g : Group) → In g gs → 2 ≤ size g
  pub agree : (g h : Group) → In g gs → In h gs → Agree g h
  pub top : In (whole n) gs

-- what a way up through a list needs: each group has its smallest sample, and an earlier group has all of a later one or none of it
pub record Nested (gs : List Group) : Type 0 where
  pub full : (i : ℕ) → i < length gs → has (nth gs i) (lowest (nth gs i)) ≡ true
  pub all : (i j s : ℕ) → j < i → i < length gs → has (nth gs i) s ≡ true → has (nth gs j) s ≡ has (nth gs j) (lowest (nth gs i))

-- the parents that a list of groups gives its nodes, `o` standing for none
pub record Parents (n : ℕ) (gs : List Group) (o : ℕ) (f : ℕ → ℕ) : Type 0 where
  pub leaf : (s : ℕ) → s < n → f s ≡ last_with s gs n o
  pub inner : (i : ℕ) → i < length gs → f (n + i) ≡ last_with (lowest (nth gs i)) (take i gs) n o

-- the child of group i on the way to its sample s
data Child (n : ℕ) (gs : List Group) (f : ℕ → ℕ) (i s : ℕ) : Type 0 where
  leaf : f s ≡ n + i → Child n gs f i s
  node : (j : ℕ) → i < j → j < length gs → f (n + j) ≡ n + i → has (nth gs j) s ≡ true → Child n gs f i s

-- the last group with s is i, where i has it and none after i has
pub last_is : (n o : ℕ) (gs : List Group) (c i s : ℕ) → i < c → c ≤ length gs → has (nth gs i) s ≡ true
    → ((l : ℕ) → i < l → l < c → has (nth gs l) s ≡ false) → last_with s (take c gs) n o ≡ n + i
last_is n o gs zero i s h k e f = absurd (omega arith)
last_is n o gs (suc c) i s h k e f = rw (last_suc s gs c n o k)
    (go (eq-or-lt_of_le (le_of_suc-le-suc h)) (λ q. last_is n o gs c i s q (omega arith) e (λ l a b. f l a (omega arith))))
  where
    go : (i ≡ c) ⊎ (i < c) → (i < c → last_with s (take c gs) n o ≡ n + i) → cond (has (nth gs c) s) (n + c) (last_with s (take c gs) n o) ≡ n + i
    go (inl q) r = rw (← q, e)
    go (inr q) r = rw (f c q (omega arith)) (r q)

module _ (n : ℕ) (gs : List Group) (ok : Family n gs) where
  pub two : 2 ≤ n
  two = omega (arith, ok.big (whole n) ok.top, size_whole n)

  sample : (i s : ℕ) → i < length gs → has (nth gs i) s ≡ true → s < n
  sample i s h e = omega (arith, has_lt (nth gs i) s e, ok.long _ (in_at gs i h))

  pub nested : Nested gs
  nested = record {
    full = λ i h. lowest_has (nth gs i) (omega (arith, ok.big (nth gs i) (in_at gs i h)));
    all = λ i j s h k e. let a = in_at gs i k in let b = in_at gs j (omega arith) in
        all_or_none (nth gs j) (nth gs i) (ok.long _ b ∙ sym (ok.long _ a)) (strict_at gs ok.strict i j h k) (ok.agree _ _ b a) s _ e
        (lowest_has (nth gs i) (omega (arith, ok.big _ a)));
  }

  pub some : 0 < length gs
  some = omega (arith, (at_in gs (whole n) ok.top).1)

  -- the first group is the whole
  pub first_whole : nth gs 0 ≡ whole n
  first_whole = let r = at_in gs (whole n) ok.top in go r.0 r.1 r.2
    where
      go : (i : ℕ) → i < length gs → nth gs i ≡ whole n → nth gs 0 ≡ whole n
      go zero h e = e
      go (suc i) h e = let l = ok.long _ (in_at gs 0 some) in within_eq (nth gs 0) (whole n) (l ∙ sym (length-replicate n true)) (within_whole n (nth gs 0) l)
          (before_size (nth gs 0) (whole n) (rw e at (strict_at gs ok.strict (suc i) 0 (omega arith) h)))

  pub last_range : (o i s : ℕ) → 0 < i → i ≤ length gs → s < n → (n ≤ last_with s (take i gs) n o) × (last_with s (take i gs) n o < n + i)
  last_range o zero s h k z = absurd (omega arith)
  last_range o (suc i) s h k z = rw (last_suc s gs i n o k) (go (has (nth gs i) s) refl i refl (λ q. last_range o i s q (omega arith) z))
    where
      go : (x : Bool) → has (nth gs i) s ≡ x → (j : ℕ) → i ≡ j → (0 < i → (n ≤ last_with s (take i gs) n o) × (last_with s (take i gs) n o < n + i))
          → (n ≤ cond x (n + i) (last_with s (take i gs) n o)) × (cond x (n + i) (last_with s (take i gs) n o) < n + suc i)
      go true e j q r = (omega arith, omega arith)
      go false e zero q r = absurd (true≢false
          (sym (has_whole n s z) ∙ ap (λ (g : Group). has g s) (sym first_whole) ∙ ap (λ (j : ℕ). has (nth gs j) s) (sym q) ∙ e))
      go false e (suc j) q r = let t = r (omega arith) in (omega arith, omega arith)

module _ (n : ℕ) (gs : List Group) (ok : Family n gs) (o : ℕ) (f : ℕ → ℕ) (is : Parents n gs o f) where
  child : (d c i s : ℕ) → c + d ≡ length gs → i < c → has (nth gs i) s ≡ true → ((l : ℕ) → i < l → l < c → has (nth gs l) s ≡ false) → s < n → Child n gs f i s
  child zero c i s p h e w z = leaf (is.leaf s z ∙ (rw take-length at
      (last_is n o gs (length gs) i s (omega arith) (omega arith) e (λ l a b. w l a (omega arith)))))
  child (suc d) c i s p h e w z = go (has (nth gs c) s) refl
      (λ q. child d (suc c) i s (omega arith) (omega arith) e (λ l a b. more q l a (eq-or-lt_of_le (le_of_suc-le-suc b))) z)
    where
      more : has (nth gs c) s ≡ false → (l : ℕ) → i < l → (l ≡ c) ⊎ (l < c) → has (nth gs l) s ≡ false
      more q l a (inl b) = rw b q
      more q l a (inr b) = w l a b

      alike : has (nth gs c) s ≡ true → (l : ℕ) → l < c → has (nth gs l) s ≡ has (nth gs l) (lowest (nth gs c))
      alike q l b = (nested n gs ok).all c l s b (omega arith) q

      go : (x : Bool) → has (nth gs c) s ≡ x → (has (nth gs c) s ≡ false → Child n gs f i s) → Child n gs f i s
      go true q r = node c h (omega arith) (is.inner c (omega arith) ∙ last_is n o gs c i (lowest (nth gs c)) h (omega arith)
          (sym (alike q i h) ∙ e) (λ l a b. sym (alike q l b) ∙ w l a b)) q
      go false q r = r q

  kid : (i s : ℕ) → i < length gs → has (nth gs i) s ≡ true → Child n gs f i s
  kid i s h e = child (length gs - suc i) (suc i) i s (omega arith) (omega arith) e (λ l a b. absurd (omega arith)) (sample n gs ok i s h e)

  pair : (i u w : ℕ) → u < n + length gs → w < n + length gs → (u ≡ w → ⊥) → f u ≡ n + i → f w ≡ n + i
      → 2 ≤ count (λ u. eqb (f u) (n + i)) (range 0 (n + length gs))
  pair i u w a b d p q = count_two (λ u. eqb (f u) (n + i)) (range 0 (n + length gs)) u w (range_in 0 _ u zero-le a) (range_in 0 _ w zero-le b) d
      (eq-eqb _ _ p) (eq-eqb _ _ q)

  pub two_children : (i : ℕ) → i < length gs → 2 ≤ count (λ u. eqb (f u) (n + i)) (range 0 (n + length gs))
  two_children i h = first (lowest (nth gs i)) ((nested n gs ok).full i h) (kid i _ h ((nested n gs ok).full i h))
    where
      second_leaf : (s t : ℕ) → s < n → t < n → (t ≡ s → ⊥) → f s ≡ n + i → Child n gs f i t → 2 ≤ count (λ u. eqb (f u) (n + i)) (range 0 (n + length gs))
      second_leaf s t a b d p (leaf q) = pair i s t (omega arith) (omega arith) (λ e. d (sym e)) p q
      second_leaf s t a b d p (node j l k q e) = pair i s (n + j) (omega arith) (omega arith) (λ e. omega arith) p q

      second_node : (j t : ℕ) → j < length gs → t < n → has (nth gs j) t ≡ false → f (n + j) ≡ n + i → Child n gs f i t
          → 2 ≤ count (λ u. eqb (f u) (n + i)) (range 0 (n + length gs))
      second_node j t a b d p (leaf q) = pair i (n + j) t (omega arith) (omega arith) (λ e. omega arith) p q
      second_node j t a b d p (node c l k q e) = pair i (n + j) (n + c) (omega arith) (omega arith)
          (λ x. true≢false (sym e ∙ ap (λ (y : ℕ). has (nth gs y) t) (omega arith) ∙ d)) p q

      first : (s : ℕ) → has (nth gs i) s ≡ true → Child n gs f i s → 2 ≤ count (λ u. eqb (f u) (n + i)) (range 0 (n + length gs))
      first s e (leaf p) = let r = another (nth gs i) s (ok.big _ (in_at gs i h)) in
          second_leaf s r.0 (sample n gs ok i s h e) (sample n gs ok i r.0 h r.1) r.2 p (kid i r.0 h r.1)
      first s e (node j l k p q) =
          let a = in_at gs i h in let b = in_at gs j k in
          let r = extra (nth gs i) (nth gs j) (sharing_larger (nth gs i) (nth gs j) (ok.long _ a ∙ sym (ok.long _ b))
          (strict_at gs ok.strict j i l k) (ok.agree _ _ a b) s e q) in
          second_node j r.0 k (sample n gs ok i r.0 h r.1) r.2 p (kid i r.0 h r.1)

  pub root : f n ≡ o
  unfolding last_with
  root = rw add-zero at (is.inner 0 (some n gs ok))

  pub leaf_range : (s : ℕ) → s < n → (n ≤ f s) × (f s < n + length gs)
  leaf_range s z = rw (is.leaf s z) (rw take-length at (last_range n gs ok o (length gs) s (some n gs ok) (le_refl _) z))

  pub inner_range : (i : ℕ) → 0 < i → i < length gs → (n ≤ f (n + i)) × (f (n + i) < n + i)
  inner_range i h k = rw (is.inner i k) (last_range n gs ok o i (lowest (nth gs i)) h (omega arith) (sample n gs ok i _ k ((nested n gs ok).full i k)))

-- ---- there are fewer groups than samples: each takes two children of its own, and the root is nobody's child

-- the parents as a function, with n + length gs for none
up : ℕ → List Group → ℕ → ℕ
up n gs u = cond (ltb u n) (last_with u gs n (n + length gs)) (last_with (lowest (nth gs (u - n))) (take (u - n) gs) n (n + length gs))

up_is : (n : ℕ) (gs : List Group) → Parents n gs (n + length gs) (up n gs)
unfolding up
up_is n gs = record { leaf = λ s z. rw (lt-ltb s n z); inner = λ i h. let e : n + i - n ≡ i = omega arith in rw (le-ltb (n + i) n (omega arith), e) }

-- k values that f takes twice each on a list
twice : {A : Type 0} (f : A → ℕ) (n k : ℕ) (xs : List A) → ((i : ℕ) → i < k → 2 ≤ count (λ u. eqb (f u) (n + i)) xs) → 2 * k ≤ count (λ u. ltb (f u) (n + k)) xs
twice f n zero xs h = zero-le
twice f n (suc k) xs h = omega (
  arith,
  h k (omega arith),
  twice f n k xs (λ i l. h i (omega arith)),
  weigh_apart (λ u. 1) (λ u. ltb (f u) (n + k)) (λ u. eqb (f u) (n + k)) (λ u. ltb (f u) (n + suc k)) xs
      (λ x m e. let l : f x < n + k = ltb-true _ _ e in (lt-ltb (f x) (n + suc k) (omega arith), ne_eqb (f x) (n + k) (λ q. omega arith)))
      (λ x m e. let l : f x ≡ n + k = eqb-true _ _ e in lt-ltb (f x) (n + suc k) (omega arith)),
)

pub fewer : (n : ℕ) (gs : List Group) → Family n gs → length gs < n
fewer n gs ok = go (ltb (length gs) n) refl
  where
    m : ℕ
    m = n + length gs

    go : (x : Bool) → ltb (length gs) n ≡ x → length gs < n
    go true e = ltb-true _ _ e
    go false e = let r = weigh_both (λ u. 1) (λ u. ltb (up n gs u) m) (λ u. eqb (up n gs u) m) (range 0 m) (omega (
      arith,
      ltb-false (length gs) n e,
      twice (up n gs) n (length gs) (range 0 m) (two_children n gs ok m (up n gs) (up_is n gs)),
      weigh_one (λ u. 1) (λ u. eqb (up n gs u) m) (range 0 m) n (range_in 0 m n zero-le (omega (arith, some n gs ok)))
          (eq-eqb _ _ (root n gs ok m (up n gs) (up_is n gs))),
      count_all (λ (u : ℕ). true) (range 0 m) (λ x i. refl),
      length_range 0 m,
    )) in absurd (omega (arith, ltb-true (up n gs r.0) m r.2, eqb-true (up n gs r.0) m r.3))
