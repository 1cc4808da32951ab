-- The kept groups of two rows, merged: exactly those kept of either, and where they agree a family, so that their row is standard. Assumes nothing.
use Rattle.std.specs.Prelude.{ℕ, zero, suc, ◌+◌, ◌≤◌, ◌<◌, ◌≡◌, ◌⊎◌, ◌↔◌, Bool, ◌||◌, cond, length}
use Rattle.std.proofs.Math.Path.{refl}
use Rattle.std.proofs.Common.{sym, ap, ◌∙◌, inl, inr, arith}
use Rattle.std.proofs.Math.Logic.{⊎_elim}
use mathlib.Core.List.{List, [], ◌∷◌, ◌++◌, map, Memᴰ}
use Rattle.std.proofs.Math.Bool.{true, false}
use Rattle.std.proofs.lemmas.Bool.{false≢true}
use Rattle.trees.specs.Lists.{filter, range}
use Rattle.trees.specs.Groups.{Group, has, whole, size, member}
use Rattle.trees.specs.Rows.{nodes, group_at, inner}
use Rattle.trees.specs.Valid.{In, Standard}
use Rattle.trees.specs.Numbering.{row_of}
use Rattle.trees.specs.Merging.{flagged, kept_from, kept, merged, Mergeable}
use Rattle.trees.proofs.BoolLaws.{or_cases, or_l, or_r, not_yes}
use Rattle.trees.proofs.ListLaws.{range_cons, range_none, in-range, range_in}
use Rattle.trees.specs.Groups.{under, over, aside}
use Rattle.trees.specs.Groups.{Agree}
use Rattle.trees.proofs.MemberLaws.{in_none, in_head, in_tail, in_cases, member_ordered, member_append, strict_ordered}
use Rattle.trees.proofs.RowLaws.{length_group, inner_two, group_agree}
use Rattle.trees.proofs.FamilyLaws.{Family}
use Rattle.trees.proofs.PlantingLaws.{planted, planted_standard}
use Rattle.trees.proofs.StandardLaws.{root_whole}

-- ---- the values of a function at the members of a list that pass a test

module _ (g : ℕ → Group) (f : ℕ → Bool) where
  in_picked : (xs : List ℕ) (h : Group) → In h (map g (filter f xs)) → (v : ℕ) × Memᴰ v xs × (f v ≡ true) × (g v ≡ h)
  unfolding filter
  in_picked [] h m = absurd (in_none h m)
  in_picked (x ∷ xs) h m = go (f x) refl m (λ k. in_picked xs h k)
    where
      later : (v : ℕ) × Memᴰ v xs × (f v ≡ true) × (g v ≡ h) → (v : ℕ) × Memᴰ v (x ∷ xs) × (f v ≡ true) × (g v ≡ h)
      later t = (t.0, Memᴰ.tail t.1, t.2, t.3)

      go : (b : Bool) → f x ≡ b → In h (map g (cond b (x ∷ filter f xs) (filter f xs)))
          → (In h (map g (filter f xs)) → (v : ℕ) × Memᴰ v xs × (f v ≡ true) × (g v ≡ h))
          → (v : ℕ) × Memᴰ v (x ∷ xs) × (f v ≡ true) × (g v ≡ h)
      go true e k r = ⊎_elim (λ q. (x, Memᴰ.head refl, e, sym q)) (λ q. later (r q)) (in_cases h (g x) (map g (filter f xs)) k)
      go false e k r = later (r k)

  picked_in : (xs : List ℕ) (v : ℕ) → Memᴰ v xs → f v ≡ true → In (g v) (map g (filter f xs))
  unfolding filter
  picked_in [] v x'' e = elim x'' [ ]
  picked_in (x ∷ xs) v (Memᴰ.head q) e = rw (← q, e) (in_head (g v) (map g (filter f xs)))
  picked_in (x ∷ xs) v (Memᴰ.tail m) e = go (f x) (picked_in xs v m e)
    where
      go : (b : Bool) → In (g v) (map g (filter f xs)) → In (g v) (map g (cond b (x ∷ filter f xs) (filter f xs)))
      go true k = in_tail (g v) (g x) (map g (filter f xs)) k
      go false k = k

-- ---- the kept groups of one row

module _ (n : ℕ) (r : List ℕ) (keep : List Bool) where
  pub in_kept : (x : ℕ) (h : Group) → In h (kept_from n r keep x) → (v : ℕ) × (x ≤ v) × (v < nodes r) × (flagged keep v ≡ true) × (group_at n r v ≡ h)
  unfolding kept_from
  in_kept x h m =
      let t = in_picked (group_at n r) (flagged keep) (range x (nodes r)) h m in
      let k = in-range x (nodes r) t.0 t.1 in
      (t.0, k.0, k.1, t.2, t.3)

  pub kept_in : (x v : ℕ) → x ≤ v → v < nodes r → flagged keep v ≡ true → In (group_at n r v) (kept_from n r keep x)
  unfolding kept_from
  kept_in x v a h e = picked_in (group_at n r) (flagged keep) (range x (nodes r)) v (range_in x (nodes r) v a h) e

  pub kept_cons : (x : ℕ) → x < nodes r → flagged keep x ≡ true → kept_from n r keep x ≡ group_at n r x ∷ kept_from n r keep (suc x)
  unfolding kept_from filter
  kept_cons x h e = rw (range_cons x (nodes r) h, e)

  pub kept_none : (x : ℕ) → nodes r ≤ x → kept_from n r keep x ≡ []
  unfolding kept_from filter
  kept_none x h = rw (range_none x (nodes r) h)

  kept_drop : (x : ℕ) → x < nodes r → flagged keep x ≡ false → kept_from n r keep x ≡ kept_from n r keep (suc x)
  unfolding kept_from filter
  kept_drop x h e = rw (range_cons x (nodes r) h, e)

  -- nodes that are not kept may be passed over
  pub kept_past : (d x y : ℕ) → x + d ≡ y → y ≤ nodes r → ((u : ℕ) → x ≤ u → u < y → flagged keep u ≡ false) → kept_from n r keep x ≡ kept_from n r keep y
  kept_past zero x y e h f = ap (kept_from n r keep) (omega arith)
  kept_past (suc d) x y e h f = kept_drop x (omega arith) (f x (omega arith) (omega arith)) ∙ kept_past d (suc x) y (omega arith) h
      (λ u a b. f u (omega arith) b)

-- ---- both rows

pub agree_sym : (g h : Group) → Agree g h → Agree h g
agree_sym g h (under f) = over f
agree_sym g h (over f) = under f
agree_sym g h (aside f) = aside (λ s e. not_yes (has g s) (λ q. false≢true (sym (f s q) ∙ e)))

module _ (n : ℕ) (a : List ℕ) (keep_a : List Bool) (b : List ℕ) (keep_b : List Bool) where
  -- a group is merged exactly if it is kept of the first or of the second
  pub member_merged : (x : Group) → member x (merged n a keep_a b keep_b) ≡ (member x (kept n a keep_a) || member x (kept n b keep_b))
  unfolding merged
  member_merged x = member_ordered x (kept n a keep_a ++ kept n b keep_b) ∙ member_append x (kept n a keep_a) (kept n b keep_b)

  pub merged_cases : (x : Group) → In x (merged n a keep_a b keep_b) → In x (kept n a keep_a) ⊎ In x (kept n b keep_b)
  merged_cases x m = or_cases (member x (kept n a keep_a)) (member x (kept n b keep_b)) (sym (member_merged x) ∙ m)

  pub merged_first : (x : Group) → In x (kept n a keep_a) → In x (merged n a keep_a b keep_b)
  merged_first x m = member_merged x ∙ or_l (member x (kept n a keep_a)) (member x (kept n b keep_b)) m

  pub merged_second : (x : Group) → In x (kept n b keep_b) → In x (merged n a keep_a b keep_b)
  merged_second x m = member_merged x ∙ or_r (member x (kept n a keep_a)) (member x (kept n b keep_b)) m

module _ {n : ℕ} {r : List ℕ} (std : Standard n r) (keep : List Bool) where
  kept_long : (x : Group) → In x (kept n r keep) → length x ≡ n
  kept_long x m = let t = in_kept n r keep n x m in rw (← t.4) (length_group n r t.0)

  kept_big : (x : Group) → In x (kept n r keep) → 2 ≤ size x
  kept_big x m = let t = in_kept n r keep n x m in rw (← t.4) (inner_two n r std t.0 t.1 t.2)

  kept_agree : (x y : Group) → In x (kept n r keep) → In y (kept n r keep) → Agree x y
  kept_agree x y m k = let t = in_kept n r keep n x m in let u = in_kept n r keep n y k in rw (← t.4, ← u.4) (group_agree n r std.valid t.0 u.0)

  kept_top : flagged keep n ≡ true → In (whole n) (kept n r keep)
  kept_top e = rw (← root_whole n r std) (kept_in n r keep n n (omega arith) std.valid.low e)

module _ {n : ℕ} {a : List ℕ} {keep_a : List Bool} {b : List ℕ} {keep_b : List Bool} (ok : Mergeable n a keep_a b keep_b) where
  either : {P : Group → Type 0} → ((x : Group) → In x (kept n a keep_a) → P x) → ((x : Group) → In x (kept n b keep_b) → P x) → (x : Group)
      → In x (merged n a keep_a b keep_b) → P x
  either f g x m = ⊎_elim (f x) (g x) (merged_cases n a keep_a b keep_b x m)

  pairwise : (x y : Group) → In x (merged n a keep_a b keep_b) → In y (merged n a keep_a b keep_b) → Agree x y
  pairwise x y m k = go (merged_cases n a keep_a b keep_b x m) (merged_cases n a keep_a b keep_b y k)
    where
      go : In x (kept n a keep_a) ⊎ In x (kept n b keep_b) → In y (kept n a keep_a) ⊎ In y (kept n b keep_b) → Agree x y
      go (inl p) (inl q) = kept_agree ok.first keep_a x y p q
      go (inl p) (inr q) = ok.agree x y p q
      go (inr p) (inl q) = agree_sym y x (ok.agree y x q p)
      go (inr p) (inr q) = kept_agree ok.second keep_b x y p q

  -- the merged groups are a family
  pub merged_family : Family n (merged n a keep_a b keep_b)
  unfolding merged
  merged_family = record {
    strict = strict_ordered (kept n a keep_a ++ kept n b keep_b);
    long = either (kept_long ok.first keep_a) (kept_long ok.second keep_b);
    big = either (kept_big ok.first keep_a) (kept_big ok.second keep_b);
    agree = pairwise;
    top = ⊎_elim (λ e. merged_first n a keep_a b keep_b (whole n) (kept_top ok.first keep_a e))
        (λ e. merged_second n a keep_a b keep_b (whole n) (kept_top ok.second keep_b e))
        (or_cases (flagged keep_a n) (flagged keep_b n) ok.top);
  }

  -- so their row is standard, with just these inner groups
  pub merged_standard : Standard n (row_of n (merged n a keep_a b keep_b))
  merged_standard = planted_standard n (merged n a keep_a b keep_b) merged_family ok.first.valid.most

  pub merged_inner : inner n (row_of n (merged n a keep_a b keep_b)) ≡ merged n a keep_a b keep_b
  merged_inner = planted n (merged n a keep_a b keep_b) merged_family ok.first.valid.most

  -- a group is an inner group of that row exactly if it is kept of the first or of the second
  pub merged_exactly : (x : Group) → In x (inner n (row_of n (merged n a keep_a b keep_b))) ↔ (In x (kept n a keep_a) ⊎ In x (kept n b keep_b))
  merged_exactly x = rw merged_inner (merged_cases n a keep_a b keep_b x, ⊎_elim (merged_first n a keep_a b keep_b x) (merged_second n a keep_a b keep_b x))
