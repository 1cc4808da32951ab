-- The plain count: it starts with the whole, each run that is tried is merged in, and after enough of them all that is shown is accepted. Assumes nothing.
use Prim.Native.Nat.{ℕ, zero, suc, ◌≤◌, ◌<◌}
use Rattle.std.specs.Prelude.{◌≡◌, refl, Bool, true, false, ◌&&◌, ◌||◌, leb, length, get_or, take}
use Rattle.std.proofs.Common.{sym, ap, ◌∙◌, ⊎_elim, arith, take-suc, leb-true, leb-false, le-leb}
use mathlib.Core.List.Memᴰ
use mathlib.Core.List.{List, [], ◌∷◌, ◌++◌, Memᴰ}
use Rattle.std.proofs.Math.Bool.{or-false, or_assoc, and-or_distrib_left}
use Rattle.trees.specs.Lists.{filter, tabulate}
use Rattle.trees.specs.Groups.{Group, whole, single, size, same, member}
use Rattle.trees.specs.Rows.{nodes, group_at, groups, inner, holds}
use Rattle.trees.specs.Valid.{Valid, In, Strict, Standard}
use Rattle.trees.specs.Numbering.{ordered, branching, row_of}
use Rattle.trees.specs.Reporting.{Run, Rule, held, shown}
use Rattle.trees.specs.Majority.{majority, references}
use Rattle.trees.specs.Counting.{so_far}
use Rattle.trees.proofs.BoolLaws.{and_l, and_r, and_both, or_cases, or_l, or_r, true_eq, not_yes}
use Rattle.trees.proofs.ListLaws.{member_at, some_member}
use Rattle.trees.proofs.GroupLaws.{size_whole, single_small}
use Rattle.trees.proofs.MemberLaws.{in_none, in_head, in_tail, in_cases, member_ordered, member_append}
use Rattle.trees.proofs.MemberLaws.{member_filter, strict_ordered, strict_filter, strict_unique, in_table}
use Rattle.trees.proofs.RowLaws.{in_inner, inner_in, inner_two, groups_split}
use Rattle.trees.proofs.FamilyLaws.{Family}
use Rattle.trees.proofs.PlantingLaws.{planted}
use Rattle.trees.proofs.NumberingLaws.{row_tree}
use Rattle.trees.proofs.ReportingLaws.{Runs, Holder, in_held, held_in, Sound, shown_member, shown_strict, runs_least, runs_most}
use Rattle.trees.proofs.MajorityLaws.{majority_early}
use Rattle.trees.specs.Merging.{flagged, kept, merged}
use Rattle.trees.proofs.MergingLaws.{in_kept, kept_in, member_merged}

-- a group is accepted so far exactly if it has two samples, the rule passes it, and it is the whole or one of the first i runs holds it
pub so_far_member : (rule : Rule) (n : ℕ) (rs : List Run) (i : ℕ) (x : Group)
    → member x (so_far rule n rs i) ≡ (leb 2 (size x) && (rule n rs x && member x (whole n ∷ held n (take i rs))))
unfolding so_far
so_far_member rule n rs i x = member_filter x (λ g. leb 2 (size g)) (filter (rule n rs) (ordered (whole n ∷ held n (take i rs))))
    ∙ ap (λ (b : Bool). leb 2 (size x) && b)
    (member_filter x (rule n rs) (ordered (whole n ∷ held n (take i rs))) ∙ ap (λ (b : Bool). rule n rs x && b)
    (member_ordered x (whole n ∷ held n (take i rs))))

so_far_strict : (rule : Rule) (n : ℕ) (rs : List Run) (i : ℕ) → Strict (so_far rule n rs i)
unfolding so_far
so_far_strict rule n rs i = strict_filter _ _
    (strict_filter (rule n rs) (ordered (whole n ∷ held n (take i rs))) (strict_ordered (whole n ∷ held n (take i rs))))

-- ---- the first runs are runs

mem_take : {A : Type 0} (i : ℕ) (xs : List A) (x : A) → Memᴰ x (take i xs) → Memᴰ x xs
mem_take zero xs x m = absurd (Memᴰ.not-nil m)
mem_take (suc i) [] x m = m
mem_take (suc i) (y ∷ xs) x (Memᴰ.head e) = Memᴰ.head e
mem_take (suc i) (y ∷ xs) x (Memᴰ.tail m) = Memᴰ.tail (mem_take i xs x m)

held_append : (n : ℕ) (rs qs : List Run) (x : Group) → member x (held n (rs ++ qs)) ≡ (member x (held n rs) || member x (held n qs))
held_append n rs qs x = true_eq _ _ to from
  where
    to : In x (held n (rs ++ qs)) → member x (held n rs) || member x (held n qs) ≡ true
    to m = let t = held_in n (rs ++ qs) x m in ⊎_elim (λ k. or_l (member x (held n rs)) (member x (held n qs)) (in_held n rs x (t.0, k, t.2)))
        (λ k. or_r (member x (held n rs)) (member x (held n qs)) (in_held n qs x (t.0, k, t.2))) (Memᴰ.append_cases rs t.1)

    from : member x (held n rs) || member x (held n qs) ≡ true → In x (held n (rs ++ qs))
    from e = ⊎_elim (λ m. let t = held_in n rs x m in in_held n (rs ++ qs) x (t.0, Memᴰ.append_left qs t.1, t.2))
        (λ m. let t = held_in n qs x m in in_held n (rs ++ qs) x (t.0, Memᴰ.append_right rs t.1, t.2))
        (or_cases (member x (held n rs)) (member x (held n qs)) e)

held_one : (n : ℕ) (run : Run) (x : Group) → member x (held n (run ∷ [])) ≡ member x (groups n run.row)
unfolding held member
held_one n run x = member_append x (groups n run.row) [] ∙ or-false (member x (groups n run.row))

module _ (rule : Rule) (n : ℕ) (rs : List Run) (ok : (run : Run) → Memᴰ run rs → Standard n run.row) (some : 0 < length rs)
    (sound : Sound rule n rs) where
  valid : Runs n rs
  valid run m = (ok run m).valid

  whole_held : (run : Run) → Memᴰ run rs → holds n (whole n) run.row ≡ true
  whole_held run m = (row_tree n run.row (valid run m)).top

  whole_passes : rule n rs (whole n) ≡ true
  whole_passes = sound.unanimous (whole n) whole_held

  -- what is accepted is shown
  so_far_shown : (i : ℕ) (x : Group) → In x (so_far rule n rs i) → In x (shown rule n rs)
  so_far_shown i x m =
      let e = sym (so_far_member rule n rs i x) ∙ m in
      let f = and_r (leb 2 (size x)) _ e in
      shown_member rule n rs x ∙ and_both (rule n rs x) (member x (held n rs)) (and_l (rule n rs x) _ f)
      (⊎_elim top early (in_cases x (whole n) (held n (take i rs)) (and_r (rule n rs x) _ f)))
    where
      top : x ≡ whole n → In x (held n rs)
      top e = let t = some_member rs some in rw e (in_held n rs (whole n) (t.0, t.1, whole_held t.0 t.1))

      early : In x (held n (take i rs)) → In x (held n rs)
      early k = let t = held_in n (take i rs) x k in in_held n rs x (t.0, mem_take i rs t.0 t.1, t.2)

  so_far_big : (i : ℕ) (x : Group) → In x (so_far rule n rs i) → 2 ≤ size x
  so_far_big i x m = leb-true 2 (size x) (and_l (leb 2 (size x)) _ (sym (so_far_member rule n rs i x) ∙ m))

  so_far_held : (i : ℕ) (x : Group) → In x (so_far rule n rs i) → Holder n x rs
  so_far_held i x m = held_in n rs x (and_r (rule n rs x) _ (sym (shown_member rule n rs x) ∙ so_far_shown i x m))

  so_far_whole : (i : ℕ) → In (whole n) (so_far rule n rs i)
  so_far_whole i = so_far_member rule n rs i (whole n)
      ∙ and_both _ _ (le-leb 2 (size (whole n)) (omega (arith, runs_least n rs valid some, size_whole n)))
      (and_both _ _ whole_passes (in_head (whole n) (held n (take i rs))))

  pub so_far_family : (i : ℕ) → Family n (so_far rule n rs i)
  so_far_family i = record {
    strict = so_far_strict rule n rs i;
    long = λ g m. let t = so_far_held i g m in (row_tree n t.0.row (valid t.0 t.1)).long g t.2;
    big = so_far_big i;
    agree = λ g h m k. sound.agree g h (so_far_shown i g m) (so_far_shown i h k);
    top = so_far_whole i;
  }

  -- before any run is tried there is the whole alone
  pub so_far_start : so_far rule n rs 0 ≡ whole n ∷ []
  unfolding held
  so_far_start = strict_unique (so_far rule n rs 0) (whole n ∷ []) (so_far_strict rule n rs 0) (λ h m. absurd (in_none h m), tt)
      (λ x. true_eq _ _ (to x) (from x))
    where
      to : (x : Group) → In x (so_far rule n rs 0) → In x (whole n ∷ [])
      to x m = and_r (rule n rs x) _ (and_r (leb 2 (size x)) _ (sym (so_far_member rule n rs 0 x) ∙ m))

      from : (x : Group) → In x (whole n ∷ []) → In x (so_far rule n rs 0)
      from x m = ⊎_elim (λ e. rw e (so_far_whole 0)) (λ k. absurd (in_none x k)) (in_cases x (whole n) [] m)

  -- ---- one run more

  -- flags of a row: all inner nodes kept, and those kept that the rule passes
  abbrev pub AllKept : List ℕ → List Bool → Type 0
  AllKept r keep = (v : ℕ) → n ≤ v → v < nodes r → flagged keep v ≡ true

  abbrev pub Passing : List ℕ → List Bool → Type 0
  Passing r keep = (v : ℕ) → n ≤ v → v < nodes r → flagged keep v ≡ rule n rs (group_at n r v)

  kept_all : (r : List ℕ) (keep : List Bool) → AllKept r keep → (x : Group) → member x (kept n r keep) ≡ member x (inner n r)
  kept_all r keep h x = true_eq _ _
      (λ m. let t = in_kept n r keep n x m in rw (← t.4) (inner_in n r t.0 t.1 t.2))
      (λ m. let t = in_inner n r x m in rw (← t.3) (kept_in n r keep n t.0 t.1 t.2 (h t.0 t.1 t.2)))

  kept_passing : (r : List ℕ) (keep : List Bool) → Passing r keep → (x : Group) → member x (kept n r keep) ≡ (rule n rs x && member x (inner n r))
  kept_passing r keep h x = true_eq _ _
      (λ m. let t = in_kept n r keep n x m in
      rw (← t.4) (and_both _ _ (sym (h t.0 t.1 t.2) ∙ t.3) (inner_in n r t.0 t.1 t.2)))
      (λ e. let t = in_inner n r x (and_r (rule n rs x) _ e) in
      rw (← t.3) (kept_in n r keep n t.0 t.1 t.2 (h t.0 t.1 t.2 ∙ ap (rule n rs) t.3 ∙ and_l (rule n rs x) _ e)))

  -- of a valid row's groups those of two samples or more are the inner ones
  inner_of_groups : (r : List ℕ) → Valid n r → (x : Group) → 2 ≤ size x → member x (groups n r) ≡ member x (inner n r)
  inner_of_groups r v x z = ap (member x) (groups_split n r v) ∙ member_append x (tabulate n (single n) 0) (inner n r)
      ∙ true_eq _ _ (λ e. ⊎_elim (λ m. absurd (few m)) (λ m. m) (or_cases (member x (tabulate n (single n) 0)) (member x (inner n r)) e))
      (or_r (member x (tabulate n (single n) 0)) (member x (inner n r)))
    where
      few : In x (tabulate n (single n) 0) → ⊥
      few m = let u = in_table n (single n) 0 x m in omega (arith, single_small n u.0, ap size u.3)

  -- merging a run's passing groups into what is accepted gives what is accepted with that run
  pub so_far_step : (i : ℕ) (d : Run) (keep_a keep_b : List Bool) → i < length rs → AllKept (row_of n (so_far rule n rs i)) keep_a → Passing (get_or rs i d).row keep_b
      → merged n (row_of n (so_far rule n rs i)) keep_a (get_or rs i d).row keep_b ≡ so_far rule n rs (suc i)
  unfolding merged member
  so_far_step i d keep_a keep_b h a b = strict_unique (merged n (row_of n (so_far rule n rs i)) keep_a q keep_b) (so_far rule n rs (suc i)) merged_strict
      (so_far_strict rule n rs (suc i)) same_members
    where
      q : List ℕ
      q = (get_or rs i d).row

      q_valid : Valid n q
      q_valid = valid (get_or rs i d) (member_at rs i d h)

      merged_strict : Strict (merged n (row_of n (so_far rule n rs i)) keep_a q keep_b)
      merged_strict = strict_ordered (kept n (row_of n (so_far rule n rs i)) keep_a ++ kept n q keep_b)

      more : (x : Group) → member x (whole n ∷ held n (take (suc i) rs)) ≡ (member x (whole n ∷ held n (take i rs)) || member x (groups n q))
      more x = rw (take-suc rs i d h, held_append n (take i rs) (get_or rs i d ∷ []) x, held_one n (get_or rs i d) x)
          (sym (or_assoc (same x (whole n)) (member x (held n (take i rs))) (member x (groups n q))))

      left : (x : Group) → member x (kept n (row_of n (so_far rule n rs i)) keep_a) ≡ member x (so_far rule n rs i)
      left x = kept_all (row_of n (so_far rule n rs i)) keep_a a x ∙ ap (member x) (planted n (so_far rule n rs i) (so_far_family i) (runs_most n rs valid some))

      same_members : (x : Group) → member x (merged n (row_of n (so_far rule n rs i)) keep_a q keep_b) ≡ member x (so_far rule n rs (suc i))
      same_members x = member_merged n (row_of n (so_far rule n rs i)) keep_a q keep_b x
          ∙ (rw (left x, kept_passing q keep_b b x, so_far_member rule n rs i x, so_far_member rule n rs (suc i) x, more x) (go (leb 2 (size x)) refl))
        where
          go : (z : Bool) → leb 2 (size x) ≡ z
              → (z && (rule n rs x && member x (whole n ∷ held n (take i rs)))) || (rule n rs x && member x (inner n q)) ≡
              (z && (rule n rs x && (member x (whole n ∷ held n (take i rs)) || member x (groups n q))))
          go true e = rw (inner_of_groups q q_valid x (leb-true 2 (size x) e))
              (sym (and-or_distrib_left (rule n rs x) (member x (whole n ∷ held n (take i rs))) (member x (inner n q))))
          go false e = not_yes _ (λ k. let t = in_inner n q x (and_r (rule n rs x) (member x (inner n q)) k) in
              omega (arith, leb-false 2 (size x) e, inner_two n q (ok (get_or rs i d) (member_at rs i d h)) t.0 t.1 t.2, ap size t.3))

  -- after h runs all that is shown is accepted, where each shown group is held by one of them
  pub so_far_all : (h : ℕ) → ((x : Group) → In x (shown rule n rs) → Holder n x (take h rs)) → so_far rule n rs h ≡ branching (shown rule n rs)
  so_far_all h early = strict_unique (so_far rule n rs h) (branching (shown rule n rs)) (so_far_strict rule n rs h)
      (strict_filter _ (shown rule n rs) (shown_strict rule n rs)) (λ x. true_eq _ _ (to x) (from x))
    where
      to : (x : Group) → In x (so_far rule n rs h) → In x (branching (shown rule n rs))
      to x m = member_filter x (λ g. leb 2 (size g)) (shown rule n rs) ∙ and_both _ _ (le-leb 2 (size x) (so_far_big h x m)) (so_far_shown h x m)

      from : (x : Group) → In x (branching (shown rule n rs)) → In x (so_far rule n rs h)
      from x m =
          let e = sym (member_filter x (λ g. leb 2 (size g)) (shown rule n rs)) ∙ m in
          let k = and_r (leb 2 (size x)) _ e in
          so_far_member rule n rs h x ∙ and_both (leb 2 (size x)) (rule n rs x && member x (whole n ∷ held n (take h rs)))
          (and_l (leb 2 (size x)) (member x (shown rule n rs)) e)
          (and_both (rule n rs x) (member x (whole n ∷ held n (take h rs)))
          (and_l (rule n rs x) (member x (held n rs)) (sym (shown_member rule n rs x) ∙ k))
          (in_tail x (whole n) (held n (take h rs)) (in_held n (take h rs) x (early x k))))

-- of a majority rule the runs that are tried are enough
pub majority_so_far : (t n : ℕ) (rs : List Run) → ((run : Run) → Memᴰ run rs → Standard n run.row) → 0 < length rs → Sound (majority t) n rs
    → so_far (majority t) n rs (references t (length rs)) ≡ branching (shown (majority t) n rs)
majority_so_far t n rs ok some sound = so_far_all (majority t) n rs ok some sound (references t (length rs))
    (λ x m. majority_early t n rs some x (and_l (majority t n rs x) _ (sym (shown_member (majority t) n rs x) ∙ m)))
