-- Renumbering keeps exactly the groups, depends on their set alone, and leaves a standard row as it is. Assumes nothing.
use Rattle.std.specs.Prelude.{ℕ, ◌≤◌, ◌<◌, ◌≡◌, List, true, ◌&&◌, ◌||◌, leb, length}
use Rattle.std.proofs.Common.{zero-le, sym, ap, ◌∙◌, ⊎_elim, eq-or-lt_of_le, arith, leb-true, le-leb}
use Rattle.trees.specs.Lists.{tabulate}
use Rattle.trees.specs.Groups.{Group, whole, single, size, lowest, member}
use Rattle.trees.specs.Rows.{groups, inner}
use Rattle.trees.specs.Checks.{fewest_samples, most_samples}
use Rattle.trees.specs.Valid.{Valid, In, Strict, Standard}
use Rattle.trees.specs.Numbering.{ordered, group_set, branching, row_of, renumbered}
use Rattle.trees.proofs.BoolLaws.{and_l, and_r, and_both, or_cases, or_l, or_r, true_eq}
use Rattle.trees.proofs.GroupLaws.{size_whole, size_single, single_small, lowest_has, has_lt}
use Rattle.trees.specs.Groups.{Agree}
use Rattle.trees.proofs.MemberLaws.{member_ordered, member_append, member_filter, strict_ordered, strict_filter}
use Rattle.trees.proofs.MemberLaws.{strict_unique, ordered_same, in_table, table_in}
use Rattle.trees.proofs.FamilyLaws.{Family}
use Rattle.trees.proofs.PlantingLaws.{planted, planted_standard}
use Rattle.trees.proofs.RowLaws.{length_group, in_groups, groups-in, leaf_group, valid_rooted, group_full}
use Rattle.trees.proofs.RowLaws.{group_agree, whole_inner, in_inner, inner_two, groups_split}
use Rattle.trees.proofs.StandardLaws.{standard_row}

-- what the groups of a tree satisfy, in any order and number
pub record Tree (n : ℕ) (gs : List Group) : Type 0 where
  pub long : (g : Group) → In g gs → length g ≡ n
  pub full : (g : Group) → In g gs → 1 ≤ size g
  pub agree : (g h : Group) → In g gs → In h gs → Agree g h
  pub leaf : (s : ℕ) → s < n → In (single n s) gs
  pub top : In (whole n) gs

pub row_tree : (n : ℕ) (r : List ℕ) → Valid n r → Tree n (groups n r)
row_tree n r ok = record {
  long = λ g m. let t = in_groups n r g m in rw (← t.2) (length_group n r t.0);
  full = λ g m. let t = in_groups n r g m in rw (← t.2) (group_full n r ok t.0 t.1);
  agree = λ g h m k. let t = in_groups n r g m in let u = in_groups n r h k in rw (← t.2, ← u.2) (group_agree n r ok t.0 u.0);
  leaf = λ s h. rw (← leaf_group n r (valid_rooted n r ok) s h) (groups-in n r s (omega (arith, ok.low)));
  top = let t = in_inner n r (whole n) (whole_inner n r ok) in rw (← t.3) (groups-in n r t.0 t.2);
}

pub tree_same : (n : ℕ) (gs hs : List Group) → ((x : Group) → member x hs ≡ member x gs) → Tree n gs → Tree n hs
tree_same n gs hs e t = record {
  long = λ x m. t.long x (sym (e x) ∙ m);
  full = λ x m. t.full x (sym (e x) ∙ m);
  agree = λ x y m k. t.agree x y (sym (e x) ∙ m) (sym (e y) ∙ k);
  leaf = λ s h. e (single n s) ∙ t.leaf s h;
  top = e (whole n) ∙ t.top;
}

-- ---- the row of a tree's groups in order

module _ (gs : List Group) (g : Group) where
  in_branching : In g (branching gs) → (2 ≤ size g) × In g gs
  in_branching m = let e : leb 2 (size g) && member g gs ≡ true = sym (member_filter g (λ h. leb 2 (size h)) gs) ∙ m in
      (leb-true 2 (size g) (and_l (leb 2 (size g)) (member g gs) e), and_r (leb 2 (size g)) (member g gs) e)

  branching_in : 2 ≤ size g → In g gs → In g (branching gs)
  branching_in z m = member_filter g (λ h. leb 2 (size h)) gs ∙ and_both (leb 2 (size g)) (member g gs) (le-leb 2 (size g) z) m

module _ (n : ℕ) (gs : List Group) (tree : Tree n gs) (strict : Strict gs) (least : fewest_samples ≤ n) (most : n ≤ most_samples) where
  pub tree_family : Family n (branching gs)
  tree_family = record {
    strict = strict_filter (λ g. leb 2 (size g)) gs strict;
    long = λ g m. tree.long g (in_branching gs g m).1;
    big = λ g m. (in_branching gs g m).0;
    agree = λ g h m k. tree.agree g h (in_branching gs g m).1 (in_branching gs h k).1;
    top = branching_in gs (whole n) (omega (arith, size_whole n)) tree.top;
  }

  pub tree_standard : Standard n (row_of n (branching gs))
  tree_standard = planted_standard n (branching gs) tree_family most

  -- the row has exactly these groups, the trivial ones among them
  pub tree_groups : (x : Group) → member x (groups n (row_of n (branching gs))) ≡ member x gs
  tree_groups x = rw (groups_split n (row_of n (branching gs)) tree_standard.valid, planted n (branching gs) tree_family most, member_append)
      (true_eq _ _ (λ e. ⊎_elim one (λ m. (in_branching gs x m).1) (or_cases (member x (tabulate n (single n) 0)) (member x (branching gs)) e)) two)
    where
      one : In x (tabulate n (single n) 0) → In x gs
      one m = let t = in_table n (single n) 0 x m in rw (← t.3) (tree.leaf t.0 (omega arith))

      two : In x gs → member x (tabulate n (single n) 0) || member x (branching gs) ≡ true
      two m = ⊎_elim single_one (λ z. or_r (member x (tabulate n (single n) 0)) (member x (branching gs)) (branching_in gs x z m))
          (eq-or-lt_of_le (tree.full x m))
        where
          single_one : 1 ≡ size x → member x (tabulate n (single n) 0) || member x (branching gs) ≡ true
          single_one z =
              let l : lowest x < n = omega (arith, has_lt x (lowest x) (lowest_has x (omega arith)), tree.long x m) in
              or_l (member x (tabulate n (single n) 0)) (member x (branching gs))
              (rw (size_single n x (tree.long x m) (sym z)) (table_in n (single n) 0 (lowest x) zero-le (omega arith)))

-- ---- renumbering

module _ (n : ℕ) (r : List ℕ) where
  pub set_strict : Strict (group_set n r)
  unfolding group_set
  set_strict = strict_ordered (groups n r)

  pub member_set : (x : Group) → member x (group_set n r) ≡ member x (groups n r)
  unfolding group_set
  member_set x = member_ordered x (groups n r)

module _ (n : ℕ) (r : List ℕ) (ok : Valid n r) where
  set_tree : Tree n (group_set n r)
  unfolding group_set
  set_tree = tree_same n (groups n r) (ordered (groups n r)) (λ x. member_ordered x (groups n r)) (row_tree n r ok)

  pub renumbered_standard : Standard n (renumbered n r)
  unfolding renumbered
  renumbered_standard = tree_standard n (group_set n r) set_tree (set_strict n r) ok.least ok.most

  pub renumbered_inner : inner n (renumbered n r) ≡ branching (group_set n r)
  unfolding renumbered
  renumbered_inner = planted n (branching (group_set n r)) (tree_family n (group_set n r) set_tree (set_strict n r) ok.least ok.most) ok.most

  -- exactly the groups are kept
  pub renumbered_groups : (x : Group) → member x (groups n (renumbered n r)) ≡ member x (groups n r)
  unfolding renumbered
  renumbered_groups x = tree_groups n (group_set n r) set_tree (set_strict n r) ok.least ok.most x ∙ member_set n r x

-- it depends on the set of groups alone
pub renumbered_same : (n : ℕ) (r q : List ℕ) → ((x : Group) → member x (groups n r) ≡ member x (groups n q)) → renumbered n r ≡ renumbered n q
unfolding renumbered group_set
renumbered_same n r q e = ap (λ (gs : List Group). row_of n (branching gs)) (ordered_same (groups n r) (groups n q) e)

pub renumbered_twice : (n : ℕ) (r : List ℕ) → Valid n r → renumbered n (renumbered n r) ≡ renumbered n r
renumbered_twice n r ok = renumbered_same n (renumbered n r) r (renumbered_groups n r ok)

-- a standard row is its own renumbering
pub standard_renumbered : (n : ℕ) (r : List ℕ) → Standard n r → renumbered n r ≡ r
unfolding renumbered
standard_renumbered n r std = ap (row_of n)
    (strict_unique (branching (group_set n r)) (inner n r)
    (tree_family n (group_set n r) (set_tree n r ok) (set_strict n r) ok.least ok.most).strict std.strict same_members)
    ∙ standard_row n r std
  where
    ok : Valid n r
    ok = std.valid

    same_members : (x : Group) → member x (branching (group_set n r)) ≡ member x (inner n r)
    same_members x = true_eq _ _ to from
      where
        to : In x (branching (group_set n r)) → In x (inner n r)
        to m =
            let t = in_branching (group_set n r) x m in
            ⊎_elim (λ e. absurd (few t.0 e)) (λ k. k)
            (or_cases (member x (tabulate n (single n) 0)) (member x (inner n r))
            (sym (member_append x (tabulate n (single n) 0) (inner n r)) ∙ (rw (groups_split n r ok) at (sym (member_set n r x) ∙ t.1))))
          where
            few : 2 ≤ size x → In x (tabulate n (single n) 0) → ⊥
            few z i = let u = in_table n (single n) 0 x i in omega (arith, single_small n u.0, ap size u.3)

        from : In x (inner n r) → In x (branching (group_set n r))
        from m = let t = in_inner n r x m in
            branching_in (group_set n r) x
            (rw (← t.3) (inner_two n r std t.0 t.1 t.2)) (member_set n r x ∙ (rw (← t.3) (groups-in n r t.0 t.2)))

-- there is no other such tree (RULES 5.3): two standard rows with equal groups are equal
pub standard_unique : (n : ℕ) (r q : List ℕ) → Standard n r → Standard n q → ((x : Group) → member x (groups n r) ≡ member x (groups n q)) → r ≡ q
standard_unique n r q a b e = sym (standard_renumbered n r a) ∙ renumbered_same n r q e ∙ standard_renumbered n q b
