-- The counts of comparing are those of sets, its last two together are a distance, and of standard rows they are counted over the nodes
-- after the root. Assumes nothing.
use Rattle.std.specs.Prelude.{ℕ, ◌+◌, ◌-◌, ◌≤◌, ◌<◌, ◌≡◌, refl, ◌↔◌, List, Bool, true, false, ◌&&◌, ◌||◌, eqb, length}
use Rattle.std.proofs.Math.Path.{sym, ap}
use Rattle.std.proofs.Common.{◌∙◌, arith, ne_eqb}
use Rattle.std.proofs.Math.Bool.{not, and-true, and-false, and_comm}
use Rattle.std.proofs.lemmas.Bool.{false≢true, eqb-false, not-true, not-false}
use Rattle.trees.specs.Lists.{tabulate, range, filter, count}
use Rattle.trees.specs.Groups.{Group, size, trivial, member}
use Rattle.trees.specs.Checks.{counted}
use Rattle.trees.specs.Valid.{Valid, In, Strict, Standard}
use Rattle.trees.specs.Rows.{nodes, group_at, groups, holds}
use Rattle.trees.specs.Numbering.{group_set, renumbered}
use Rattle.trees.specs.Comparing.{shared, alone, distance, nontrivial, counts_of, compared}
use Rattle.trees.proofs.BoolLaws.{and_l, and_r, or_none, true_eq, not_yes}
use Rattle.trees.proofs.ListLaws.{length_tabulate, in-range, weigh_mono, weigh_none, weigh_one, weigh_cover}
use Rattle.trees.proofs.ListLaws.{count_all, count_same, count_filter, count_not, count_tabulate}
use Rattle.trees.proofs.GroupLaws.{size_whole, size_all, single_small}
use Rattle.trees.proofs.TableLaws.{size_length}
use Rattle.trees.proofs.MemberLaws.{mem_in, in_mem, in_table, table_in, member_filter}
use Rattle.trees.proofs.MemberLaws.{strict_filter, strict_table, strict_unique, ordered_same}
use Rattle.trees.proofs.RowLaws.{length_group, in_groups, groups-in, leaf_group, valid_rooted, inner_two, holds_trivial}
use Rattle.trees.proofs.StandardLaws.{root_whole, node_before, standard_distinct}
use Rattle.trees.proofs.NumberingLaws.{row_tree, set_strict, member_set, renumbered_standard, renumbered_groups}

-- ---- sets of groups

-- two tests that leave the same members of two sets count alike
pub count_members : (p q : Group → Bool) (gs hs : List Group) → Strict gs → Strict hs
    → ((x : Group) → p x && member x gs ≡ (q x && member x hs)) → count p gs ≡ count q hs
count_members p q gs hs s t e = count_filter p gs
    ∙ ap length (strict_unique (filter p gs) (filter q hs) (strict_filter p gs s) (strict_filter q hs t)
    (λ x. member_filter x p gs ∙ e x ∙ sym (member_filter x q hs)))
    ∙ sym (count_filter q hs)

-- what is counted is the size of the set of those that pass
pub count_set : (t : Group → Bool) (gs xs : List Group) → Strict gs → Strict xs → ((x : Group) → member x xs ≡ (t x && member x gs))
    → count t gs ≡ length xs
count_set t gs xs s u e = count_members t (λ x. true) gs xs s u (λ x. sym (e x)) ∙ count_all (λ x. true) xs (λ x m. refl)

-- how many groups two sets have in common is the same from either side (RULES 8.1)
pub shared_comm : (gs hs : List Group) → Strict gs → Strict hs → shared gs hs ≡ shared hs gs
shared_comm gs hs s t = count_members _ _ gs hs s t (λ x. and_comm (member x hs) (member x gs))

-- a set's groups are those that the other has and those that it has not
pub shared_alone : (gs hs : List Group) → shared gs hs + alone gs hs ≡ length gs
shared_alone gs hs = count_not (λ g. member g hs) gs

-- no group stands alone exactly if each is in the other set
pub alone_none : (gs hs : List Group) → (alone gs hs ≡ 0) ↔ ((x : Group) → In x gs → In x hs)
alone_none gs hs = (
  λ e x m. not-false (member x hs) (not_yes _ (λ k. absurd (omega (arith, weigh_one (λ g. 1) (λ g. not (member g hs)) gs x (in_mem x gs m) k)))),
  λ h. weigh_none (λ g. 1) (λ g. not (member g hs)) gs (λ x m. ap not (h x (mem_in x gs m))),
)

-- what stands alone beside a third set stands alone beside the second, or is in the second and stands alone there
alone_by : (gs hs ks : List Group) → Strict gs → Strict hs → alone gs ks ≤ alone gs hs + alone hs ks
alone_by gs hs ks s t = omega (
  arith,
  weigh_cover (λ g. 1) (λ g. not (member g ks)) (λ g. not (member g hs)) (λ g. member g hs && not (member g ks)) gs
      (λ x m. split (member x hs) (not (member x ks))),
  count_members (λ g. member g hs && not (member g ks)) (λ g. member g gs && not (member g ks)) gs hs s t
      (λ x. turned (member x hs) (not (member x ks)) (member x gs)),
  weigh_mono (λ g. 1) (λ g. member g gs && not (member g ks)) (λ g. not (member g ks)) hs (λ x m. and_r (member x gs) (not (member x ks))),
)
  where
    split : (a b : Bool) → b ≡ true → not a || (a && b) ≡ true
    split true b e = e
    split false b e = refl

    turned : (a b c : Bool) → (a && b) && c ≡ ((c && b) && a)
    turned true b c = and_comm b c ∙ sym (and-true (c && b))
    turned false b c = sym (and-false (c && b))

-- THE DISTANCE IS ONE (RULES 8.5): it is symmetric,
pub distance_symmetric : (gs hs : List Group) → distance gs hs ≡ distance hs gs
distance_symmetric gs hs = omega arith

-- it is 0 for sets with the same members and for no others,
pub distance_zero : (gs hs : List Group) → (distance gs hs ≡ 0) ↔ ((x : Group) → member x gs ≡ member x hs)
distance_zero gs hs = (
  λ e x. true_eq _ _ ((alone_none gs hs).0 (omega arith) x) ((alone_none hs gs).0 (omega arith) x),
  λ h. omega (arith, (alone_none gs hs).1 (λ x m. sym (h x) ∙ m), (alone_none hs gs).1 (λ x m. h x ∙ m)),
)

-- and by way of a third set it is no shorter
pub distance_triangle : (gs hs ks : List Group) → Strict gs → Strict hs → Strict ks → distance gs ks ≤ distance gs hs + distance hs ks
distance_triangle gs hs ks s t u = omega (arith, alone_by gs hs ks s t, alone_by ks hs gs u t)

-- ---- the groups of a row that are counted

module _ (n : ℕ) (r : List ℕ) where
  pub nontrivial_strict : Strict (nontrivial n r)
  unfolding nontrivial
  nontrivial_strict = strict_filter _ (group_set n r) (set_strict n r)

  pub nontrivial_member : (x : Group) → member x (nontrivial n r) ≡ (not (trivial x) && holds n x r)
  unfolding nontrivial
  nontrivial_member x = member_filter x _ (group_set n r) ∙ ap (λ (b : Bool). not (trivial x) && b) (member_set n r x)

-- EXACTLY those that have more than one sample and fewer than all (RULES 8.2)
pub nontrivial_exactly : (n : ℕ) (r : List ℕ) → Valid n r → (x : Group) → In x (nontrivial n r) ↔ ((1 < size x) × (size x < n) × (holds n x r ≡ true))
nontrivial_exactly n r ok x = (to, from)
  where
    to : In x (nontrivial n r) → (1 < size x) × (size x < n) × (holds n x r ≡ true)
    to m =
        let e = sym (nontrivial_member n r x) ∙ m in
        let h = and_r (not (trivial x)) (holds n x r) e in
        let t = or_none (eqb (size x) 1) (eqb (size x) (length x)) (not-true (trivial x) (and_l (not (trivial x)) (holds n x r) e)) in (
          omega (arith, eqb-false (size x) 1 t.0, (row_tree n r ok).full x h),
          omega (arith, eqb-false (size x) (length x) t.1, size_length x, (row_tree n r ok).long x h),
          h,
        )

    from : (1 < size x) × (size x < n) × (holds n x r ≡ true) → In x (nontrivial n r)
    from t = nontrivial_member n r x ∙ (rw
        (ne_eqb (size x) 1 (λ e. omega arith), ne_eqb (size x) (length x) (λ e. omega (arith, (row_tree n r ok).long x t.2))) t.2)

-- ---- two rows

-- what is counted of a row by whether the other row has it
counted_set : (n : ℕ) (r q : List ℕ) (f : Bool → Bool) (xs : List Group) → Strict xs
    → ((x : Group) → member x xs ≡ (not (trivial x) && (holds n x r && f (holds n x q))))
    → count (λ g. f (member g (nontrivial n q))) (nontrivial n r) ≡ length xs
counted_set n r q f xs s e = count_set (λ g. f (member g (nontrivial n q))) (nontrivial n r) xs (nontrivial_strict n r) s
    (λ x. e x ∙ (rw (nontrivial_member n r x, nontrivial_member n q x) (go (not (trivial x)) (holds n x r) (holds n x q))))
  where
    go : (t a b : Bool) → t && (a && f b) ≡ (f (t && b) && (t && a))
    go true a b = and_comm a (f b)
    go false a b = sym (and-false (f false))

module _ (n : ℕ) (r q : List ℕ) where
  -- THE COUNTS ARE THOSE OF SETS (RULES 8.1, 8.2): list, each once and in order, the groups that are not trivial and that both rows hold,
  -- the first alone, the second alone; then the counts are the lengths of the lists
  pub compared_sets : (xs ys zs : List Group) → Strict xs → Strict ys → Strict zs
      → ((x : Group) → member x xs ≡ (not (trivial x) && (holds n x r && holds n x q)))
      → ((x : Group) → member x ys ≡ (not (trivial x) && (holds n x r && not (holds n x q))))
      → ((x : Group) → member x zs ≡ (not (trivial x) && (holds n x q && not (holds n x r))))
      → compared n r q ≡ counted (length xs) (length ys) (length zs)
  unfolding compared
  compared_sets xs ys zs s t u e f g = cc (
    counted_set n r q (λ b. b) xs s e,
    counted_set n r q not ys t f,
    counted_set n q r not zs u g,
  )

  -- which count is whose (RULES 8.1): with the shared groups, the second count makes those of the first row, and the third those of the second
  pub compared_sides : (a b c : ℕ) → compared n r q ≡ counted a b c → (a + b ≡ length (nontrivial n r)) × (a + c ≡ length (nontrivial n q))
  unfolding compared
  compared_sides a b c e =
      let x : shared (nontrivial n r) (nontrivial n q) ≡ a = cc in
      let y : alone (nontrivial n r) (nontrivial n q) ≡ b = cc in
      let z : alone (nontrivial n q) (nontrivial n r) ≡ c = cc in
      let d = shared_comm (nontrivial n r) (nontrivial n q) (nontrivial_strict n r) (nontrivial_strict n q) in
      (omega (arith, shared_alone (nontrivial n r) (nontrivial n q)), omega (arith, shared_alone (nontrivial n q) (nontrivial n r)))

  -- the rows exchanged (RULES 8.3)
  pub compared_swapped : (a b c : ℕ) → compared n r q ≡ counted a b c → compared n q r ≡ counted a c b
  unfolding compared
  compared_swapped a b c e = cc (shared_comm (nontrivial n q) (nontrivial n r) (nontrivial_strict n q) (nontrivial_strict n r))

nontrivial_same : (n : ℕ) (r s : List ℕ) → ((x : Group) → holds n x r ≡ holds n x s) → nontrivial n r ≡ nontrivial n s
unfolding nontrivial group_set
nontrivial_same n r s e = ap (filter _) (ordered_same (groups n r) (groups n s) e)

-- they depend on the groups alone, not on how a row numbers its nodes (RULES 8.2)
pub compared_groups : (n : ℕ) (r s q t : List ℕ) → ((x : Group) → holds n x r ≡ holds n x s) → ((x : Group) → holds n x q ≡ holds n x t)
    → compared n r q ≡ compared n s t
unfolding compared
compared_groups n r s q t e f = rw (nontrivial_same n r s e, nontrivial_same n q t f) refl

pub compared_renumbered : (n : ℕ) (r q : List ℕ) → Valid n r → Valid n q → compared n r q ≡ compared n (renumbered n r) (renumbered n q)
compared_renumbered n r q a b = compared_groups n r (renumbered n r) q (renumbered n q)
    (λ x. sym (renumbered_groups n r a x)) (λ x. sym (renumbered_groups n q b x))

-- ---- two valid rows

module _ (n : ℕ) (r q : List ℕ) (a : Valid n r) (b : Valid n q) where
  -- a group that one row alone has is not trivial, since both hold every trivial one
  alone_all : alone (nontrivial n r) (nontrivial n q) ≡ alone (group_set n r) (group_set n q)
  alone_all = count_members (λ g. not (member g (nontrivial n q))) (λ g. not (member g (group_set n q))) (nontrivial n r) (group_set n r)
      (nontrivial_strict n r) (set_strict n r)
      (λ x. rw (nontrivial_member n r x, nontrivial_member n q x, member_set n r x, member_set n q x) (go x (trivial x) refl))
    where
      held : (x : Group) → trivial x ≡ true → not (holds n x q) && holds n x r ≡ true → ⊥
      held x e k = false≢true (sym (not-true _ (and_l (not (holds n x q)) (holds n x r) k))
          ∙ holds_trivial n q b x ((row_tree n r a).long x (and_r (not (holds n x q)) (holds n x r) k)) e)

      go : (x : Group) (t : Bool) → trivial x ≡ t → not (not t && holds n x q) && (not t && holds n x r) ≡ (not (holds n x q) && holds n x r)
      go x true e = sym (not_yes _ (held x e))
      go x false e = refl

module _ (n : ℕ) (r q : List ℕ) (a : Valid n r) (b : Valid n q) where
  -- THE LAST TWO COUNTS TOGETHER ARE THE DISTANCE of the two trees: how many of all groups, trivial or not, exactly one has (RULES 8.5)
  pub compared_distance : (x y z : ℕ) → compared n r q ≡ counted x y z → y + z ≡ distance (group_set n r) (group_set n q)
  unfolding compared
  compared_distance x y z e =
      let d : alone (nontrivial n r) (nontrivial n q) ≡ y = cc in
      let f : alone (nontrivial n q) (nontrivial n r) ≡ z = cc in
      omega (arith, alone_all n r q a b, alone_all n q r b a)

  -- both are 0 for trees with the same groups, and for no others (RULES 8.4)
  pub compared_same : ((x : ℕ) × (compared n r q ≡ counted x 0 0)) ↔ ((x : Group) → holds n x r ≡ holds n x q)
  unfolding compared
  compared_same = (to, λ e. (shared (nontrivial n r) (nontrivial n q), cc (none r q e, none q r (λ x. sym (e x)))))
    where
      to : (x : ℕ) × (counts_of (nontrivial n r) (nontrivial n q) ≡ counted x 0 0) → (x : Group) → holds n x r ≡ holds n x q
      to t x = sym (member_set n r x)
          ∙ (distance_zero (group_set n r) (group_set n q)).0 (sym (compared_distance t.0 0 0 t.1)) x ∙ member_set n q x

      none : (s t : List ℕ) → ((x : Group) → holds n x s ≡ holds n x t) → alone (nontrivial n s) (nontrivial n t) ≡ 0
      none s t e = (alone_none (nontrivial n s) (nontrivial n t)).1
          (λ x m. nontrivial_member n t x ∙ ap (λ (h : Bool). not (trivial x) && h) (sym (e x)) ∙ sym (nontrivial_member n s x) ∙ m)

-- ---- standard rows: the groups that count are those of the nodes after the root, by number

module _ (n : ℕ) (r : List ℕ) (std : Standard n r) where
  after_root : (v : ℕ) → n < v → v < nodes r → In (group_at n r v) (nontrivial n r)
  after_root v h k = (nontrivial_exactly n r std.valid (group_at n r v)).1 (
    inner_two n r std v (omega arith) k,
    omega (arith, full),
    groups-in n r v k,
  )
    where
      full : n ≤ size (group_at n r v) → ⊥
      full z = standard_distinct n r std n v (omega arith) h k (root_whole n r std ∙ sym (size_all n (group_at n r v) (length_group n r v) z))

  pub nontrivial_standard : nontrivial n r ≡ tabulate (nodes r - (n + 1)) (group_at n r) (n + 1)
  nontrivial_standard = strict_unique (nontrivial n r) (tabulate (nodes r - (n + 1)) (group_at n r) (n + 1)) (nontrivial_strict n r)
      (strict_table (nodes r - (n + 1)) (group_at n r) (n + 1) (λ v w h l i. node_before n r std v w (omega arith) l (omega arith)))
      (λ x. true_eq _ _ (to x) (from x))
    where
      not_leaf : (v : ℕ) → 1 < size (group_at n r v) → v < n → ⊥
      not_leaf v h l = omega (arith, ap size (leaf_group n r (valid_rooted n r std.valid) v l), single_small n v)

      not_root : (v : ℕ) → size (group_at n r v) < n → v ≡ n → ⊥
      not_root v h e = omega (arith, ap (λ (u : ℕ). size (group_at n r u)) e, ap size (root_whole n r std), size_whole n)

      to : (x : Group) → In x (nontrivial n r) → In x (tabulate (nodes r - (n + 1)) (group_at n r) (n + 1))
      to x m =
          let t = (nontrivial_exactly n r std.valid x).0 m in
          let g = in_groups n r x t.2 in
          let l : n + 1 ≤ g.0 = omega (arith, not_leaf g.0 (rw g.2 t.0), not_root g.0 (rw g.2 t.1)) in
          rw (← g.2) (table_in (nodes r - (n + 1)) (group_at n r) (n + 1) g.0 l (omega arith))

      from : (x : Group) → In x (tabulate (nodes r - (n + 1)) (group_at n r) (n + 1)) → In x (nontrivial n r)
      from x m = let t = in_table (nodes r - (n + 1)) (group_at n r) (n + 1) x m in rw (← t.3) (after_root t.0 (omega arith) (omega arith))

  length_nontrivial : length (nontrivial n r) ≡ nodes r - (n + 1)
  length_nontrivial = ap length nontrivial_standard ∙ length_tabulate (nodes r - (n + 1)) (group_at n r) (n + 1)

-- they are fewer by one than the inner nodes
pub nontrivial_nodes : (n : ℕ) (r : List ℕ) → Standard n r → n + 1 + length (nontrivial n r) ≡ nodes r
nontrivial_nodes n r std = omega (arith, length_nontrivial n r std, std.valid.low)

-- a valid row has at most n - 2 of them
pub nontrivial_most : (n : ℕ) (r : List ℕ) → Valid n r → length (nontrivial n r) + 2 ≤ n
nontrivial_most n r ok =
    let std = renumbered_standard n r ok in
    omega (
      arith,
      ap length (nontrivial_same n r (renumbered n r) (λ x. sym (renumbered_groups n r ok x))),
      nontrivial_nodes n (renumbered n r) std,
      std.valid.high,
    )

-- what two standard rows share is counted over the nodes after the root whose group the other row holds
pub shared_standard : (n : ℕ) (r q : List ℕ) → Standard n r → Standard n q
    → shared (nontrivial n r) (nontrivial n q) ≡ count (λ v. holds n (group_at n r v) q) (range (n + 1) (nodes r))
shared_standard n r q a b = ap (count (λ g. member g (nontrivial n q))) (nontrivial_standard n r a)
    ∙ count_tabulate (λ g. member g (nontrivial n q)) (nodes r - (n + 1)) (group_at n r) (n + 1)
    ∙ count_same _ _ (range (n + 1) (nodes r)) (λ v m. let i = in-range (n + 1) (nodes r) v m in held v (omega arith) i.1)
  where
    held : (v : ℕ) → n < v → v < nodes r → member (group_at n r v) (nontrivial n q) ≡ holds n (group_at n r v) q
    held v h k = nontrivial_member n q (group_at n r v) ∙ ap (λ (t : Bool). t && holds n (group_at n r v) q) (and_l (not (trivial (group_at n r v))) _
        (sym (nontrivial_member n r (group_at n r v)) ∙ after_root n r a v h k))
