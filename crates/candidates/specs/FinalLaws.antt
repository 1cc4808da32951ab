-- What an exact count leaves of a row that has every group which the rule passes is the agreed row. Assumes nothing.
use Rattle.std.specs.Prelude.{ℕ, ◌≤◌, ◌<◌, ◌≡◌, List, Bool}
use Rattle.std.proofs.Common.{sym, ◌∙◌, subst, ⊎_elim, arith, leb-true, le-leb}
use Rattle.std.proofs.Math.Path.{ap}
use Rattle.std.proofs.Math.Bool.{true}
use Rattle.std.proofs.Math.Dec.{leb}
use Rattle.trees.specs.Groups.{Group, whole, size, member}
use Rattle.trees.specs.Rows.{nodes, group_at, inner}
use Rattle.trees.specs.Valid.{In, Standard}
use Rattle.trees.specs.Numbering.{row_of, branching}
use Rattle.trees.specs.Tables.{Tabled, entry}
use Rattle.trees.specs.Merging.{flagged, kept, merged, Mergeable}
use Rattle.trees.specs.Reporting.{Run, Rule, support, held, shown, agreed}
use Rattle.trees.proofs.BoolLaws.{and_l, and_r, and_both, or_l, true_eq}
use Rattle.trees.proofs.MemberLaws.{member_filter, strict_filter, strict_unique}
use Rattle.trees.proofs.RowLaws.{in_inner, inner_in, inner_two, group_agree}
use Rattle.trees.proofs.StandardLaws.{root_whole}
use Rattle.trees.proofs.NodeLaws.{node_distinct}
use Rattle.trees.proofs.NumberingLaws.{row_tree}
use Rattle.trees.proofs.ReportingLaws.{Runs, Holder, Sound, in_held, shown_member, shown_strict}
use Rattle.trees.proofs.MergingLaws.{in_kept, kept_in, merged_family, merged_cases, merged_first, merged_standard, merged_exactly}
use Rattle.count.specs.Holders.{holders_at}
use Rattle.merge.specs.Settling.{Settled}
use Rattle.merge.specs.Carrying.{Carried}

-- a row q that has every group of two samples or more which the rule passes, and flags that say which of its groups pass
module _ (rule : Rule) (n : ℕ) (rs : List Run) (ok : Runs n rs) (sound : Sound rule n rs)
    (holder : (g : Group) → rule n rs g ≡ true → Holder n g rs) (q : List ℕ) (std : Standard n q)
    (all : (g : Group) → 2 ≤ size g → rule n rs g ≡ true → In g (inner n q)) (keep : List Bool)
    (marked : (v : ℕ) → n ≤ v → v < nodes q → flagged keep v ≡ rule n rs (group_at n q v)) where
  kept_passes : (x : Group) → In x (kept n q keep) → (rule n rs x ≡ true) × (2 ≤ size x)
  kept_passes x m = let v = in_kept n q keep n x m in (
    ap (rule n rs) (sym v.4) ∙ sym (marked v.0 v.1 v.2) ∙ v.3,
    rw (← v.4) (inner_two n q std v.0 v.1 v.2),
  )

  passes_kept : (x : Group) → rule n rs x ≡ true → 2 ≤ size x → In x (kept n q keep)
  passes_kept x e z = let v = in_inner n q x (all x z e) in
      rw (← v.3) (kept_in n q keep n v.0 v.1 v.2 (marked v.0 v.1 v.2 ∙ ap (rule n rs) v.3 ∙ e))

  pub final_mergeable : Mergeable n q keep q keep
  final_mergeable = record {
    first = std;
    second = std;
    agree = λ g h m o. let v = in_kept n q keep n g m in let u = in_kept n q keep n h o in
        rw (← v.4, ← u.4) (group_agree n q std.valid v.0 u.0);
    top = or_l (flagged keep n) (flagged keep n) (marked n (omega arith) std.valid.low
        ∙ ap (rule n rs) (root_whole n q std)
        ∙ sound.unanimous (whole n) (λ run m. (row_tree n run.row (ok run m)).top));
  }

  -- THE ROW that is left is the agreed row
  pub final_row : row_of n (merged n q keep q keep) ≡ agreed rule n rs
  unfolding agreed
  final_row = ap (row_of n) (strict_unique (merged n q keep q keep) (branching (shown rule n rs)) (merged_family final_mergeable).strict
      (strict_filter (λ g. leb 2 (size g)) (shown rule n rs) (shown_strict rule n rs)) (λ x. true_eq _ _ (to x) (from x)))
    where
      in_shown : (x : Group) → rule n rs x ≡ true → In x (shown rule n rs)
      in_shown x e = shown_member rule n rs x ∙ and_both (rule n rs x) (member x (held n rs)) e (in_held n rs x (holder x e))

      put : (x : Group) → In x (kept n q keep) → In x (branching (shown rule n rs))
      put x m = let p = kept_passes x m in member_filter x (λ g. leb 2 (size g)) (shown rule n rs)
          ∙ and_both (leb 2 (size x)) (member x (shown rule n rs)) (le-leb 2 (size x) p.1) (in_shown x p.0)

      to : (x : Group) → In x (merged n q keep q keep) → In x (branching (shown rule n rs))
      to x m = ⊎_elim (put x) (put x) (merged_cases n q keep q keep x m)

      from : (x : Group) → In x (branching (shown rule n rs)) → In x (merged n q keep q keep)
      from x m =
          let e = sym (member_filter x (λ g. leb 2 (size g)) (shown rule n rs)) ∙ m in
          let p = and_r (leb 2 (size x)) (member x (shown rule n rs)) e in
          merged_first n q keep q keep x (passes_kept x (and_l (rule n rs x) (member x (held n rs)) (sym (shown_member rule n rs x) ∙ p))
          (leb-true 2 (size x) (and_l (leb 2 (size x)) _ e)))

  -- and the counts that the kept candidates hand on are the holders of its groups
  pub final_holders : (num counts fill t' : List ℕ) → Settled n q keep num (row_of n (merged n q keep q keep))
      → Tabled (holders_at n rs q) n (nodes q) counts → Carried n keep num counts fill (nodes q) t'
      → Tabled (holders_at n rs (row_of n (merged n q keep q keep))) n (nodes (row_of n (merged n q keep q keep))) t'
  final_holders num counts fill t' moves exact handed = record { is = λ x a h. go x h (source x a h) }
    where
      out : List ℕ
      out = row_of n (merged n q keep q keep)

      source : (x : ℕ) → n ≤ x → x < nodes out → In (group_at n out x) (kept n q keep)
      source x a h = ⊎_elim (λ m. m) (λ m. m) ((merged_exactly final_mergeable (group_at n out x)).0 (inner_in n out x a h))

      go : (x : ℕ) → x < nodes out → In (group_at n out x) (kept n q keep) → entry t' x ≡ holders_at n rs out x
      go x h m =
          let v = in_kept n q keep n (group_at n out x) m in
          let e : entry num v.0 ≡ x = node_distinct n out (merged_standard final_mergeable) (entry num v.0) x
          (moves.high v.0 v.1 v.2 v.3) h (moves.same v.0 v.1 v.2 v.3 ∙ v.4) in
          subst (λ (y : ℕ). entry t' y ≡ holders_at n rs out x) e
          (handed.given v.0 v.1 v.2 v.3 ∙ exact.is v.0 v.1 v.2 ∙ ap (support n rs) v.4)
