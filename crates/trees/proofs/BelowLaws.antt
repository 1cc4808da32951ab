-- The nodes at or below a node of a standard row are found by one pass over rising numbers: each is one if its parent is. Assumes nothing.
use Rattle.std.specs.Prelude.{ℕ, ◌≤◌, ◌<◌, ◌≡◌, List, false}
use Rattle.std.proofs.Common.{◌∙◌, ⊎_elim, arith}
use Rattle.trees.specs.Groups.{has}
use Rattle.trees.specs.Rows.{nodes, parent, meets, group_at}
use Rattle.trees.specs.Valid.{Standard}
use Rattle.trees.specs.Rooted.{Rooted}
use Rattle.trees.proofs.BoolLaws.{not_yes}
use Rattle.trees.proofs.RowLaws.{has_group, no_mark, above_parent, valid_rooted}
use Rattle.trees.proofs.StandardLaws.{not_up, parent_below}

module _ (n : ℕ) (r : List ℕ) (std : Standard n r) where
  up : Rooted n r
  up = valid_rooted n r std.valid

  pub above_low : (v u : ℕ) → n ≤ u → u < v → v < nodes r → meets (nodes r) r v u ≡ false
  above_low v u a h k = not_yes _ (not_up n r std u v a h k)

  -- an inner node past v, or a sample, is at or below v exactly if its parent is
  pub above_later : (v u : ℕ) → n ≤ v → v < u → u < nodes r → (n ≤ parent r u) × (parent r u < u) × (meets (nodes r) r v u ≡ meets (nodes r) r v (parent r u))
  above_later v u a h k =
      ⊎_elim (λ t. absurd (omega (arith, t.0)))
      (λ t. (t.1, t.2, above_parent n r up v u k t.0 (λ q. omega arith)))
      (parent_below n r std u (omega arith) k)

  pub has_sample : (v s : ℕ) → n ≤ v → s < n → has (group_at n r v) s ≡ meets (nodes r) r v (parent r s)
  has_sample v s a h =
      let p = std.valid.leaf s h in
      has_group n r v s h ∙ above_parent n r up v s (omega (arith, std.valid.low)) (no_mark n r up (parent r s) p.1) (λ q. omega arith)
