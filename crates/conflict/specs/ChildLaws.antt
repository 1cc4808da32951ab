-- Nodes of a falling row: no child is above its parent, and children of one node share no sample. Assumes nothing.
use Rattle.std.specs.Prelude.{ℕ, ◌<◌, ◌≡◌, List, true, eqb}
use Rattle.std.proofs.Common.{sym, ap, ⊎_elim, arith, eqb-true}
use Rattle.std.proofs.lemmas.Bool.{eqb-false}
use Rattle.trees.specs.Groups.{has}
use Rattle.trees.specs.Rows.{nodes, parent, group_at}
use Rattle.trees.specs.Falls.{Falls, due}
use Rattle.trees.proofs.BoolLaws.{decide}
use Rattle.trees.proofs.WayLaws.{meets_past, meets_line}
use Rattle.trees.proofs.RowLaws.{Above, group_has}
use Rattle.trees.proofs.TurnLaws.{due_one, parent_in, above_due}

module _ (n : ℕ) (r : List ℕ) (ok : Falls n r) where
  -- the parent of a node is inner, so that the node is not the root
  child-of : (u q : ℕ) → u < nodes r → parent r u ≡ q → q < nodes r → (u ≡ n → ⊥)
  child-of u q h e k z = omega (arith, ap (parent r) z, ok.root, ok.high, ok.most)

  -- no child is above its parent
  pub not_above : (u q : ℕ) → u < nodes r → parent r u ≡ q → q < nodes r → Above r u q → ⊥
  not_above u q h e k m = omega (arith, above_due n r ok (nodes r) u q m k, (parent_in n r ok u h (child-of u q h e k)).2, ap (due n r) e)

  -- two nodes each above the other are one
  pub above_both : (u v : ℕ) → u < nodes r → v < nodes r → Above r u v → Above r v u → u ≡ v
  above_both u v h k a b = due_one n r ok u v h k (omega (arith, above_due n r ok (nodes r) u v a k, above_due n r ok (nodes r) v u b h))

  -- children of one node that share a sample are one
  pub one_child : (u v q s : ℕ) → u < nodes r → v < nodes r → parent r u ≡ q → parent r v ≡ q → q < nodes r → has (group_at n r u) s ≡ true
      → has (group_at n r v) s ≡ true → u ≡ v
  one_child u v q s h k a b l x y = ⊎_elim (eqb-true u v)
      (λ z. absurd (⊎_elim (λ m. not_above v q k b l (rw a at (meets_past r (nodes r) v u (eqb-false u v z) m)))
      (λ m. not_above u q h a l (rw b at (meets_past r (nodes r) u v (λ i. eqb-false u v z (sym i)) m)))
      (meets_line r (nodes r) u v s (group_has n r u s x).1 (group_has n r v s y).1))) (decide (eqb u v))
