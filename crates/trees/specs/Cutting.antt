-- Single branches taken out of a row (RULES 2.5): the child of one hangs where it hung, and the nodes behind it move down by one.
use Rattle.std.specs.Prelude.{ℕ, suc, ◌-◌, ◌≤◌, ◌<◌, ◌≡◌, List, ◌∷◌, ◌++◌, cond, eqb, ltb}
use Rattle.trees.specs.Lists.{tabulate, zeros}
use Rattle.trees.specs.Rows.{nodes, parent, root_mark, child_of}
use Rattle.trees.specs.Checks.{row_words, children}

-- the number of node u once v is gone
unfoldable pub new_number : ℕ → ℕ → ℕ
new_number v u = cond (ltb v u) (u - 1) u

-- the node that has number i then
unfoldable pub old_number : ℕ → ℕ → ℕ
old_number v i = cond (ltb i v) i (suc i)

-- the parent of u, or v's where that is v (RULES 2.2)
unfoldable pub parent_past : List ℕ → ℕ → ℕ → ℕ
parent_past r v u = cond (child_of r v u) (parent r v) (parent r u)

-- the word of u: that parent under its new number, or the root's mark (RULES 2.2)
unfoldable pub cut_word : List ℕ → ℕ → ℕ → ℕ
cut_word r v u = cond (eqb (parent_past r v u) root_mark) root_mark (new_number v (parent_past r v u))

-- The row r without its inner node v, and with one word of filler more (RULES 2.1 to 2.3, 2.5).
unfoldable pub cut : ℕ → List ℕ → ℕ → List ℕ
cut n r v = (nodes r - 1) ∷ (tabulate (nodes r - 1) (λ i. cut_word r v (old_number v i)) 0 ++ zeros (row_words n - nodes r))

-- q is r with single branches taken out, one after the other
pub data Cuts (n : ℕ) : List ℕ → List ℕ → Type 0 where
  uncut : {r : List ℕ} → Cuts n r r
  then : {r q : List ℕ} (v : ℕ) → n ≤ v → v < nodes r → children r v ≡ 1 → Cuts n (cut n r v) q → Cuts n r q
