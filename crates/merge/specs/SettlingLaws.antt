-- Where kept nodes have come: their raised numbers say it, and nowhere else in a standard row. Assumes nothing.
use Rattle.std.specs.Prelude.{ℕ, ◌≤◌, ◌<◌, ◌≡◌, List, Bool, true}
use Rattle.std.proofs.Common.{sym, ◌∙◌}
use Rattle.trees.specs.Rows.{nodes, group_at}
use Rattle.trees.specs.Valid.{Standard}
use Rattle.trees.specs.Numbering.{row_of}
use Rattle.trees.specs.Tables.{entry}
use Rattle.trees.specs.Merging.{flagged, merged, Mergeable}
use Rattle.trees.specs.Lockstep.{Numbered}
use Rattle.trees.specs.Climbing.{Raised}
use Rattle.trees.proofs.NodeLaws.{node_distinct}
use Rattle.trees.proofs.MergedRowLaws.{merged_place}
use Rattle.merge.specs.Settling.{Settled}

-- the raised numbers of the first row settle its kept nodes in the merged row
pub merged_settled : {n : ℕ} {a b : List ℕ} {keep_a keep_b : List Bool} {num_a num_b mins up : List ℕ} {c : ℕ}
    → Mergeable n a keep_a b keep_b → Numbered n a keep_a b keep_b num_a num_b mins c → Raised n a num_a up
    → Settled n a keep_a up (row_of n (merged n a keep_a b keep_b))
merged_settled ok is raised = record {
  low = λ v l h e. (merged_place ok is raised v l h e).0;
  high = λ v l h e. (merged_place ok is raised v l h e).1;
  same = λ v l h e. (merged_place ok is raised v l h e).2;
}

-- a node of a standard row that has the group of a kept node is where that node has come
pub settled_at : {n : ℕ} {a : List ℕ} {keep : List Bool} {num out : List ℕ} → Standard n out → Settled n a keep num out
    → (v x : ℕ) → n ≤ v → v < nodes a → flagged keep v ≡ true → x < nodes out → group_at n out x ≡ group_at n a v
    → entry num v ≡ x
settled_at {n} {a} {keep} {num} {out} std s v x l h e k g =
    node_distinct n out std (entry num v) x (s.high v l h e) k (s.same v l h e ∙ sym g)
