-- Marks at nodes that are known to come to the root.
use Rattle.std.specs.Prelude.{ℕ, ◌<◌, ◌≡◌, List, Bool, true, false, not, length, get_or}
use Rattle.trees.specs.Lists.{range, count}
use Rattle.trees.specs.Rows.{nodes, ends}
use Rattle.trees.specs.Tables.{table_words}
use Rattle.trees.proofs.ScanLaws.{ScanLeft}

-- from each node that is marked the way up comes to the root
pub record Marked (r : List ℕ) (marks : List Bool) : Type 0 where
  pub words : length marks ≡ table_words
  pub known : (v : ℕ) → v < nodes r → get_or marks v false ≡ true → ends (nodes r) r v ≡ true

-- a climb from v has come to `at`, whose way up ends exactly if v's does: in the steps left, and at all
pub record Climbed (r : List ℕ) (v left at : ℕ) : Type 0 where
  pub node : at < nodes r
  pub within : ends left r at ≡ ends (nodes r) r v
  pub ever : ends (nodes r) r at ≡ ends (nodes r) r v

-- a way up that comes to the root is marked as far as `at`
pub record MarkedTo (r : List ℕ) (at : ℕ) (marks : List Bool) : Type 0 where
  pub node : at < nodes r
  pub comes : ends (nodes r) r at ≡ true
  pub marked : Marked r marks

-- no node before v is lost, and the marks are right
pub record ClimbedFrom (r : List ℕ) (v : ℕ) (marks : List Bool) : Type 0 where
  pub marked : Marked r marks
  pub rest : ScanLeft (λ u. not (ends (nodes r) r u)) 0 (nodes r) v

-- how many nodes are not marked
abbrev pub unmarked : List ℕ → List Bool → ℕ
unmarked r marks = count (λ v. not (get_or marks v false)) (range 0 (nodes r))
