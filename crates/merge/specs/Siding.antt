-- Two sides that can be merged: what is kept of them agrees, and their rows have the same samples.
use Rattle.std.specs.Prelude.{◌≡◌}
use Rattle.trees.specs.Merging.{Mergeable}
use Rattle.merge.specs.declared.side.Side.{Side}

pub record Sided (a b : Side) : Type 0 where
  pub agree : Mergeable a.row.n a.row.row.now a.keep.now b.row.row.now b.keep.now
  pub same : b.row.n ≡ a.row.n
