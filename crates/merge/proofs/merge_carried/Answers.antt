-- `merge::merge_carried` merges, and carries the table along. Assumes nothing.
use native.Mathlib.Omega.{arith}
use Rattle.trees.proofs.FallsLaws.{standard_falls, few}
use Rattle.trees.proofs.MergingLaws.{merged_standard}
use Rattle.merge.specs.CarryingLaws.{settled_apart}
use Rattle.merge.proofs.merge_carried.Goals as goal

pub carry-requires : goal.carry-requires
carry-requires c =
    let q = c.requires.0.agree.first in
    let moves = rw c.merge_ranked.ensures.0 at c.merge_ranked.ensures.1 in (
      omega (arith, c.nodes.ensures, few _ _ (standard_falls _ _ q)),
      omega (arith, c.nodes.ensures, q.valid.low),
      rw c.nodes.ensures (settled_apart q (merged_standard c.requires.0.agree) moves),
    )

pub returns : goal.returns
returns c =
    record {
      row = c.merge_ranked.ensures.0;
      num = _;
      settled = c.merge_ranked.ensures.1;
      carried = rw c.nodes.ensures at c.carry.ensures;
    }
