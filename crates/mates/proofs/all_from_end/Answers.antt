-- `mates::all_from_end` meets its contract: the table is filled up to s. Assumes nothing.
use native.Mathlib.Omega.{arith}
use Rattle.trees.specs.Mates.{from_end}
use Rattle.trees.specs.Tables.{entry}
use Rattle.trees.proofs.TableLaws.{tabled_more, tabled_none}
use Rattle.mates.proofs.all_from_end.Goals as goal

pub loop-s-init : goal.loop-s-init
loop-s-init c = tabled_none _ _ _

pub from_end-requires : goal.from_end-requires
from_end-requires c = (omega arith, c.requires.1.low c.loop-s.s (omega arith))

pub loop-s-preserved : goal.loop-s-preserved
loop-s-preserved c =
    tabled_more (from_end c.args.n (entry c.args.start.now)) 0 c.loop-s.s _ c.loop-s.t c.loop-s.invariant (omega arith) c.from_end.ensures
