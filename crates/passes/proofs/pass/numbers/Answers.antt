-- `passes::pass::numbers` meets its contract: the table is filled up to s. Assumes nothing.
use native.Mathlib.Omega.{arith}
use mathlib.Core.Path.{refl}
use Rattle.trees.specs.Tables.{own}
use Rattle.trees.proofs.TableLaws.{tabled_more, tabled_none}
use Rattle.passes.proofs.pass.numbers.Goals as goal

pub loop-s-init : goal.loop-s-init
loop-s-init c = tabled_none _ _ _

pub loop-s-preserved : goal.loop-s-preserved
loop-s-preserved c =
    tabled_more own 0 c.loop-s.s _ c.loop-s.key c.loop-s.invariant (omega arith) refl
