-- `judge::branching` answers check 10: the inner nodes passed have a child, so those that are left decide. Assumes nothing.
use mathlib.Core.Path.{refl}
use native.Mathlib.Omega.{arith}
use borrow.Author.Tests.{lt-ltb, le-ltb}
use Rattle.trees.proofs.ScanLaws.{scan_start, scan_pass, scan_hit, scan_end}
use Rattle.judge.proofs.branching.Goals as goal

pub loop-v-init : goal.loop-v-init
loop-v-init c = scan_start refl

pub returns-then-children-lt-FEWEST_CHILDREN : goal.returns-then-children-lt-FEWEST_CHILDREN
returns-then-children-lt-FEWEST_CHILDREN c = rw c.new.ensures (scan_hit c.loop-v.invariant 10 (omega arith) (rw c.children.ensures at (lt-ltb _ _ c.if-children-lt-FEWEST_CHILDREN.true)))

pub loop-v-preserved : goal.loop-v-preserved
loop-v-preserved c = scan_pass c.loop-v.invariant (omega arith) (rw c.children.ensures at (le-ltb _ _ c.if-children-lt-FEWEST_CHILDREN.false))

pub returns : goal.returns
returns c = scan_end c.loop-v.invariant 10 (omega arith)
