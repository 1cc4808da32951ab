-- `quick::branching::branching_counted` answers check 10: the inner nodes passed have a child, so those that are left decide. Assumes nothing.
use Prim.Native.Nat.{zero-le}
use mathlib.Core.Path.{refl, ◌∙◌}
use native.Mathlib.Omega.{arith}
use borrow.Author.Tests.{lt-ltb, le-ltb}
use Rattle.trees.proofs.ScanLaws.{scan_start, scan_pass, scan_hit, scan_end}
use Rattle.quick.proofs.branching.branching_counted.Goals as goal

pub loop-v-init : goal.loop-v-init
loop-v-init c = scan_start refl

pub returns-then-from-lt-FEWEST_CHILDREN : goal.returns-then-from-lt-FEWEST_CHILDREN
returns-then-from-lt-FEWEST_CHILDREN c =
    let l = c.loop-v in
    let d = c.requires in
    rw c.new.ensures (scan_hit l.invariant 10 (omega arith) (rw (c.from.ensures ∙ d.is l.v zero-le (omega arith)) at (lt-ltb _ _ c.if-from-lt-FEWEST_CHILDREN.true)))

pub loop-v-preserved : goal.loop-v-preserved
loop-v-preserved c =
    let l = c.loop-v in
    let d = c.requires in
    scan_pass l.invariant (omega arith) (rw (c.from.ensures ∙ d.is l.v zero-le (omega arith)) at (le-ltb _ _ c.if-from-lt-FEWEST_CHILDREN.false))

pub returns : goal.returns
returns c = scan_end c.loop-v.invariant 10 (omega arith)
