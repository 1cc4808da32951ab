-- `judge::climbing` answers check 9: the ways up from the nodes passed end, so the nodes that are left decide. Assumes nothing.
use mathlib.Core.Path.{refl, ap}
use mathlib.Core.Bool.{not}
use native.Mathlib.Omega.{arith}
use Rattle.trees.proofs.ScanLaws.{scan_start, scan_pass, scan_hit, scan_end}
use Rattle.judge.proofs.climbing.Goals as goal

pub loop-start-init : goal.loop-start-init
loop-start-init c = scan_start refl

pub returns-then-not-ends : goal.returns-then-not-ends
returns-then-not-ends c n = rw c.new.ensures (scan_hit c.loop-start.invariant 9 (omega arith) (rw (← c.ends.ensures) (ap not c.if-not-ends.true)))

pub loop-start-preserved : goal.loop-start-preserved
loop-start-preserved c = scan_pass c.loop-start.invariant (omega arith) (rw (← c.ends.ensures) (ap not c.if-not-ends.false))

pub returns : goal.returns
returns c n = scan_end c.loop-start.invariant 9 (omega arith)
