-- `judge::filler` answers check 8: the filler passed is 0, so the words that are left decide. Assumes nothing.
use native.Mathlib.Omega.{arith}
use borrow.Author.Tests.{eq-eqb, ne_eqb}
use Rattle.trees.proofs.ScanLaws.{scan_start, scan_pass, scan_hit, scan_end}
use Rattle.judge.proofs.filler.Goals as goal

pub loop-w-init : goal.loop-w-init
loop-w-init c = scan_start (omega arith)

pub returns-then-row-w-ne0 : goal.returns-then-row-w-ne0
returns-then-row-w-ne0 c = rw c.new.ensures (scan_hit c.loop-w.invariant 8 (omega arith) (rw (ne_eqb _ _ c.if-row-w-ne0.true)))

pub loop-w-preserved : goal.loop-w-preserved
loop-w-preserved c = scan_pass c.loop-w.invariant (omega arith) (rw (eq-eqb _ _ c.if-row-w-ne0.false))

pub returns : goal.returns
returns c = scan_end c.loop-w.invariant 8 (omega arith)
