-- `judge::parents` answers check 6: the nodes passed have no wrong parent, so those that are left decide. Assumes nothing.
use mathlib.Core.Path.{refl, sym, ◌∙◌}
use native.Mathlib.Omega.{arith}
use Rattle.trees.proofs.ScanLaws.{scan_start, scan_pass, scan_hit, scan_end}
use Rattle.judge.proofs.parents.Goals as goal

pub loop-v-init : goal.loop-v-init
loop-v-init c = scan_start refl

pub returns-then-stray : goal.returns-then-stray
returns-then-stray c = rw c.new.ensures (scan_hit c.loop-v.invariant 6 (omega arith)
    (rw (← c.nodes-m.ensures, ← c.parent-p.ensures) (sym c.stray.ensures ∙ c.if-stray.true)))

pub loop-v-preserved : goal.loop-v-preserved
loop-v-preserved c =
    scan_pass c.loop-v.invariant (omega arith)
    (rw (← c.nodes-m.ensures, ← c.parent-p.ensures) (sym c.stray.ensures ∙ c.if-stray.false))

pub returns : goal.returns
returns c = scan_end c.loop-v.invariant 6 (omega arith)
