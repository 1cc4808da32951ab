-- `judge::children` counts the children: those found, and those among the nodes that are left, are all of them. Assumes nothing.
use Prim.Native.Nat.{◌<◌}
use mathlib.Core.Path.{sym, ◌∙◌}
use native.Mathlib.Omega.{arith}
use borrow.Author.Tests.{eq-eqb, ne_eqb}
use Rattle.trees.specs.Rows.{nodes}
use Rattle.trees.proofs.ScanLaws.{count_start, count_yes, count_no, count_end}
use Rattle.judge.proofs.children.Goals.{then-parent-p, else-parent-p}
use Rattle.judge.proofs.children.Goals as goal

pub loop-u-init : goal.loop-u-init
loop-u-init c = count_start _ _ _

pub loop-u-preserved : goal.loop-u-preserved
loop-u-preserved c =
    let l = c.loop-u in
    let h : l.u < nodes c.args.row.now = omega arith in
    let p = c.parent.ensures in
    elim c.if-parent-p.branch [
      | then-parent-p w ↦ rw w.found-is (count_yes l.invariant h (eq-eqb _ _ (sym p ∙ w.if-parent-p.true)))
      | else-parent-p w ↦ rw w.found-is (count_no l.invariant h (ne_eqb _ _ (λ q. w.if-parent-p.false (p ∙ q))))
    ]

pub returns : goal.returns
returns c = count_end c.loop-u.invariant (omega arith)
