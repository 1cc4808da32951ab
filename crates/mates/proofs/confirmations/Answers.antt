-- `mates::confirmations` meets its contract: all before a have their mates, the others their candidates. Assumes nothing.
use Rattle.passes.proofs.StandardRows.{standard_over}
use Rattle.mates.proofs.Walks.{confirming_step}
use Rattle.trees.specs.Rows.{nodes}
use Rattle.trees.proofs.StandardLaws.{standard_to}
use Rattle.trees.proofs.TableLaws.{tabled_none}
use native.Mathlib.Omega.{arith}
use mathlib.Core.Path.{◌≡◌}
use Rattle.mates.proofs.confirmations.Goals as goal

pub loop-a-init : goal.loop-a-init
loop-a-init c = record { done = tabled_none _ _ _; rest = c.requires }

pub loop-a-preserved : goal.loop-a-preserved
loop-a-preserved c =
    let beside = c.args.beside.now in
    let reference = beside.chart.now.reference in
    confirming_step reference.n reference.row.now beside.row.row.now (standard_to _ _ reference.standard) (standard_over beside.row.standard beside.same)
    _ _ _ _ _ beside.spread c.loop-a.a _ c.loop-a.mate (omega arith) (omega arith) (omega arith) (rw beside.counted at c.confirm.ensures) c.loop-a.invariant

pub returns : goal.returns
returns c =
    let reference = c.args.beside.now.chart.now.reference in
    let e : c.loop-a.a ≡ nodes reference.row.now = omega (arith, (standard_to _ _ reference.standard).valid.low) in
    rw e at c.loop-a.invariant.done
