-- `passes::pass::least` meets its contract: after i steps the table is that stage of the pass. Assumes nothing.
use Rattle.passes.proofs.Loops.{passing_step, seeded_front}
use Rattle.trees.specs.Rows.{root_mark}
use Rattle.trees.specs.Tables.{entry}
use Rattle.trees.proofs.PassLaws.{stage_start, stage_end}
use Rattle.trees.proofs.TableLaws.{mins}
use Rattle.std.proofs.Common.{rules}
use native.Mathlib.Omega.{arith}
use Prim.Native.Nat.{min}
use Rattle.passes.proofs.pass.least.Goals as goal

pub loop-i-init : goal.loop-i-init
loop-i-init c =
    stage_start c.args.row.n c.args.row.row.now c.args.row.falls min root_mark (entry c.args.key.now) _
    (λ s h. let k = c.requires.low s h in omega (arith, c.args.row.falls.most))
    (seeded_front c.args.row.n c.nodes-m.result _ root_mark (entry c.args.key.now) _ _ c.nodes-m.ensures (omega (arith, c.args.row.falls.most)) c.keys.ensures (search rules))

pub loop-i-preserved : goal.loop-i-preserved
loop-i-preserved c =
    passing_step c.args.row.n c.args.row.row.now c.args.row.falls min root_mark mins (entry c.args.key.now) c.loop-i.i c.loop-i.out _ _ _ (omega arith)
    c.step-t.ensures (omega arith) (rw c.min.ensures) c.loop-i.invariant

pub returns : goal.returns
returns c =
    stage_end c.args.row.n c.args.row.row.now c.args.row.falls min root_mark (entry c.args.key.now) c.loop-i.i c.loop-i.out (omega arith) c.loop-i.invariant
