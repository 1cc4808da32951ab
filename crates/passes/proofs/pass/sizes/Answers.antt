-- `passes::pass::sizes` meets its contract: after `done` steps the table is that stage of the pass. Assumes nothing.
use Rattle.passes.proofs.Loops.{seeded_ones, adding_room, adding_step, adding_end}
use Rattle.trees.proofs.PassLaws.{stage_start}
use Rattle.trees.specs.Rows.{nodes}
use Rattle.trees.specs.Tables.{one}
use Rattle.std.proofs.Common.{rules}
use native.Mathlib.Omega.{arith}
use Prim.Native.Nat.{◌+◌, ◌-◌}
use mathlib.Core.Path.{◌≡◌, refl}
use Rattle.passes.proofs.pass.sizes.Goals as goal

pub loop-done-init : goal.loop-done-init
loop-done-init c = record {
  sums = stage_start c.args.row.n c.args.row.row.now c.args.row.falls ◌+◌ 0 one _ (λ s h. refl)
      (seeded_ones c.args.row.n c.nodes-m.result _ _ _ c.nodes-m.ensures c.fill.new.self (search rules) (search rules));
  offs = record { at = λ i a. absurd (omega arith) };
}

pub overflow_add-size : goal.overflow_add-size
overflow_add-size c =
    let b = adding_room c.args.row.n c.args.row.row.now c.args.row.falls c.loop-done.done c.loop-done.size c.loop-done.off _ _ (omega arith) c.step-t.ensures c.loop-done.invariant in
    omega (arith, b.1, c.args.row.falls.most)

pub loop-done-preserved : goal.loop-done-preserved
loop-done-preserved c =
    adding_step c.args.row.n c.args.row.row.now c.args.row.falls c.loop-done.done c.loop-done.size c.loop-done.off _ _ _ _ (omega arith) c.step-t.ensures
    (omega arith) (omega arith) refl refl c.loop-done.invariant

pub returns : goal.returns
returns c =
    let e : c.loop-done.done ≡ nodes c.args.row.row.now - 1 = omega arith in
    adding_end c.args.row.n c.args.row.row.now c.args.row.falls c.loop-done.size c.loop-done.off (rw e at c.loop-done.invariant)
