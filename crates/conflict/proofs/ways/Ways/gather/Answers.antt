-- `conflict::ways::Ways::gather` is the pass that joins. Assumes nothing.
use Rattle.std.proofs.Common.{add-one, arith}
use Rattle.passes.proofs.StandardRows.{standard_over}
use Rattle.trees.proofs.FallsLaws.{standard_falls, few}
use Rattle.trees.proofs.StandardLaws.{standard_to}
use Rattle.conflict.specs.GatherLaws.{gathered_start, next_nodes, gathered_step, gathered_end}
use Rattle.conflict.proofs.ways.Ways.gather.Goals as goal

pub seed-requires : goal.seed-requires
seed-requires c =
    omega (arith, c.nodes-m.ensures, few _ _ (standard_falls _ _ (standard_to _ _ c.args.reference.standard)))

pub loop-i-init : goal.loop-i-init
loop-i-init c = (
  omega arith,
  gathered_start _ _ _ (standard_over c.args.reference.standard c.requires) (standard_to _ _ c.args.self.now.row.standard) _ _ _
      (rw c.nodes-m.ensures at c.seed.ensures),
)

pub hand-requires : goal.hand-requires
hand-requires c =
    let q = standard_over c.args.reference.standard c.requires in
    let x = rw (c.falling-falling.ensures.samples, c.falling-falling.ensures.row, c.requires) at c.step-t.ensures in
    let f = few _ _ (standard_falls _ _ q) in
    let k = next_nodes _ _ _ q (standard_to _ _ c.args.self.now.row.standard) _ _ _ _ _ _ (omega (arith, c.nodes-m.ensures)) x c.loop-i.invariant.1 in
    (omega (arith, x.low, f), omega (arith, x.top, f), k.0, k.1, k.2)

pub loop-i-preserved : goal.loop-i-preserved
loop-i-preserved c =
    let x = rw (c.falling-falling.ensures.samples, c.falling-falling.ensures.row, c.requires) at c.step-t.ensures in
    let i = c.loop-i.invariant in (
      omega arith,
      rw (add-one c.loop-i.i)
          (gathered_step _ _ _ (standard_over c.args.reference.standard c.requires) (standard_to _ _ c.args.self.now.row.standard) _ _ c.loop-i.i _ _ _ _ i.0
          (omega (arith, c.nodes-m.ensures)) x i.1 c.hand.ensures),
    )

pub returns : goal.returns
returns c =
    gathered_end _ _ _ (standard_over c.args.reference.standard c.requires) (standard_to _ _ c.args.self.now.row.standard) _ _ c.loop-i.i _
    (omega (arith, c.nodes-m.ensures)) c.loop-i.invariant.1
