-- `passes::pass::starts` meets its contract: the root and the nodes of the steps from i on are laid. Assumes nothing.
use Rattle.passes.proofs.Loops.{laying_start, laying_room, laying_step, laying_end}
use Rattle.trees.specs.Passes.{offset_at}
use Rattle.trees.specs.Rows.{nodes}
use lib.ListN.{get_or}
use lib.Seq.{get_or-set_same}
use native.Mathlib.Omega.{arith}
use mathlib.Core.Path.{◌≡◌, refl}
use Prim.Native.Nat.{suc, ◌-◌, ◌<◌}
use Rattle.passes.proofs.pass.starts.Goals.{After-step-t}
use Rattle.passes.proofs.pass.starts.Goals as goal

-- the step before i, with the offset of its node
module _ (c : After-step-t) where
  before : c.loop-i.i ≡ suc (c.loop-i.i - 1)
  before = omega arith

  below : suc (c.loop-i.i - 1) < nodes c.args.row.row.now
  below = omega (arith, c.args.row.falls.low)

  offset : get_or c.args.off.now c.step-t.result.node 0 ≡ offset_at c.args.row.n c.args.row.row.now (c.loop-i.i - 1)
  offset = rw c.step-t.ensures.is (c.requires.at (c.loop-i.i - 1) (omega (arith, below)))

pub loop-i-init : goal.loop-i-init
loop-i-init c =
    rw c.nodes-m.ensures (laying_start c.args.row.n c.args.row.row.now c.args.row.falls _ (get_or-set_same c.args.start.now c.args.row.n 0 0 (omega (arith, c.args.row.falls.most))))

pub overflow_add-start : goal.overflow_add-start
overflow_add-start c =
    let s = (goal.at.overflow_add-start c).After-step-t in
    let k = laying_room c.args.row.n c.args.row.row.now c.args.row.falls (c.loop-i.i - 1) c.loop-i.start _ _ _ (below s) c.step-t.ensures (offset s)
    (rw (before s) at c.loop-i.invariant) in
    omega (arith, c.args.row.falls.most)

pub loop-i-preserved : goal.loop-i-preserved
loop-i-preserved c =
    let s = (goal.at.loop-i-preserved c).After-step-t in
    laying_step c.args.row.n c.args.row.row.now c.args.row.falls (c.loop-i.i - 1) c.loop-i.start _ _ _ (below s) c.step-t.ensures (offset s)
    (rw (before s) at c.loop-i.invariant) _ (omega arith) refl

pub returns : goal.returns
returns c =
    let e : c.loop-i.i ≡ 0 = omega arith in
    laying_end c.args.row.n c.args.row.row.now c.loop-i.start (rw e at c.loop-i.invariant)
