-- `passes::turns::step` meets its contract: a node of a step and its parent are nodes. Assumes nothing.
use Rattle.trees.proofs.FallsLaws.{few}
use Rattle.trees.proofs.PassLaws.{stepped}
use native.Mathlib.Omega.{arith}
use mathlib.Core.Path.{refl}
use Rattle.passes.proofs.turns.step.Goals as goal

pub turn-v-requires : goal.turn-v-requires
turn-v-requires c = (omega (arith, c.args.row.falls.low), omega (arith, few _ _ c.args.row.falls), omega arith)

pub parent-p-requires : goal.parent-p-requires
parent-p-requires c =
    omega (
      arith,
      (stepped c.args.row.n c.args.row.row.now c.args.row.falls c.args.i c.turn-v.result _ (omega arith)
          (rw (← c.requires.0) c.turn-v.ensures) refl).low,
      c.args.row.falls.high,
      c.args.row.falls.words,
    )

pub returns : goal.returns
returns c =
    stepped c.args.row.n c.args.row.row.now c.args.row.falls c.args.i c.turn-v.result c.parent-p.result (omega arith)
    (rw (← c.requires.0) c.turn-v.ensures) c.parent-p.ensures
