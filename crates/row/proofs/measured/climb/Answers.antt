-- `row::measured::climb` follows the parents: with the rest of the way each node of the whole way takes the sample in. Assumes nothing.
use Prim.Native.Nat.{◌<◌}
use mathlib.Core.Logic.{⊎_elim}
use native.Mathlib.Omega.{arith}
use Rattle.trees.specs.Rows.{nodes}
use Rattle.judge.proofs.KnownRows.{known_valid}
use Rattle.trees.proofs.MeasuringLaws.{steps_fall, climbing_step, climbing_room, climbing_end}
use Rattle.row.proofs.measured.climb.Goals.{In-loop-at}
use Rattle.row.proofs.measured.climb.Goals as goal

-- in a turn `at` is a node
node : (c : In-loop-at) → c.loop-at.at < nodes c.args.tree.row.now
node c = ⊎_elim (λ e. absurd (c.loop-at-test.true e)) (λ h. h) c.loop-at.invariant.at_node

pub take_in-requires : goal.take_in-requires
take_in-requires c =
    let ok = known_valid _ _ c.args.tree.valid in
    let on = c.loop-at.invariant in
    let few = climbing_room _ _ ok _ _ _ _ _ _ on c.requires.1 (node (goal.at.take_in-requires c).In-loop-at) in
    (omega (arith, node (goal.at.take_in-requires c).In-loop-at, ok.high, ok.most), omega (arith, few, ok.most))

pub loop-at-smaller : goal.loop-at-smaller
loop-at-smaller c =
    rw c.parent-p.ensures (steps_fall _ _ (known_valid _ _ c.args.tree.valid) _ (node (goal.at.loop-at-smaller c).In-loop-at))

pub loop-at-preserved : goal.loop-at-preserved
loop-at-preserved c =
    let next = climbing_step _ _ (known_valid _ _ c.args.tree.valid) _ _ _ _ _ _ c.loop-at.invariant (node (goal.at.loop-at-preserved c).In-loop-at) in
    rw (c.parent-p.ensures, c.take_in.ensures.sized, c.take_in.ensures.lowest) next

pub returns : goal.returns
returns c =
    let ok = known_valid _ _ c.args.tree.valid in
    climbing_end _ _ ok _ _ _ _ _ _ c.loop-at.invariant c.requires.1 c.requires.0 c.loop-at-test.false
