-- `row::measured::climb` follows the parents: with the rest of the way each node of the whole way takes the sample in. Assumes nothing.
use Rattle.trees.proofs.MeasuringLaws.{steps, OnClimb}
use Rattle.row.proofs.measured.climb.Given as goal

abbrev pub invariant-loop-at : goal.invariant-loop-at
invariant-loop-at l = OnClimb l.tree.row.now l.s l.at l.initial.sizes l.initial.lows l.sizes l.lows

abbrev pub decreases-loop-at : goal.decreases-loop-at
decreases-loop-at l = steps l.tree.row.now l.at
