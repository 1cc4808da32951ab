-- `merge::carrying::carry` carries node by node. Assumes nothing.
use Rattle.merge.specs.Carrying.{Carried}
use Rattle.merge.proofs.carrying.carry.Given as goal

abbrev pub invariant-loop-v : goal.invariant-loop-v
invariant-loop-v l = Carried l.n l.keep l.num l.from l.initial.to l.v l.to
