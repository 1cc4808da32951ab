-- `quick::climbing::reaches` follows the parents: the way that is left ends exactly if the whole way does, in the steps left and at all. Assumes nothing.
use Prim.Native.Nat.{◌-◌}
use Rattle.quick.specs.Marking.{Climbed}
use Rattle.quick.proofs.climbing.reaches.Given as goal

abbrev pub invariant-loop-passed : goal.invariant-loop-passed
invariant-loop-passed l = Climbed l.row.row.now l.v (l.m - l.passed) l.at
