-- `quick::climbing::climbing_marked` answers check 9: the ways up from the nodes passed end, so the nodes that are left decide. Assumes nothing.
use Rattle.quick.specs.Marking.{ClimbedFrom}
use Rattle.quick.proofs.climbing.climbing_marked.Given as goal

abbrev pub invariant-loop-start : goal.invariant-loop-start
invariant-loop-start l = ClimbedFrom l.row.row.now l.start l.marks
