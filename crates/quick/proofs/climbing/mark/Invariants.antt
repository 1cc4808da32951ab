-- `quick::climbing::mark` marks only nodes that come to the root, since the way up from v does; with each there is one unmarked node fewer. Assumes nothing.
use Rattle.quick.specs.Marking.{MarkedTo, unmarked}
use Rattle.quick.proofs.climbing.mark.Given as goal

abbrev pub invariant-loop-marks : goal.invariant-loop-marks
invariant-loop-marks l = MarkedTo l.row.row.now l.at l.marks

abbrev pub decreases-loop-marks : goal.decreases-loop-marks
decreases-loop-marks l = unmarked l.row.row.now l.marks
