-- `mates::candidates` meets its contract: all before a have theirs, and the walk is at b. Assumes nothing.
use Rattle.mates.proofs.Walks.{Walking}
use Rattle.mates.proofs.candidates.Given as goal

abbrev pub invariant-loop-a : goal.invariant-loop-a
invariant-loop-a l = Walking l.chart.reference.n l.chart.reference.row.now l.row.row.now l.a l.b l.mate
