-- `mates::confirmations` meets its contract: all before a have their mates, the others their candidates. Assumes nothing.
use Rattle.mates.proofs.Walks.{Confirming}
use Rattle.mates.proofs.confirmations.Given as goal

abbrev pub invariant-loop-a : goal.invariant-loop-a
invariant-loop-a l = Confirming l.beside.chart.now.reference.n l.beside.chart.now.reference.row.now l.beside.row.row.now l.a l.mate
