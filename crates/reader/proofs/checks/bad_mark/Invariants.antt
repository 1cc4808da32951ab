-- `reader::checks::bad_mark` finds no mark below x bad. Assumes nothing.
use Rattle.trees.specs.Checks.{most_samples}
use Rattle.trees.proofs.ScanLaws.{ScanLeft}
use Rattle.lay.specs.Faults.{bad_mark}
use Rattle.reader.proofs.checks.bad_mark.Given as goal

abbrev pub invariant-loop-x : goal.invariant-loop-x
invariant-loop-x l = ScanLeft (bad_mark l.n l.marks) 0 most_samples l.x
