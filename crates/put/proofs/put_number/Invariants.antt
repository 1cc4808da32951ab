-- `put::put_number` puts the digits from the last on: those that are left decide. Assumes nothing.
use Rattle.put.proofs.Laws.{DigitsFrom}
use Rattle.put.proofs.put_number.Given as goal

abbrev pub invariant-loop-i : goal.invariant-loop-i
invariant-loop-i l = DigitsFrom l.x l.at l.initial.out l.i l.rest l.out
