-- `put::put_number` puts the digits from the last on: those that are left decide. Assumes nothing.
use native.Mathlib.Omega.{arith}
use Rattle.put.proofs.Laws.{digits_next}
use Rattle.put.proofs.put_number.Goals as goal

pub loop-i-preserved : goal.loop-i-preserved
loop-i-preserved c = rw c.digit.ensures (digits_next c.loop-i.invariant (omega arith))
