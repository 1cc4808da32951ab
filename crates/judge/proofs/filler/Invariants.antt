-- `judge::filler` answers check 8: the filler passed is 0, so the words that are left decide. Assumes nothing.
use Prim.Native.Nat.{◌+◌}
use mathlib.Core.Bool.{not}
use lib.Dec.{eqb}
use lib.ListN.{get_or}
use Rattle.trees.specs.Rows.{nodes}
use Rattle.trees.specs.Checks.{row_words}
use Rattle.trees.proofs.ScanLaws.{ScanLeft}
use Rattle.judge.proofs.filler.Given as goal

abbrev pub invariant-loop-w : goal.invariant-loop-w
invariant-loop-w l = ScanLeft (λ u. not (eqb (get_or l.row u 0) 0)) (nodes l.row + 1) (row_words l.n) l.w
