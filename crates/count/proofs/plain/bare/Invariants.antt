-- `count::plain::bare` writes word by word. Assumes nothing.
use lib.ListN.{get_or}
use Rattle.trees.specs.Tables.{Tabled}
use Rattle.count.specs.Plain.{bare_row}
use Rattle.count.proofs.plain.bare.Given as goal

abbrev pub invariant-loop-w : goal.invariant-loop-w
invariant-loop-w l = Tabled (λ u. get_or (bare_row l.n) u 0) 0 l.w l.out
