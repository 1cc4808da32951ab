-- `count::plain::copy` copies word by word. Assumes nothing.
use lib.ListN.{get_or}
use Rattle.trees.specs.Tables.{Tabled}
use Rattle.count.proofs.plain.copy.Given as goal

abbrev pub invariant-loop-w : goal.invariant-loop-w
invariant-loop-w l = Tabled (λ u. get_or l.from u 0) 0 l.w l.to
