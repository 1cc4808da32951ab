-- `report::write_supports` writes word by word. Assumes nothing.
use Rattle.trees.specs.Tables.{Tabled}
use Rattle.report.specs.Supports.{support_word}
use Rattle.report.proofs.write_supports.Given as goal

abbrev pub invariant-loop-w : goal.invariant-loop-w
invariant-loop-w l = Tabled (support_word l.n l.m l.k l.holders) 0 l.w l.out
