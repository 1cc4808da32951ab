-- `count::holding::holders` counts run by run. Assumes nothing.
use Rattle.trees.specs.Rows.{holds}
use Rattle.runs.specs.Words.{runs}
use Rattle.count.specs.Holders.{Counting}
use Rattle.count.proofs.holding.holders.Given as goal

abbrev pub invariant-loop-j : goal.invariant-loop-j
invariant-loop-j l = Counting (holds l.reference.n) l.reference.n (runs l.study.words.now) l.reference.row.now l.j l.holders
