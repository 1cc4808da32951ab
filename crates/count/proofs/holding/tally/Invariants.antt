-- `count::holding::tally` counts mate by mate. Assumes nothing.
use Rattle.trees.specs.Tables.{Remade}
use Rattle.count.specs.Holders.{with_mate}
use Rattle.count.proofs.holding.tally.Given as goal

abbrev pub invariant-loop-v : goal.invariant-loop-v
invariant-loop-v l = Remade (with_mate l.mate l.initial.holders) l.initial.holders l.n l.m l.v l.holders
