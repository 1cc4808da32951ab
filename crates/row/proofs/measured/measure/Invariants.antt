-- `row::measured::measure` climbs from each sample, from the last to the first. Assumes nothing.
use Rattle.trees.specs.Measuring.{TablesFrom}
use Rattle.row.proofs.measured.measure.Given as goal

abbrev pub invariant-loop-s : goal.invariant-loop-s
invariant-loop-s l = TablesFrom l.tree.n l.tree.row.now l.s l.sizes l.lows
