-- `quick::tally::tally` counts word by word. Assumes nothing.
use Rattle.quick.specs.Tallies.{Tallying}
use Rattle.quick.proofs.tally.tally.Given as goal

abbrev pub invariant-loop-u : goal.invariant-loop-u
invariant-loop-u l = Tallying l.words l.a l.b l.u l.counts
