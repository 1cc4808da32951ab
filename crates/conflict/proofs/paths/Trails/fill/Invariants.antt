-- `conflict::paths::Trails::fill` adds the inner nodes one by one. Assumes nothing.
use Rattle.conflict.specs.Paths.{Paths}
use Rattle.conflict.proofs.paths.Trails.fill.Given as goal

abbrev pub invariant-loop-v : goal.invariant-loop-v
invariant-loop-v l = Paths l.row.n l.row.row.now l.v l.self.head l.self.next
