-- `writer::texts::root` finds the root: it is at the place or ahead of it. Assumes nothing.
use Rattle.writer.specs.Putting.{RootAhead}
use Rattle.writer.proofs.texts.root.Given as goal

abbrev pub invariant-loop-v : goal.invariant-loop-v
invariant-loop-v l = RootAhead l.tree.n l.tree.row.now l.v
