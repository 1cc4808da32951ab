-- `passes::pass::keys` copies key by key. Assumes nothing.
use Rattle.trees.specs.Tables.{Tabled, entry}
use Rattle.passes.proofs.pass.keys.Given as goal

abbrev pub invariant-loop-s : goal.invariant-loop-s
invariant-loop-s l = Tabled (entry l.key) 0 l.s l.out
