-- `passes::pass::numbers` meets its contract: the table is filled up to s. Assumes nothing.
use Rattle.trees.specs.Tables.{Tabled, own}
use Rattle.passes.proofs.pass.numbers.Given as goal

abbrev pub invariant-loop-s : goal.invariant-loop-s
invariant-loop-s l = Tabled own 0 l.s l.key
