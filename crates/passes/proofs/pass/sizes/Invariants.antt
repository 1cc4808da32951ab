-- `passes::pass::sizes` meets its contract: after `done` steps the table is that stage of the pass. Assumes nothing.
use Rattle.passes.proofs.Loops.{Adding}
use Rattle.passes.proofs.pass.sizes.Given as goal

abbrev pub invariant-loop-done : goal.invariant-loop-done
invariant-loop-done l = Adding l.row.n l.row.row.now l.done l.size l.off
