-- `passes::pass::starts` meets its contract: the root and the nodes of the steps from i on are laid. Assumes nothing.
use Rattle.passes.proofs.Loops.{Laying}
use Rattle.passes.proofs.pass.starts.Given as goal

abbrev pub invariant-loop-i : goal.invariant-loop-i
invariant-loop-i l = Laying l.row.n l.row.row.now l.i l.start
