-- `passes::pass::least` meets its contract: after i steps the table is that stage of the pass. Assumes nothing.
use Rattle.trees.specs.Rows.{root_mark}
use Rattle.trees.specs.Passes.{Stage}
use Rattle.trees.specs.Tables.{entry}
use Prim.Native.Nat.{min}
use Rattle.passes.proofs.pass.least.Given as goal

abbrev pub invariant-loop-i : goal.invariant-loop-i
invariant-loop-i l = Stage l.row.n l.row.row.now min root_mark (entry l.key) l.i l.out
