-- `mates::all_from_end` meets its contract: the table is filled up to s. Assumes nothing.
use Rattle.trees.specs.Tables.{Tabled, entry}
use Rattle.trees.specs.Mates.{from_end}
use Rattle.mates.proofs.all_from_end.Given as goal

abbrev pub invariant-loop-s : goal.invariant-loop-s
invariant-loop-s l = Tabled (from_end l.n (entry l.start)) 0 l.s l.t
