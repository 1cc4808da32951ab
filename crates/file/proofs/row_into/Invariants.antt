-- `file::row_into` reads the words of a slot's row: those that are left decide. Assumes nothing.
use Rattle.file.specs.Files.{slot_row}
use Rattle.file.proofs.Laws.{Filled}
use Rattle.file.proofs.row_into.Given as goal

abbrev pub invariant-loop-i : goal.invariant-loop-i
invariant-loop-i l = Filled (slot_row l.bytes l.n l.j) l.i l.row
