-- `conflict::ways::Ways::gather` is the pass that joins; a loop keeps no length of an array of structs by itself.
use Rattle.std.proofs.Common.{◌≡◌, length}
use Rattle.trees.specs.Tables.{table_words}
use Rattle.conflict.specs.Gathering.{Gathered}
use Rattle.conflict.specs.Routes.{first_of, last_of}
use Rattle.conflict.proofs.ways.Ways.gather.Given as goal

abbrev pub invariant-loop-i : goal.invariant-loop-i
invariant-loop-i l = (length l.reached ≡ table_words)
    × Gathered l.self.row.n l.reference.row.now l.self.row.row.now (first_of l.self) (last_of l.self) l.i l.reached
