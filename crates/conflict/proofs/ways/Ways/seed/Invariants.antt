-- `conflict::ways::Ways::seed` fills the table up to v; a loop keeps no length of an array of structs by itself.
use Rattle.std.proofs.Common.{◌≡◌, length}
use Rattle.trees.specs.Tables.{table_words}
use Rattle.conflict.specs.Gathering.{Seeding}
use Rattle.conflict.specs.Routes.{first_of, last_of}
use Rattle.conflict.proofs.ways.Ways.seed.Given as goal

abbrev pub invariant-loop-v : goal.invariant-loop-v
invariant-loop-v l = (length l.reached ≡ table_words)
    × Seeding l.self.row.n l.self.row.row.now (first_of l.self) (last_of l.self) l.v l.reached
