-- `file::identifier_of` reads the first word of a slot. Assumes nothing.
use native.Mathlib.Omega.{arith}
use lib.ListN.{length}
use Rattle.file.specs.Files.{slot_identifier}
use Rattle.file.proofs.FileLaws.{bytes_next, slot_fits}
use borrow.Author.Rules.{rules}
use Rattle.file.proofs.identifier_of.Goals as goal

pub file_bytes-requires : goal.file_bytes-requires
file_bytes-requires c = let a = c.args in slot_fits a.n a.j (length a.bytes.now) (search rules) (search rules)

pub word_at-requires : goal.word_at-requires
word_at-requires c = omega (arith, bytes_next c.args.n c.args.j)

pub returns : goal.returns
unfolding slot_identifier
returns c = rw (← c.file_bytes.ensures) c.word_at.ensures
