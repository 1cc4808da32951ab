-- `file::fitting` compares the length with what n and k ask. Assumes nothing.
use Rattle.file.proofs.FileLaws.{bytes_fit}
use borrow.Author.Rules.{rules}
use Rattle.file.proofs.fitting.Goals as goal

pub file_bytes-requires : goal.file_bytes-requires
file_bytes-requires c = (search rules, bytes_fit c.from-n.result c.from-k.result (search rules) (search rules))
