-- `file::word_at` puts two bytes together. Assumes nothing.
use borrow.Author.Rules.{rules}
use Rattle.file.specs.Files.{word_at}
use Rattle.file.proofs.word_at.Goals as goal

pub returns : goal.returns
unfolding word_at
returns c = search rules
