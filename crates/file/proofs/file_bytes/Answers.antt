-- `file::file_bytes` computes the bytes exactly. Assumes nothing.
use native.Mathlib.Omega.{arith}
use Rattle.file.specs.Files.{file_bytes}
use Rattle.file.proofs.FileLaws.{factor_below}
use borrow.Author.Rules.{rules}
use Rattle.file.proofs.file_bytes.Goals as goal

pub overflow_mul-result : goal.overflow_mul-result
overflow_mul-result c = omega (arith, factor_below c.args.n c.args.k)

pub overflow_mul-result-3 : goal.overflow_mul-result-3
unfolding file_bytes
overflow_mul-result-3 c = search rules

pub overflow_add-result-2 : goal.overflow_add-result-2
unfolding file_bytes
overflow_add-result-2 c = search rules

pub returns : goal.returns
unfolding file_bytes
returns c = search rules
