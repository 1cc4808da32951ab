-- `writer::lengths::node_bytes` adds up what a node adds. Assumes nothing.
use native.Mathlib.Omega.{arith}
use borrow.Author.Tests.{lt-ltb, le-ltb}
use Rattle.ascii.specs.DecimalLaws.{decimal_long}
use Rattle.writer.proofs.lengths.node_bytes.Goals as goal

pub overflow_add-result : goal.overflow_add-result
overflow_add-result c =
    omega (arith, c.width.ensures, decimal_long 2 c.args.v (omega arith))

pub returns-then-v-n : goal.returns-then-v-n
returns-then-v-n c = (
  rw (lt-ltb c.args.v c.args.n c.if-v-n.true) (omega (arith, c.width.ensures)),
  omega (arith, c.width.ensures, decimal_long 2 c.args.v (omega arith)),
)

pub returns : goal.returns
returns c = (
  rw (le-ltb c.args.v c.args.n c.if-v-n.false) (omega (arith, c.mark_width.ensures)),
  omega (arith, c.mark_width.ensures),
)
