-- `passes::standard::rightful` meets its contract. Assumes nothing.
use Rattle.trees.specs.Falls.{rightful}
use borrow.Author.Tests.{lt-ltb, le-ltb, eq-eqb, ne_eqb}
use native.Mathlib.Omega.{arith}
use Rattle.passes.proofs.standard.rightful.Goals as goal

pub returns-then-v-n : goal.returns-then-v-n
unfolding rightful
returns-then-v-n c = rw (eq-eqb c.args.v c.args.n c.if-v-n.true)

pub returns-then-v-n-2 : goal.returns-then-v-n-2
unfolding rightful
returns-then-v-n-2 c = rw (ne_eqb c.args.v c.args.n (λ q. omega arith), lt-ltb c.args.v c.args.n (omega arith))

pub returns : goal.returns
unfolding rightful
returns c = rw (
  ne_eqb c.args.v c.args.n c.if-v-n.false,
  le-ltb c.args.v c.args.n
      (omega arith),
)
