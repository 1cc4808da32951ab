-- `put::width` counts the digits: those counted and those of the rest are one more than all. Assumes nothing.
use mathlib.Core.Path.{ap}
use native.Mathlib.Omega.{arith}
use lib.ListN.{length}
use Rattle.ascii.specs.DecimalLaws.{decimal_small, decimal_longer, decimal_short, decimal_full}
use borrow.Author.Rules.{rules}
use Rattle.put.proofs.width.Goals as goal

pub overflow_add-digits : goal.overflow_add-digits
overflow_add-digits c = omega (arith, decimal_short c.args.x (search rules), decimal_full c.loop-rest.rest)

pub loop-rest-preserved : goal.loop-rest-preserved
loop-rest-preserved c = omega (arith, decimal_longer c.loop-rest.rest (search rules))

pub returns : goal.returns
returns c = omega (arith, ap length (decimal_small c.loop-rest.rest (search rules)))
