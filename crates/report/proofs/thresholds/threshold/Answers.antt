-- `report::thresholds::threshold` gives the default for 0, and any other number back. Assumes nothing.
use borrow.Author.Tests.{eq-eqb, ne_eqb}
use Rattle.trees.specs.Thresholds.{threshold}
use Rattle.report.proofs.thresholds.threshold.Goals as goal

pub returns-then-p-eq0 : goal.returns-then-p-eq0
unfolding threshold
returns-then-p-eq0 c = rw (eq-eqb c.args.p 0 c.if-p-eq0.true)

pub returns-else-p-eq0 : goal.returns-else-p-eq0
unfolding threshold
returns-else-p-eq0 c = rw (ne_eqb c.args.p 0 c.if-p-eq0.false)
