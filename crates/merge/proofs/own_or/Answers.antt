-- `merge::own_or` answers by whether the first is 0. Assumes nothing.
use borrow.Author.Tests.{eq-eqb, ne_eqb}
use Rattle.merge.proofs.own_or.Goals as goal

pub returns-then-own-eq0 : goal.returns-then-own-eq0
returns-then-own-eq0 c = rw (eq-eqb _ 0 c.if-own-eq0.true)

pub returns : goal.returns
returns c = rw (ne_eqb _ 0 c.if-own-eq0.false)
