-- `count::rule::is_shown` compares the two products of the rule, and the two numbers. Assumes nothing.
use borrow.Author.Tests.{lt-ltb, le-ltb}
use Rattle.trees.specs.Majority.{is_shown}
use Rattle.count.proofs.rule.is_shown.Goals as goal

pub returns-then-t-k : goal.returns-then-t-k
unfolding is_shown
returns-then-t-k c = let e = rw c.from.ensures at c.if-t-k.true in rw (c.from.ensures, lt-ltb _ _ e)

pub returns-else-t-k : goal.returns-else-t-k
unfolding is_shown
returns-else-t-k c = let e = rw c.from.ensures at c.if-t-k.false in rw (c.from-else-t-k.ensures, le-ltb _ _ e)
