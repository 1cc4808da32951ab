-- `scan::bytes::skip_while` has passed the bytes up to i by, whatever test its closure tells. Assumes nothing.
use Rattle.std.proofs.Common.{false, true, ◌∙◌}
use Rattle.scan.specs.RunLaws.{skip_all, skip_on, skip_end}
use Rattle.scan.proofs.bytes.skip_while.Goals as goal

pub returns-then-not-test : goal.returns-then-not-test
returns-then-not-test g c t h = skip_end t _ _ _ (c.loop-i.invariant t h) (h _ false (c.if-not-test.ensures))

pub loop-i-preserved : goal.loop-i-preserved
loop-i-preserved g c t h = skip_on t _ _ _ (c.loop-i.invariant t h) c.loop-i-test.true (h _ true (c.if-not-test.ensures))

pub returns : goal.returns
returns g c t h = c.max.ensures ∙ skip_all t _ _ _ (c.loop-i.invariant t h) c.loop-i-test.false c.loop-i.auto.i-end
