-- `count::rule::marks` marks node by node. Assumes nothing.
use Rattle.count.specs.Holders.{Marked}
use Rattle.count.proofs.rule.marks.Given as goal

abbrev pub invariant-loop-v : goal.invariant-loop-v
invariant-loop-v l = Marked l.t l.k l.holders l.n l.v l.keep
