-- `scan::numbers::sample` has read the digits up to i, and as many more may come as places are left. Assumes nothing.
use Rattle.std.specs.Prelude.{◌+◌, ◌-◌}
use Rattle.newick.specs.Grammar.{most_digits}
use Rattle.scan.specs.Scanning.{Sampling}
use Rattle.scan.proofs.numbers.sample.Given as goal

abbrev pub invariant-loop-i : goal.invariant-loop-i
invariant-loop-i l = Sampling l.s l.at l.value (l.at + l.i) (most_digits - l.i)
