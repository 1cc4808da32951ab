-- `merge::side::Side::next_kept` scans for the first kept node: those passed are not kept. Assumes nothing.
use Rattle.std.proofs.Common.{◌≡◌, ℕ, ◌<◌, ◌≤◌, false}
use Rattle.trees.specs.Merging.{flagged}
use Rattle.merge.proofs.side.Side.next_kept.Given as goal

abbrev pub invariant-loop-u : goal.invariant-loop-u
invariant-loop-u l = (k : ℕ) → l.v ≤ k → k < l.u → flagged l.self.keep.now k ≡ false
