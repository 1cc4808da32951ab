-- `conflict::mark` flags node by node. Assumes nothing.
use Rattle.std.proofs.Common.{ℕ, ◌<◌, ◌≤◌, false, get_or}
use Rattle.conflict.proofs.mark.Given as goal

abbrev pub invariant-loop-v : goal.invariant-loop-v
invariant-loop-v g l = (k : ℕ) → l.n ≤ k → k < l.v → goal.F-post g l.test k (get_or l.flags k false)
