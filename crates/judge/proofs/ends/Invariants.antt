-- `judge::ends` follows the parents: at each step the way that is left ends exactly if the whole way does. Assumes nothing.
use Prim.Native.Nat.{◌<◌, ◌-◌}
use mathlib.Core.Path.{◌≡◌}
use Rattle.trees.specs.Rows.{nodes, ends}
use Rattle.judge.proofs.ends.Given as goal

abbrev pub invariant-loop-passed : goal.invariant-loop-passed
invariant-loop-passed l = (l.at < nodes l.row) × (ends (l.m - l.passed) l.row l.at ≡ ends (nodes l.row) l.row l.v)
