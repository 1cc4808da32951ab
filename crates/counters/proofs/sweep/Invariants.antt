-- `counters::sweep` turns the counters node by node, and flags those that are not 0. Assumes nothing.
use Rattle.std.proofs.Common.{ltb}
use Rattle.trees.specs.Tables.{Flags, Remade}
use Rattle.counters.specs.Rounds.{turned_in, weight}
use Rattle.counters.proofs.sweep.Given as goal

abbrev pub invariant-loop-v : goal.invariant-loop-v
invariant-loop-v l = Remade (turned_in weight l.held l.agrees l.initial.counter) l.initial.counter l.n l.m l.v l.counter
    × Flags (λ u. ltb 0 (turned_in weight l.held l.agrees l.initial.counter u)) l.n l.v l.keep
