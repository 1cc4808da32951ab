-- `slots::find_slot` meets its contract: the identifiers of the slots passed are smaller. Assumes nothing.
use Prim.Native.Nat.{ℕ, ◌<◌}
use Rattle.runs.specs.Moves.{identifier_at}
use Rattle.slots.proofs.search.find_slot.Given as goal

abbrev pub invariant-loop-i : goal.invariant-loop-i
invariant-loop-i l = (j : ℕ) → j < l.i → identifier_at l.words j < l.id
