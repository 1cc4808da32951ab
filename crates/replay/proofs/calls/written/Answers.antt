-- `replay::calls::written` is safe and ends: the text has as many bytes as words. Assumes nothing.
use native.Mathlib.Omega.{arith}
use lib.ListN.{length-take}
use Rattle.replay.proofs.calls.written.Goals as goal

pub slice_bounds-written_text-end-2 : goal.slice_bounds-written_text-end-2
slice_bounds-written_text-end-2 c = simp length-take (omega arith)

pub written_text-requires : goal.written_text-requires
written_text-requires c = simp length-take (omega arith)
