-- `replay::calls::read` is safe and ends: the text has as many bytes as words. Assumes nothing.
use native.Mathlib.Omega.{arith}
use lib.ListN.{length-take}
use Rattle.replay.proofs.calls.read.Goals as goal

pub slice_bounds-read_text-end-2 : goal.slice_bounds-read_text-end-2
slice_bounds-read_text-end-2 c = simp length-take (omega arith)

pub read_text-requires : goal.read_text-requires
read_text-requires c = simp length-take (omega arith)
