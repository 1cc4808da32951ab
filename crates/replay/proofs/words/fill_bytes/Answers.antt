-- `replay::words::fill_bytes` meets its contract. The loop's invariant: the first 2 i bytes are those of the words. Assumes nothing.
use mathlib.Core.Path.{◌∙◌}
use native.Mathlib.Omega.{arith}
use Rattle.replay.specs.WordLaws.{bytes_copied, bytes_all}
use Rattle.replay.proofs.words.fill_bytes.Goals as goal

pub loop-i-preserved : goal.loop-i-preserved
loop-i-preserved c =
    bytes_copied c.args.words.now c.loop-i.bytes _ c.loop-i.i (omega arith) (omega arith) (omega (arith, c.type_inv.words c.loop-i.i))
    (c.copy_from_slice.ensures.after ∙ c.to_le_bytes.ensures) c.loop-i.invariant

pub returns : goal.returns
returns c =
    bytes_all c.args.words.now c.loop-i.bytes c.loop-i.i (omega arith) (omega arith) c.loop-i.invariant
