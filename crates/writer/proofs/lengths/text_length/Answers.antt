-- `writer::lengths::text_length` adds up what the nodes add: the nodes that are left decide. Assumes nothing.
use native.Mathlib.Omega.{arith}
use Rattle.writer.specs.LengthLaws.{left_next, left_end}
use Rattle.writer.proofs.lengths.text_length.Goals as goal

pub node_bytes-bytes-requires : goal.node_bytes-bytes-requires
node_bytes-bytes-requires c =
    let ok = c.requires.0 in
    (ok.most, omega (arith, ok.words, ok.high), λ h. omega (arith, c.requires.1 h, ok.high))

pub loop-v-preserved : goal.loop-v-preserved
loop-v-preserved c =
    let b = c.node_bytes-bytes.ensures in
    left_next _ _ _ _ _ c.loop-v.invariant _ b.0 b.1 (omega arith)

pub returns : goal.returns
returns c =
    left_end _ _ _ _ _ c.loop-v.invariant c.requires.0 (omega arith)
