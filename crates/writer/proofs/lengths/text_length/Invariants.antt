-- `writer::lengths::text_length` adds up what the nodes add: the nodes that are left decide. Assumes nothing.
use Rattle.writer.specs.Lengths.{wanted_by, BytesLeft}
use Rattle.writer.proofs.lengths.text_length.Given as goal

abbrev pub invariant-loop-v : goal.invariant-loop-v
invariant-loop-v l = BytesLeft l.n l.row (wanted_by l.words) l.v l.bytes
