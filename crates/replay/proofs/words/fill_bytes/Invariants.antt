-- `replay::words::fill_bytes` meets its contract. The loop's invariant: the first 2 i bytes are those of the words. Assumes nothing.
use Rattle.replay.specs.WordLaws.{BytesTo}
use Rattle.replay.proofs.words.fill_bytes.Given as goal

abbrev pub invariant-loop-i : goal.invariant-loop-i
invariant-loop-i l = BytesTo l.words l.i l.bytes
