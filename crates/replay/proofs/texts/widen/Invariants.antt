-- `replay::texts::widen` copies: the first i words are the bytes. Assumes nothing.
use Rattle.replay.specs.Copies.{CopiedTo}
use Rattle.replay.proofs.texts.widen.Given as goal

abbrev pub invariant-loop-i : goal.invariant-loop-i
invariant-loop-i l = CopiedTo l.bytes l.i l.words
