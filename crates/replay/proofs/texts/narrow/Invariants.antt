-- `replay::texts::narrow` copies: the first i bytes are the words. Assumes nothing.
use Rattle.replay.specs.Copies.{CopiedTo}
use Rattle.replay.proofs.texts.narrow.Given as goal

abbrev pub invariant-loop-i : goal.invariant-loop-i
invariant-loop-i l = CopiedTo l.words l.i l.bytes
