-- `replay::words::fill_words` meets its contract. The loop's invariant: the first i words are those of the bytes. Assumes nothing.
use Rattle.replay.specs.WordLaws.{WordsTo}
use Rattle.replay.proofs.words.fill_words.Given as goal

abbrev pub invariant-loop-i : goal.invariant-loop-i
invariant-loop-i l = WordsTo l.bytes l.i l.words
