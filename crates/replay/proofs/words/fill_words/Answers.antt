-- `replay::words::fill_words` meets its contract. The loop's invariant: the first i words are those of the bytes. Assumes nothing.
use native.Mathlib.Omega.{arith}
use Rattle.replay.specs.WordLaws.{words_more, words_all}
use Rattle.replay.proofs.words.fill_words.Goals as goal

pub loop-i-preserved : goal.loop-i-preserved
loop-i-preserved c =
    rw c.word_at.ensures (words_more c.args.bytes.now c.loop-i.words c.loop-i.i (omega arith) (omega arith) c.loop-i.invariant)

pub returns : goal.returns
returns c =
    words_all c.args.bytes.now c.loop-i.words c.loop-i.i (omega arith) (omega arith) c.loop-i.invariant
