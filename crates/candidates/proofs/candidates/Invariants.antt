-- `candidates::candidates` takes run after run in, from the bare row on. Assumes nothing.
use Rattle.runs.specs.Words.{runs}
use Rattle.sides.specs.Counters.{tally_at}
use Rattle.counters.specs.Rounds.{Tied}
use Rattle.candidates.proofs.candidates.Given as goal

abbrev pub invariant-loop-i : goal.invariant-loop-i
invariant-loop-i l = Tied l.study.n (tally_at l.study.n (runs l.study.words.now) l.i) l.row l.counter
