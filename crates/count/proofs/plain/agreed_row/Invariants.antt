-- `count::plain::agreed_row` takes run after run in, until those that are needed have been tried. Assumes nothing.
use mathlib.Core.Path.{◌≡◌}
use Rattle.count.specs.Plain.{accepted}
use Rattle.count.proofs.plain.agreed_row.Given as goal

abbrev pub invariant-loop-tried : goal.invariant-loop-tried
invariant-loop-tried l = l.out ≡ accepted l.t l.study.n l.study.words.now l.tried
