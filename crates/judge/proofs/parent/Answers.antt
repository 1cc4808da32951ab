-- `judge::parent` reads the word after word v. Assumes nothing.
use Rattle.trees.specs.Rows.{parent}
use native.Mathlib.Numerals.{add-one}
use Rattle.judge.proofs.parent.Goals as goal

pub returns : goal.returns
unfolding parent
returns c = rw (← add-one) c.from.ensures
