-- `quick::tally::raise` stores the count at k with one added, and it fits a word. Assumes nothing.
use mathlib.Core.Path.{refl}
use Rattle.quick.proofs.tally.raise.Goals as goal

pub returns : goal.returns
returns c = refl
