-- How many brackets can be open at once: 511, and not 512. Assumes nothing.
use Rattle.std.specs.Prelude.{◌≡◌, refl, replicate}
use Rattle.std.proofs.Common.{arith}
use Rattle.newick.specs.Tree.{depth}
use Rattle.newick.specs.Bytes.{opening_byte, kind_of}
use Rattle.newick.specs.Walk.{parsed, walk, final, step, entered}
use Rattle.newick.specs.Walk.Parse.{stops}
use Rattle.newick.specs.Stops.{Begins}
use Rattle.newick.proofs.StopLaws.{stop_exactly}

opened_most : parsed (replicate 511 opening_byte) ≡ stops 511
unfolding parsed walk final step entered kind_of depth
opened_most = refl

opened_more : parsed (replicate 512 opening_byte) ≡ stops 511
unfolding parsed walk final step entered kind_of depth
opened_more = refl

-- some text of the form begins with 511 opening brackets, and none with 512 (RULES 14.6)
pub nesting_exactly : Begins (replicate 511 opening_byte) × (Begins (replicate 512 opening_byte) → ⊥)
nesting_exactly = (
  ((stop_exactly (replicate 511 opening_byte) 511).0 opened_most).goes,
  ((stop_exactly (replicate 512 opening_byte) 511).0 opened_more).never (omega arith),
)
