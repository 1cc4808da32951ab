-- `merge::Ladder::lift` moves the place to where climbing comes. Assumes nothing.
use Prim.Native.Nat.{◌<◌}
use Rattle.trees.proofs.ClimbingLaws.{climb_range}
use Rattle.trees.specs.Tables.{entry, table_words}
use Rattle.trees.proofs.StandardLaws.{standard_to}
use Rattle.trees.specs.Rows.{nodes}
use native.Mathlib.Omega.{arith}
use Rattle.merge.proofs.Ladder.lift.Goals.{After-climb-v}
use Rattle.merge.proofs.Ladder.lift.Goals as goal

place-fits : (c : After-climb-v) → c.climb-v.result < table_words
place-fits c =
    let a = c.args in
    let v = climb_range (standard_to _ _ c.args.self.now.row.standard) a.self.now.up.now (nodes a.self.now.row.row.now) a.i (entry a.places.now a.s) c.requires.0 c.requires.2 c.requires.3 in
    omega (arith, v.1, rw c.from.ensures at c.climb-v.ensures, c.requires.3, (standard_to _ _ c.args.self.now.row.standard).valid.high, (standard_to _ _ c.args.self.now.row.standard).valid.most)

pub overflow_cast-places : goal.overflow_cast-places
overflow_cast-places c = omega (arith, place-fits c)

pub offset_bounds-self-v : goal.offset_bounds-self-v
offset_bounds-self-v c = omega (arith, place-fits c)

pub bounds-self-v : goal.bounds-self-v
bounds-self-v c = omega (arith, place-fits (goal.at.bounds-self-v c).After-climb-v)
