-- `merge::Ladder::climb` climbs: from each node passed it comes to the same node as from v. Assumes nothing.
use Rattle.trees.specs.Tables.{entry}
use Rattle.trees.proofs.ClimbingLaws.{climb_on, climb_lower, climb_stop}
use Rattle.trees.proofs.StandardLaws.{standard_to}
use Rattle.trees.specs.Rows.{nodes}
use native.Mathlib.Omega.{arith}
use mathlib.Core.Path.{sym, ◌∙◌}
use Prim.Native.Nat.{◌≤◌}
use Rattle.merge.proofs.Ladder.climb.Goals as goal

pub loop-u-smaller : goal.loop-u-smaller
loop-u-smaller c =
    let k : c.args.i ≤ entry c.args.self.now.up.now c.loop-u.u = omega (arith, c.from.ensures, c.loop-u-test.true) in
    let lower = climb_lower (standard_to _ _ c.args.self.now.row.standard) c.args.self.now.up.now c.args.i c.loop-u.u c.requires.0 c.loop-u.invariant.1 (omega (arith, c.requires.2)) k in
    omega (arith, c.parent-u.ensures, lower)

pub loop-u-preserved : goal.loop-u-preserved
loop-u-preserved c =
    let k : c.args.i ≤ entry c.args.self.now.up.now c.loop-u.u = omega (arith, c.from.ensures, c.loop-u-test.true) in
    let d = climb_lower (standard_to _ _ c.args.self.now.row.standard) c.args.self.now.up.now c.args.i c.loop-u.u c.requires.0 c.loop-u.invariant.1 (omega (arith, c.requires.2)) k in
    let on = climb_on (standard_to _ _ c.args.self.now.row.standard) c.args.self.now.up.now c.args.i c.loop-u.u c.requires.0 c.loop-u.invariant.1 (omega (arith, c.requires.2)) k in
    (rw c.parent-u.ensures (sym on ∙ c.loop-u.invariant.0), omega (arith, c.parent-u.ensures), omega (arith, c.parent-u.ensures))

pub returns : goal.returns
returns c =
    sym (climb_stop (standard_to _ _ c.args.self.now.row.standard) c.args.self.now.up.now (nodes c.args.self.now.row.row.now) c.args.i c.loop-u.u
    (omega (arith, c.from.ensures, c.loop-u-test.false))) ∙ c.loop-u.invariant.0
