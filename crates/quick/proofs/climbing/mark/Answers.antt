-- `quick::climbing::mark` marks only nodes that come to the root, since the way up from v does; with each there is one unmarked node fewer. Assumes nothing.
use borrow.Author.Tests.{ne_eqb}
use mathlib.Core.Bool.{true}
use mathlib.Core.Path.{refl}
use Rattle.quick.proofs.MarkingLaws.{marked_more, marked_up, unmarked_fewer}
use Rattle.quick.proofs.climbing.mark.Goals as goal

pub returns-then-p-eq-ROOT_MARK : goal.returns-then-p-eq-ROOT_MARK
returns-then-p-eq-ROOT_MARK c = let k = c.loop-marks.invariant in marked_more _ _ k.marked _ true k.comes

pub loop-marks-smaller : goal.loop-marks-smaller
loop-marks-smaller c =
    let k = c.loop-marks.invariant in
    unmarked_fewer _ _ k.marked _ true c.args.row.laid.fits k.node refl c.loop-marks-test.true

pub loop-marks-preserved : goal.loop-marks-preserved
loop-marks-preserved c =
    let p = c.parent-p.ensures in
    rw p (marked_up _ _ _ true c.args.row.laid c.loop-marks.invariant (rw p at (ne_eqb _ _ c.if-p-eq-ROOT_MARK.false)))

pub returns : goal.returns
returns c = c.loop-marks.invariant.marked
