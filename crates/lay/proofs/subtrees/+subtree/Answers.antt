-- `lay::subtrees::subtree`: in a pair it stands behind the bracket or a comma, and has laid the subtrees before it. Assumes nothing.
use Rattle.std.proofs.Common.{◌∙◌}
use Rattle.std.proofs.lemmas.Result.{err_from_is_err_and}
use Rattle.lay.proofs.Loop.{leaf_laid, loop_start, loop_stops, loop_again, loop_closes}
use Rattle.lay.proofs.subtrees.+subtree.Goals as goal

pub returns-in-Leaf : goal.returns-in-Leaf
returns-in-Leaf t c = leaf_laid _ _ _ _ _ _ _ _ _ (rw c.in-Leaf.is at c.in_ok-x.ensures) c.take.ensures c.requires.2

pub loop-e-init : goal.loop-e-init
loop-e-init t c = (loop_start _ _ _ _ _ _ _ (rw c.in-Pair.is at c.in_ok-x.ensures) c.requires.1 c.requires.2, tt)

pub returns-in_err-e : goal.returns-in_err-e
returns-in_err-e t c =
    let p = err_from_is_err_and c.from_residual-in_err-e.result c.from_residual-in_err-e.ensures.1 in
    rw (p.1, p.2) (loop_stops _ _ _ _ _ _ _ _ _ _ _ c.loop-e.invariant.0 _ c.in_err-e.ensures)

pub returns-then-look-ne44 : goal.returns-then-look-ne44
returns-then-look-ne44 t c =
    loop_closes _ _ _ _ _ _ _ _ _ _ _ c.loop-e.invariant.0 _ _ _ _ c.in_ok-e.ensures c.close.result _ _
    (λ e. c.if-look-ne44.true (c.look.ensures ∙ e)) c.close.ensures

pub loop-e-preserved : goal.loop-e-preserved
loop-e-preserved t c =
    loop_again _ _ _ _ _ _ _ _ _ _ _ c.loop-e.invariant.0 _ _ _ _ c.in_ok-e.ensures _ c.look.ensures c.if-look-ne44.false
    _ _ _ c.comma.ensures
