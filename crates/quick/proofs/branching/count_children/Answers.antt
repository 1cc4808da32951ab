-- `quick::branching::count_children` counts the parents, which are the words of the row after the first. Assumes nothing.
use native.Mathlib.Omega.{arith}
use Rattle.quick.proofs.TallyLaws.{tabled_children}
use Rattle.quick.proofs.branching.count_children.Goals as goal

pub tally-requires : goal.tally-requires
tally-requires c =
    let o = c.args.row.laid in
    (omega (arith, o.words), omega (arith, o.fits), c.requires)

pub returns : goal.returns
returns c = tabled_children _ _ _ c.nodes.ensures c.tally.ensures
