-- `passes::standard::ranked` meets its contract. Assumes nothing.
use Rattle.trees.proofs.LinearLaws.{ranked_most, ranked_is}
use Rattle.trees.proofs.FallsLaws.{few}
use native.Mathlib.Omega.{arith}
use Rattle.passes.proofs.standard.ranked.Goals as goal

pub rising-requires : goal.rising-requires
rising-requires c = (
  c.args.row.falls.most,
  omega (arith, c.nodes-last.ensures, few _ _ c.args.row.falls),
  record
      { le = λ v h. (ranked_most c.args.row.n c.args.row.row.now _ _ c.fill.ensures).le v (omega (arith, c.nodes-last.ensures, c.args.row.falls.low)) },
)

pub returns : goal.returns
returns c =
    rw (c.rising.ensures, c.nodes-last.ensures) (ranked_is c.args.row.n c.args.row.row.now _ _ c.fill.ensures (omega (arith, c.args.row.falls.low)))
