-- `conflict::paths::Trails::fill` adds the inner nodes one by one. Assumes nothing.
use Rattle.std.proofs.Common.{◌≡◌, arith}
use Rattle.trees.specs.Rows.{nodes}
use Rattle.conflict.specs.PathLaws.{paths_start}
use Rattle.conflict.proofs.paths.Trails.fill.Goals as goal

pub loop-v-init : goal.loop-v-init
loop-v-init c = paths_start _ _ c.args.row.falls c.args.self.now.head _ (omega arith) c.requires

pub extend-requires : goal.extend-requires
extend-requires c = (omega arith, omega (arith, c.nodes-v-end.ensures), c.loop-v.invariant)

pub returns : goal.returns
returns c =
    let e : c.loop-v.v ≡ nodes c.args.row.row.now = omega (arith, c.nodes-v-end.ensures, c.args.row.falls.low) in
    rw (← e) c.loop-v.invariant
