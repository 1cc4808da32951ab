-- `merge::side::Side::rank_or_end` answers by whether there is such a node. Assumes nothing.
use Rattle.std.proofs.Common.{◌<◌, arith, lt-ltb}
use borrow.Author.Tests.{le-ltb}
use Rattle.trees.specs.Lockstep.{rank_or_end}
use Rattle.trees.specs.Rows.{nodes}
use Rattle.passes.proofs.StandardRows.{standard_few}
use Rattle.trees.proofs.StandardLaws.{standard_to}
use Rattle.trees.proofs.LinearLaws.{ranked_most}
use Rattle.merge.proofs.side.Side.rank_or_end.Goals as goal

pub returns-then-nodes-v : goal.returns-then-nodes-v
unfolding rank_or_end
returns-then-nodes-v c = rw (le-ltb c.args.v (nodes c.args.self.now.row.row.now) (omega (arith, c.nodes.ensures)))

pub rank-requires : goal.rank-requires
rank-requires c =
    let s = c.args.self.now in
    let below : c.args.v < nodes s.row.row.now = omega (arith, c.nodes.ensures) in
    (omega (arith, below, standard_few _ _ s.row.standard), (standard_to _ _ s.row.standard).valid.most, (ranked_most s.row.n s.row.row.now _ _ s.ranked).le c.args.v below)

pub returns : goal.returns
unfolding rank_or_end
returns c = rw (lt-ltb c.args.v (nodes c.args.self.now.row.row.now) (omega (arith, c.nodes.ensures))) c.rank.ensures
