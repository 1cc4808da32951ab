-- `conflict::ways::Ways::settle` brings each of two nodes to the level of the other. Assumes nothing.
use Rattle.trees.proofs.StandardLaws.{standard_to}
use Rattle.conflict.specs.GatherLaws.{levelled_ends}
use Rattle.conflict.proofs.ways.Ways.settle.Goals as goal

pub level-u-requires : goal.level-u-requires
level-u-requires c = (c.requires.1, c.requires.3)

pub level-t-requires : goal.level-t-requires
level-t-requires c = (c.requires.0, c.requires.2)

pub returns : goal.returns
returns c =
    rw c.lesser_of.ensures (levelled_ends _ _ (standard_to _ _ c.args.self.now.row.standard) _ _ _ _ _ _ c.level-u.ensures c.level-t.ensures)
