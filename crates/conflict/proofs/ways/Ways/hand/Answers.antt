-- `conflict::ways::Ways::hand` stores what both have got at the parent. Assumes nothing.
use Rattle.std.proofs.Common.{refl}
use Rattle.conflict.proofs.ways.Ways.hand.Goals as goal

pub join-requires : goal.join-requires
join-requires c = (c.requires.2, c.requires.3, c.requires.4)

pub returns : goal.returns
returns c = record { got = c.join.result; joins = c.join.ensures; stored = refl }
