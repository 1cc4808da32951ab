-- `quick::climbing::climbing` starts with no node marked. Assumes nothing.
use Rattle.quick.proofs.MarkingLaws.{marked_none}
use Rattle.quick.proofs.climbing.climbing.Goals as goal

pub climbing_marked-requires : goal.climbing_marked-requires
climbing_marked-requires c = marked_none _
