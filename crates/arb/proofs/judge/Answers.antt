-- `arb::judge` passes on what judging answers. Assumes nothing.
use Rattle.arb.proofs.judge.Goals as goal

pub returns : goal.returns
returns c = c.judge.ensures
