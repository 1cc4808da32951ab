-- `judge::roots` answers check 7. Assumes nothing.
use Rattle.judge.proofs.roots.Goals as goal

pub returns : goal.returns
returns c = rw (← c.children.ensures) c.line.ensures
