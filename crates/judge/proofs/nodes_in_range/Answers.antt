-- `judge::nodes_in_range` answers check 5. Assumes nothing.
use Rattle.judge.proofs.nodes_in_range.Goals as goal

pub returns : goal.returns
returns c = rw (← c.nodes-m.ensures) c.line.ensures
