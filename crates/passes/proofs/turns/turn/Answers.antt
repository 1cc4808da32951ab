-- `passes::turns::turn` meets its contract. Assumes nothing.
use Rattle.trees.proofs.TurnLaws.{turn_leaf, turn_inner}
use mathlib.Core.Path.{sym}
use Rattle.passes.proofs.turns.turn.Goals as goal

pub returns-then-i-n : goal.returns-then-i-n
returns-then-i-n c = sym (turn_leaf _ c.args.m _ c.if-i-n.true)

pub returns : goal.returns
returns c = sym (turn_inner c.args.n c.args.m c.args.i c.if-i-n.false)
