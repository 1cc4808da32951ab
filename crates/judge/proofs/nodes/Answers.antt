-- `judge::nodes` reads word 0. Assumes nothing.
use Rattle.trees.specs.Rows.{nodes}
use borrow.Author.Rules.{rules}
use Rattle.judge.proofs.nodes.Goals as goal

pub returns : goal.returns
unfolding nodes
returns c = search rules
