-- `counters::renew` merges what stays with what enters, and hands the counters on. Assumes nothing.
use Rattle.counters.specs.Rounds.{weights}
use borrow.Author.Rules.{rules}
use Rattle.counters.proofs.renew.Goals as goal

pub returns : goal.returns
unfolding weights
returns c = search rules
