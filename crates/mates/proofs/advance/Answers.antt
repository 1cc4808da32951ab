-- `mates::advance` meets its contract: what `find` comes to is the candidate. Assumes nothing.
use Rattle.std.proofs.Common.{rules, ◌≤◌, ◌<◌, ◌∙◌}
use Rattle.std.proofs.lemmas.Iterator.{first_from_Range}
use borrow.Author.Tests.{tests}
use Rattle.trees.specs.Tables.{rank_in}
use Rattle.mates.proofs.Walks.{candidate_of_find}
use Rattle.mates.proofs.advance.Goals as goal

pub returns : goal.returns
returns c =
    let a = c.args in
    let rank = rank_in a.n a.ranks.now.size a.ranks.now.low in
    let h = first_from_Range _ _ _ _ (λ x. a.k ≤ rank x) (λ x. rank x < a.k) c.find.ensures.ran (λ x q k. search (rules, tests)) (λ x q k. search (rules, tests)) in
    c.unwrap_or.ensures ∙ candidate_of_find rank a.b a.m a.k c.requires.1 c.find.result h
