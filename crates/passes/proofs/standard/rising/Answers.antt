-- `passes::standard::rising` meets its contract. Assumes nothing.
use Rattle.std.proofs.Common.{rules, ◌≡◌, not, ltb, ◌+◌, ap, sym, ◌∙◌}
use Rattle.trees.specs.Linear.{falters}
use Rattle.trees.specs.Tables.{rank_in}
use Rattle.passes.proofs.Scans.{never_from_all, falters_not}
use Rattle.passes.proofs.standard.rising.Goals as goal

pub returns : goal.returns
returns c =
    let rank = rank_in c.args.n c.args.ranks.now.size c.args.ranks.now.low in
    never_from_all (falters rank) c.args.n c.args.last _ _ _ c.all.ensures.ran
    (λ x v q k. (search rules, let e : v ≡ ltb (rank x) (rank (x + 1)) = search rules in falters_not rank x ∙ ap not (sym e)))
