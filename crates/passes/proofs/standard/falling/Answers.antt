-- `passes::standard::falling` meets its contract. Assumes nothing.
use Rattle.std.proofs.Common.{rules, ap, ◌∙◌}
use Rattle.trees.specs.Falls.{misplaced}
use Rattle.trees.specs.Scans.{never}
use Rattle.passes.proofs.Scans.{never_from_all}
use Rattle.passes.proofs.standard.falling.Goals as goal

pub returns : goal.returns
returns c =
    never_from_all (misplaced c.args.n c.args.row.now) 0 c.nodes-m.result _ _ _ c.all.ensures.ran (λ x v q k. (search rules, search rules))
    ∙ ap (never (misplaced c.args.n c.args.row.now) 0) c.nodes-m.ensures
