-- `conflict::agreements` marks by what is reached. Assumes nothing.
use Rattle.std.proofs.Common.{rules}
use Rattle.passes.proofs.StandardRows.{standard_over}
use Rattle.trees.proofs.StandardLaws.{standard_to}
use Rattle.conflict.specs.GatherLaws.{reached_agrees}
use Rattle.conflict.proofs.agreements.Goals as goal

pub returns : goal.returns
returns c =
    let chart = c.args.chart.now in
    reached_agrees _ _ _ (standard_to _ _ chart.reference.standard) (standard_over c.args.row.standard c.requires) _ chart.places.now.start _
    chart.tables.ranked.sizes chart.tables.starts c.reaches.ensures _ c.nodes.ensures _
    (record { is = λ v a h. (let p = c.mark.ensures v a h in search rules) })
