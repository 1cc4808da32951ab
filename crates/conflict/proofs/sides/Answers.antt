-- `conflict::sides` marks both by what is reached. Assumes nothing.
use Rattle.std.proofs.Common.{rules}
use Rattle.passes.proofs.StandardRows.{standard_over}
use Rattle.trees.proofs.StandardLaws.{standard_to}
use Rattle.conflict.specs.GatherLaws.{reached_agrees, reached_holds}
use Rattle.conflict.proofs.sides.Goals as goal

pub returns-clause-flags : goal.returns-clause-flags
returns-clause-flags c =
    let chart = c.args.chart.now in
    reached_holds _ _ _ (standard_to _ _ chart.reference.standard) (standard_over c.args.row.standard c.requires.0) _ chart.places.now.start _
    chart.tables.ranked.sizes chart.tables.starts c.reaches.ensures _ c.nodes-m.ensures _ _ (rw c.requires.0 at c.requires.1)
    (record { is = λ v a h. (let p = c.mark.ensures v a h in search rules) })

pub returns-clause-flags_2 : goal.returns-clause-flags_2
returns-clause-flags_2 c =
    let chart = c.args.chart.now in
    reached_agrees _ _ _ (standard_to _ _ chart.reference.standard) (standard_over c.args.row.standard c.requires.0) _ chart.places.now.start _
    chart.tables.ranked.sizes chart.tables.starts c.reaches.ensures _ c.nodes-m.ensures _
    (record { is = λ v a h. (let p = c.mark-2.ensures v a h in search rules) })
