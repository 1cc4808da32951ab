-- `count::holding::count_run` counts the mates of the reference in the row. Assumes nothing.
use Rattle.trees.proofs.StandardLaws.{standard_to}
use Rattle.passes.proofs.StandardRows.{standard_over}
use Rattle.count.specs.HolderLaws.{tallied}
use Rattle.count.proofs.holding.count_run.Goals as goal

pub returns : goal.returns
returns c =
    let a = c.args in
    let q = a.chart.now.reference in
    tallied q.n q.row.now a.row.row.now _ a.holders.now _ (standard_to _ _ q.standard) (standard_over a.row.standard c.requires.0)
    c.mates.ensures (rw c.nodes.ensures at c.tally.ensures)
