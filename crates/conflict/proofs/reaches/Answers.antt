-- `conflict::reaches`: the places of the row's nodes, their paths, and the pass. Assumes nothing.
use Rattle.std.proofs.Common.{refl}
use Rattle.trees.proofs.FallsLaws.{standard_falls}
use Rattle.trees.proofs.StandardLaws.{standard_to}
use Rattle.trees.proofs.PlaceLaws.{place_keys}
use Rattle.conflict.specs.GatherLaws.{gauged_reached}
use Rattle.conflict.proofs.reaches.Goals as goal

pub fill-requires : goal.fill-requires
fill-requires c =
    let chart = c.args.chart.now in
    rw (c.falling-falling.ensures.samples, c.requires) (place_keys _ _ (standard_falls _ _ (standard_to _ _ chart.reference.standard)) chart.places.now.start chart.tables.starts)

pub fill-requires-2 : goal.fill-requires-2
fill-requires-2 c = refl

pub returns : goal.returns
returns c =
    let row = c.falling-falling.ensures in
    let ends = rw (row.samples, row.row, c.requires) at c.fill.ensures in
    gauged_reached _ _ _ c.args.chart.now.places.now.start _ _ _ ends.0 ends.1 (rw c.requires at c.gather.ensures)
