-- `mates::mates` meets its contract. Assumes nothing.
use Rattle.trees.proofs.FallsLaws.{standard_falls}
use Rattle.trees.proofs.StandardLaws.{standard_to}
use Rattle.trees.proofs.PlaceLaws.{place_keys}
use Rattle.mates.proofs.mates.Goals as goal

pub fill-requires-2 : goal.fill-requires-2
fill-requires-2 c =
    let chart = c.args.chart.now in
    rw (c.falling-falling.ensures.samples, c.requires) (place_keys _ _ (standard_falls _ _ (standard_to _ _ chart.reference.standard)) chart.places.now.start chart.tables.starts)
