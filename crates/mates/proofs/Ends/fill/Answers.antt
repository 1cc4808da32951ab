-- `mates::Ends::fill` meets its contract. Assumes nothing.
use Rattle.trees.specs.Tables.{entry}
use Rattle.trees.specs.Mates.{from_end}
use Rattle.trees.proofs.TableLaws.{end_keys, tabled_least}
use Rattle.mates.proofs.Ends.fill.Goals as goal

pub least-requires-2 : goal.least-requires-2
least-requires-2 c = end_keys c.args.row.n c.args.start.now _ c.requires c.all_from_end.ensures

pub returns : goal.returns
returns c = (
  c.least.ensures,
  tabled_least c.args.row.n c.args.row.row.now _ (from_end c.args.row.n (entry c.args.start.now)) _ c.all_from_end.ensures
      c.least-2.ensures,
)
