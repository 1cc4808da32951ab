-- `passes::pass::Ranks::fill_with_offsets` meets its contract. Assumes nothing.
use Rattle.trees.specs.Tables.{own}
use Rattle.trees.proofs.TableLaws.{tabled_keys, tabled_least}
use Rattle.passes.proofs.pass.Ranks.fill_with_offsets.Goals as goal

pub least-requires : goal.least-requires
least-requires c = tabled_keys c.args.row.n _ c.numbers.ensures

pub returns : goal.returns
returns c = (
  record {
    sizes = c.sizes.ensures.sizes;
    lows = tabled_least c.args.row.n c.args.row.row.now _ own _ c.numbers.ensures
        c.least.ensures;
  },
  c.sizes.ensures,
)
