-- `compare::counts_by` compares the standard rows, whose groups are those of the rows. Assumes nothing.
use mathlib.Core.Path.{◌∙◌}
use Rattle.compare.proofs.CountLaws.{made_standard, made_compared}
use Rattle.compare.proofs.counts_by.Goals as goal

pub renumber_valid-requires : goal.renumber_valid-requires
renumber_valid-requires c = c.requires.1

pub renumber_valid-requires-2 : goal.renumber_valid-requires-2
renumber_valid-requires-2 c = rw c.requires.0 c.requires.2

pub invariant_of-counts : goal.invariant_of-counts
invariant_of-counts c = record { standard = made_standard _ _ c.args.first.valid c.renumber_valid.ensures }

pub invariant_of-counts-2 : goal.invariant_of-counts-2
invariant_of-counts-2 c = record { standard = made_standard _ _ c.args.second.valid c.renumber_valid-2.ensures }

pub returns : goal.returns
returns c =
    c.counts.ensures
    ∙ made_compared _ _ _ _ c.args.first.valid c.args.second.valid c.requires.0 c.renumber_valid.ensures c.renumber_valid-2.ensures
