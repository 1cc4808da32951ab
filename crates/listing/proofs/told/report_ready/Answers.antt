-- `listing::told::report_ready` meets its contract: the answer's two cases are those of the report. Assumes nothing.
use Rattle.listing.specs.ListingLaws.{report_shows}
use Rattle.listing.proofs.told.report_ready.Goals as goal

pub returns : goal.returns
returns c =
    let a = c.args in
    let s = report_shows a.sizes.samples a.sizes.runs a.words.now a.agreed.now a.support.now _ _ c.report_formed.result c.requires.0.same c.requires.1
    c.requires.2 c.report_formed.ensures.answer c.report_formed.ensures.agreed c.report_formed.ensures.support in
    record { support_after = rw c.told_of.ensures s.0; printable = rw c.told_of.ensures s.1 }
