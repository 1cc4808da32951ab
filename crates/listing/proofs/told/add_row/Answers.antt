-- `listing::told::add_row` adds a slot's run as the file has it, and the study is kept. Assumes nothing.
use native.Mathlib.Omega.{arith}
use Rattle.runs.proofs.HistoryLaws.{called_kept}
use Rattle.listing.specs.Listing.{study_words, slot_call}
use Rattle.listing.specs.ListingLaws.{slot_word}
use Rattle.listing.proofs.told.add_row.Goals as goal

pub returns : goal.returns
returns c =
    let a = c.args in
    let w = a.words.now in
    let call = slot_call a.bytes.now a.n a.j in
    let word = slot_word a.bytes.now a.n a.j (λ x. omega (arith, c.type_inv.bytes x)) in
    let o = rw (c.identifier_of.ensures, c.row_into.ensures) at c.add_formed.ensures.answer in
    let e = rw (c.identifier_of.ensures, c.row_into.ensures) at c.add_formed.ensures.words in
    record { answer = o; words = e; kept = rw e (called_kept study_words a.n w c.requires.0 call word) }
