-- `listing::told::load` meets its contract: the file, the opening, then the slots. Assumes nothing.
use mathlib.Core.Path.{◌≡◌, sym, ◌∙◌}
use native.Mathlib.Omega.{arith}
use Rattle.trees.specs.Lists.{tabulate}
use Rattle.runs.specs.Formed.{Kept}
use Rattle.file.proofs.FileLaws.{good_length}
use Rattle.listing.specs.Listing.{study_words, slot_call, adds_and_reports, listed}
use Rattle.listing.specs.ListingLaws.{handed_on, listed_bad, load_stops, load_goes}
use Rattle.listing.proofs.told.load.Goals.{In_ok-told_of}
use Rattle.listing.proofs.told.load.Goals as goal

-- the study is open, and the slots decide
goes : (c : In_ok-told_of) → let a = c.args in let z = c.in-Some.sizes in let w = c.«open».new.words in
    Kept study_words z.samples w × (adds_and_reports z.samples z.runs w (tabulate z.runs (slot_call a.bytes.now z.samples) 0) 0 ≡ listed a.bytes.now)
goes c =
    let a = c.args in
    load_goes a.bytes.now c.in-Some.sizes a.words.now c.«open».result (sym c.file_of.ensures ∙ c.in-Some.is) c.requires c.«open».ensures.answer _
    (sym c.told_of.ensures ∙ c.in_ok-told_of.was) c.«open».ensures.words

pub returns-in_default : goal.returns-in_default
returns-in_default c =
    let e = listed_bad c.args.bytes.now (sym c.file_of.ensures ∙ c.in_default.is) in
    record { words_after = rw c.new.ensures (sym e); loaded = tt }

pub returns-in_err-told_of : goal.returns-in_err-told_of
returns-in_err-told_of c =
    let a = c.args in
    let x = c.in_err-told_of.field-0.0 in
    let e = handed_on _ x c.from_residual.ensures.1 in
    let s = load_stops a.bytes.now c.in-Some.sizes a.words.now c.«open».result (sym c.file_of.ensures ∙ c.in-Some.is) c.requires
    c.«open».ensures.answer c.«open».new.words (sym c.told_of.ensures ∙ c.in_err-told_of.was) in
    record { words_after = rw e s.0; loaded = rw e s.1 }

pub add_slots-requires : goal.add_slots-requires
add_slots-requires c =
    let z = c.in-Some.sizes in
    let long = good_length c.args.bytes.now z.samples z.runs (sym c.file_of.ensures ∙ c.in-Some.is) in
    ((goes (goal.at.add_slots-requires c).In_ok-told_of).0, omega (arith, long))

pub returns : goal.returns
returns c = record {
  words_after = c.add_slots.ensures.words_after ∙ (goes (goal.at.returns c).In_ok-told_of).1;
  loaded = c.add_slots.ensures.loaded;
}
