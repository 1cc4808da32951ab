-- `listing::told::add_slots` adds slot by slot: those that are left decide. Assumes nothing.
use Prim.Native.Nat.{ℕ, ◌+◌}
use mathlib.Core.Path.{sym, ap, ◌∙◌}
use native.Mathlib.Omega.{arith}
use Rattle.trees.specs.Lists.{tabulate}
use Rattle.file.proofs.FileLaws.{bytes_order}
use Rattle.listing.specs.Listing.{slot_call, adds_and_reports}
use Rattle.listing.specs.ListingLaws.{handed_on, adds_end, adds_stops, adds_goes}
use Rattle.listing.proofs.told.add_slots.Goals as goal

pub loop-j-init : goal.loop-j-init
loop-j-init c =
    let z = c.args.sizes in
    let call = slot_call c.args.bytes.now z.samples in
    (c.requires.0, ap (λ (m : ℕ). adds_and_reports z.samples z.runs c.args.words.now (tabulate m call 0) 0) (omega arith))

pub add_slot-requires : goal.add_slot-requires
add_slot-requires c =
    let z = c.args.sizes in
    (c.loop-j.invariant.0, omega (arith, bytes_order z.samples (c.loop-j.j + 1) z.runs (omega arith)))

pub returns-in_err-told_of : goal.returns-in_err-told_of
returns-in_err-told_of c =
    let z = c.args.sizes in
    let o = c.loop-j in
    let x = c.in_err-told_of.field-0.0 in
    let e = handed_on _ x c.from_residual.ensures.1 in
    let s = adds_stops z o.words (slot_call c.args.bytes.now z.samples) o.j (omega arith) c.add_slot.result c.add_slot.ensures.answer
    c.add_slot.new.words (sym c.told_of.ensures ∙ c.in_err-told_of.was) in
    record { words_after = rw e (s.0 ∙ o.invariant.1); loaded = rw e s.1 }

pub loop-j-preserved : goal.loop-j-preserved
loop-j-preserved c =
    let z = c.args.sizes in
    let o = c.loop-j in (
      c.add_slot.ensures.kept,
      adds_goes z o.words (slot_call c.args.bytes.now z.samples) o.j (omega arith) c.add_slot.result c.add_slot.ensures.answer
          _ (sym c.told_of.ensures ∙ c.in_ok-told_of.was) c.add_slot.ensures.words
          ∙ o.invariant.1,
    )

pub returns : goal.returns
returns c =
    let z = c.args.sizes in
    let o = c.loop-j in
    let end = adds_end z.samples z.runs o.words (slot_call c.args.bytes.now z.samples) o.j (omega arith) in
    record { words_after = sym end ∙ o.invariant.1; loaded = o.invariant.0 }
