-- `listing::told::add_slots` adds slot by slot: those that are left decide. Assumes nothing.
use Prim.Native.Nat.{◌-◌}
use mathlib.Core.Path.{◌≡◌}
use Rattle.trees.specs.Lists.{tabulate}
use Rattle.runs.specs.Formed.{Kept}
use Rattle.listing.specs.Listing.{study_words, slot_call, adds_and_reports}
use Rattle.listing.proofs.told.add_slots.Given as goal

abbrev pub invariant-loop-j : goal.invariant-loop-j
invariant-loop-j l =
    let z = l.sizes in
    let call = slot_call l.bytes z.samples in
    Kept study_words z.samples l.words
    × (adds_and_reports z.samples z.runs l.words (tabulate (z.runs - l.j) call l.j) l.j
    ≡ adds_and_reports z.samples z.runs l.initial.words (tabulate z.runs call 0) 0)
