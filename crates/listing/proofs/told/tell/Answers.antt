-- `listing::told::tell` meets its contract: the study's rows stand at the front of their buffers. Assumes nothing.
use Prim.Native.Nat.{◌*◌, ◌≤◌}
use mathlib.Core.Path.{◌∙◌}
use native.Mathlib.Omega.{arith}
use lib.ListN.{drop, length-take}
use Rattle.trees.specs.Checks.{most_samples}
use Rattle.listing.specs.ListingLaws.{handed_on, told_refused, ready_kept, ready_listed, shows_front}
use Rattle.listing.specs.Listing.{listed}
use Rattle.listing.proofs.told.tell.Goals.{In_ok-sizes}
use Rattle.listing.proofs.told.tell.Goals as goal

-- there are few enough samples for the rows to fit in their buffers
few : (c : In_ok-sizes) → c.in_ok-sizes.sizes.samples ≤ most_samples
few c =
    let k = ready_kept _ c.in_ok-sizes.was c.load.ensures.loaded in
    omega (arith, k.formed.most, k.same)

pub returns-in_err-sizes : goal.returns-in_err-sizes
returns-in_err-sizes c =
    let x = c.in_err-sizes.field-0.0 in
    let e = handed_on _ x c.from_residual.ensures.1 in
    let s = told_refused c.load.new.words c.args.agreed.now c.args.support.now (listed c.args.bytes.now) e
    (rw e c.in_err-sizes.ensures.words_after) in
    record { support_after = s.0; printable = s.1 }

pub overflow_mul-n : goal.overflow_mul-n
overflow_mul-n c = omega (arith, few (goal.at.overflow_mul-n c).In_ok-sizes)

pub slice_bounds-report_ready-end : goal.slice_bounds-report_ready-end
slice_bounds-report_ready-end c = omega (arith, few (goal.at.slice_bounds-report_ready-end c).In_ok-sizes)

pub slice_bounds-report_ready-end-2 : goal.slice_bounds-report_ready-end-2
slice_bounds-report_ready-end-2 c = simp length-take (omega (arith, few (goal.at.slice_bounds-report_ready-end-2 c).In_ok-sizes))

pub overflow_mul-n-2 : goal.overflow_mul-n-2
overflow_mul-n-2 c = omega (arith, few (goal.at.overflow_mul-n-2 c).In_ok-sizes)

pub slice_bounds-report_ready-end-3 : goal.slice_bounds-report_ready-end-3
slice_bounds-report_ready-end-3 c = omega (arith, few (goal.at.slice_bounds-report_ready-end-3 c).In_ok-sizes)

pub slice_bounds-report_ready-end-4 : goal.slice_bounds-report_ready-end-4
slice_bounds-report_ready-end-4 c = simp length-take (omega (arith, few (goal.at.slice_bounds-report_ready-end-4 c).In_ok-sizes))

pub report_ready-requires : goal.report_ready-requires
report_ready-requires c = (
  ready_kept _ c.in_ok-sizes.was c.load.ensures.loaded,
  simp length-take (omega (arith, few (goal.at.report_ready-requires c).In_ok-sizes)),
  simp length-take (omega (arith, few (goal.at.report_ready-requires c).In_ok-sizes)),
)

pub returns : goal.returns
returns c =
    let s = shows_front c.report_ready.result _ _ (drop (2 * c.in_ok-sizes.sizes.samples) c.args.agreed.now)
    (drop (2 * c.in_ok-sizes.sizes.samples) c.args.support.now) c.report_ready.ensures.printable in
    record { support_after = s.0 ∙ c.report_ready.ensures.support_after ∙ ready_listed _ _ c.in_ok-sizes.was c.load.ensures.words_after; printable = s.1 }
