-- `scan::tails::branch_length` passes blanks, digits and what follows a point by, or stops. Assumes nothing.
use mathlib.Core.Path.{sym, ◌∙◌}
use Rattle.scan.specs.ScanningLaws.{length_none, length_whole, length_part}
use Rattle.scan.proofs.tails.branch_length.Goals as goal

pub returns-then-b-a : goal.returns-then-b-a
returns-then-b-a c =
    length_none _ _ _ _ c.skip_blanks-a.ensures c.skip_digits-b.ensures c.if-b-a.true

pub returns-then-look-ne46 : goal.returns-then-look-ne46
returns-then-look-ne46 c =
    length_whole _ _ _ _ c.skip_blanks-a.ensures c.skip_digits-b.ensures c.if-b-a.false c.requires _
    (λ e. c.if-look-ne46.true (c.look.ensures ∙ e)) c.skip_blanks.ensures

pub returns : goal.returns
returns c =
    length_part _ _ _ _ c.skip_blanks-a.ensures c.skip_digits-b.ensures c.if-b-a.false c.requires c.fraction.result
    (sym c.look.ensures ∙ c.if-look-ne46.false) c.fraction.ensures
