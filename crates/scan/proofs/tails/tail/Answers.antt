-- `scan::tails::tail` passes blanks by, and what follows a colon. Assumes nothing.
use mathlib.Core.Path.{sym, ◌∙◌}
use Rattle.scan.specs.ScanningLaws.{tail_none, tail_length}
use Rattle.scan.proofs.tails.tail.Goals as goal

pub returns-then-look-ne58 : goal.returns-then-look-ne58
returns-then-look-ne58 c =
    tail_none _ _ _ c.skip_blanks-a.ensures c.requires (λ e. c.if-look-ne58.true (c.look.ensures ∙ e))

pub returns : goal.returns
returns c =
    tail_length _ _ _ c.skip_blanks-a.ensures c.branch_length.result (sym c.look.ensures ∙ c.if-look-ne58.false)
    c.branch_length.ensures
