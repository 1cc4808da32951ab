-- `study::calls::add_formed` meets its contract: the identifier and the row are checked, then the slots. Assumes nothing.
use Rattle.runs.proofs.SlotLaws.{formed_long}
use Rattle.judge.proofs.KnownRows.{shown_valid}
use mathlib.Core.Path.{sym, ap, ◌∙◌}
use Rattle.runs.specs.Words.{samples}
use Rattle.trees.specs.Outcomes.{Outcome}
use Rattle.runs.specs.Calls.{added}
use Rattle.study.proofs.CallLaws.{hands, run_valid, added_stops, added_goes}
use Rattle.study.proofs.calls.add_formed.Goals as goal

pub samples-n-requires : goal.samples-n-requires
samples-n-requires c = search formed_long

pub returns-in_err-run_given : goal.returns-in_err-run_given
returns-in_err-run_given c =
    let a = c.args in
    let w = a.words.now in
    let both = hands (added w a.id a.row.now) w _ _ c.from_residual.ensures.1
    (added_stops w c.requires a.id a.row.now c.in_err-run_given.field-0.0 (rw c.samples-n.ensures at c.in_err-run_given.ensures)) in
    record { answer = both.0; words = both.1 }

pub invariant_of-add_valid : goal.invariant_of-add_valid
invariant_of-add_valid c =
    let a = c.args in
    let w = a.words.now in
    record { valid = shown_valid _ _ (rw c.samples-n.ensures (run_valid (samples w) a.id a.row.now c.requires.least c.requires.most (rw c.samples-n.ensures at c.in_ok-run_given.ensures))) }

pub returns : goal.returns
returns c =
    let a = c.args in
    let w = a.words.now in
    let o = added_goes w c.requires a.id a.row.now (rw c.samples-n.ensures at c.in_ok-run_given.ensures) in
    record { answer = c.add_valid.ensures.answer ∙ ap (λ (x : Outcome). x.verdict) (sym o); words = c.add_valid.ensures.words ∙ ap (λ (x : Outcome). x.words) (sym o) }
