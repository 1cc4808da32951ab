-- `report::formed_checks` answers the first of its checks that applies. Assumes nothing.
use mathlib.Core.Path.{◌∙◌}
use Rattle.report.proofs.CallLaws.{words_stop, threshold_stops, threshold_goes}
use Rattle.report.proofs.formed_checks.Goals as goal

pub returns-in_err-words_both : goal.returns-in_err-words_both
returns-in_err-words_both c =
    let a = c.args in
    words_stop a.words.now a.p a.agreed.now a.support.now c.requires c.samples.ensures _ c.in_err-words_both.field-0.0
    c.from_residual.ensures.1 c.in_err-words_both.ensures

pub returns-in_err-threshold_given : goal.returns-in_err-threshold_given
returns-in_err-threshold_given c =
    let a = c.args in
    threshold_stops a.words.now a.p a.agreed.now a.support.now c.requires c.samples.ensures c.in_ok-words_both.ensures
    c.threshold-t.ensures _ c.in_err-threshold_given.field-0.0 c.from_residual-in_err-threshold_given.ensures.1 c.in_err-threshold_given.ensures

pub returns : goal.returns
returns c =
    let a = c.args in
    c.runs_given.ensures ∙ threshold_goes a.words.now a.p a.agreed.now a.support.now c.requires c.samples.ensures c.in_ok-words_both.ensures
    c.threshold-t.ensures c.in_ok-threshold_given.ensures c.in_force-k.ensures
