-- `study::calls::withdraw_formed` meets its contract: the run is not in force, or its slot is closed up. Assumes nothing.
use mathlib.Core.Path.{sym, ap, ◌∙◌}
use Rattle.runs.specs.Calls.{check4, check13, withdrawn}
use Rattle.runs.proofs.MoveLaws.{close_words}
use Rattle.study.proofs.CallLaws.{accepting, leaves, hands, first_stops, second_stops, both_go, withdraw_checked}
use Rattle.study.proofs.calls.withdraw_formed.Goals as goal

pub returns-in_err-identifier_given : goal.returns-in_err-identifier_given
returns-in_err-identifier_given c =
    let a = c.args in
    let w = a.words.now in
    let both = hands (withdrawn w a.id) w _ _ c.from_residual.ensures.1 (withdraw_checked w c.requires a.id
    ∙ first_stops (check4 a.id) (check13 w a.id) w _ c.in_err-identifier_given.field-0.0 c.in_err-identifier_given.ensures) in
    record { answer = both.0; words = both.1 }

pub returns-in_err-at : goal.returns-in_err-at
returns-in_err-at c =
    let a = c.args in
    let w = a.words.now in
    let both = hands (withdrawn w a.id) w _ _ c.from_residual-in_err-at.ensures.1 (withdraw_checked w c.requires a.id
    ∙ second_stops (check4 a.id) (check13 w a.id) w _ c.in_ok-identifier_given.ensures c.in_err-at.field-0.0 c.in_err-at.ensures) in
    record { answer = both.0; words = both.1 }

pub returns : goal.returns
returns c =
    let a = c.args in
    let w = a.words.now in
    let both = leaves (withdrawn w a.id) _ _ (withdraw_checked w c.requires a.id
    ∙ both_go (check4 a.id) (check13 w a.id) w _ c.in_ok-identifier_given.ensures c.in_ok-at.ensures.0
    ∙ ap accepting (sym (c.close_run.ensures ∙ close_words w c.requires a.id _ c.in_ok-at.ensures.1))) in
    record { answer = both.0; words = both.1 }
