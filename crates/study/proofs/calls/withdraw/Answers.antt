-- `study::calls::withdraw` meets its contract. Assumes nothing.
use Rattle.runs.specs.Calls.{withdrawn}
use Rattle.study.proofs.CallLaws.{hands, study_formed, withdraw_unformed}
use Rattle.study.proofs.calls.withdraw.Goals as goal

pub returns-in_err-study_given : goal.returns-in_err-study_given
returns-in_err-study_given c =
    let a = c.args in
    let w = a.words.now in
    let both = hands (withdrawn w a.id) w _ _ c.from_residual.ensures.1
    (withdraw_unformed w c.in_err-study_given.field-0.0 c.in_err-study_given.ensures a.id) in
    record { answer = both.0; words = both.1 }

pub withdraw_formed-requires : goal.withdraw_formed-requires
withdraw_formed-requires c = study_formed _ c.in_ok-study_given.ensures
