-- `study::calls::add` meets its contract. Assumes nothing.
use Rattle.runs.specs.Calls.{added}
use Rattle.study.proofs.CallLaws.{hands, study_formed, add_unformed}
use Rattle.study.proofs.calls.add.Goals as goal

pub returns-in_err-study_given : goal.returns-in_err-study_given
returns-in_err-study_given c =
    let a = c.args in
    let w = a.words.now in
    let both = hands (added w a.id a.row.now) w _ _ c.from_residual.ensures.1
    (add_unformed w c.in_err-study_given.field-0.0 c.in_err-study_given.ensures a.id a.row.now) in
    record { answer = both.0; words = both.1 }

pub add_formed-requires : goal.add_formed-requires
add_formed-requires c = study_formed _ c.in_ok-study_given.ensures
