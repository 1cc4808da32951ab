-- `report::report_checks` answers check 2, or the first of those that are left of a well-formed study. Assumes nothing.
use Rattle.study.proofs.CallLaws.{study_formed}
use Rattle.report.proofs.CallLaws.{study_stops}
use Rattle.report.proofs.report_checks.Goals as goal

pub returns-in_err-study_given : goal.returns-in_err-study_given
returns-in_err-study_given c =
    let a = c.args in
    study_stops a.words.now a.p a.agreed.now a.support.now _ c.in_err-study_given.field-0.0 c.from_residual.ensures.1 c.in_err-study_given.ensures

pub formed_checks-requires : goal.formed_checks-requires
formed_checks-requires c = study_formed _ c.in_ok-study_given.ensures
