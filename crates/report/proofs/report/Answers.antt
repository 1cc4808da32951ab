-- `report::report` refuses, or writes both rows. Assumes nothing.
use Rattle.report.proofs.CallLaws.{report_stops}
use Rattle.report.proofs.report.Goals as goal

pub returns-in_err-report_checks : goal.returns-in_err-report_checks
returns-in_err-report_checks c =
    let a = c.args in
    let stops = report_stops a.words.now a.p a.agreed.now a.support.now _ c.in_err-report_checks.field-0.0 c.from_residual.ensures.1 c.in_err-report_checks.ensures in
    record { answer = stops.0; agreed = stops.1.0; support = stops.1.1 }
