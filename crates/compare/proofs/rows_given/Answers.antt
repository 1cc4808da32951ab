-- `compare::rows_given` answers the checks of comparing: those that renumbering has, then the second row's. Assumes nothing.
use mathlib.Core.Path.{sym, ◌∙◌}
use Rattle.trees.specs.Checks.{accepted}
use Rattle.judge.proofs.Laws.{handed_on, refuses, accepts}
use Rattle.row.proofs.AnswerLaws.{both_given}
use Rattle.compare.proofs.AnswerLaws.{checks_split}
use Rattle.compare.proofs.rows_given.Goals as goal

pub returns-in_err-check_first : goal.returns-in_err-check_first
returns-in_err-check_first c =
    let a = c.args in
    let x = c.in_err-check_first.field-0.0 in
    handed_on _ x c.from_residual.ensures.1
    ∙ sym (checks_split a.n a.first.now a.second.now accepted ∙ refuses _ _ x c.in_err-check_first.ensures)

pub check_second-requires : goal.check_second-requires
check_second-requires c =
    let a = c.args in
    let ok = both_given a.n a.first.now a.second.now (sym c.in_ok-check_first.ensures) in
    (ok.0.least, ok.0.most, ok.1)

pub returns : goal.returns
returns c =
    let a = c.args in
    c.check_second.ensures
    ∙ sym (checks_split a.n a.first.now a.second.now accepted ∙ accepts _ _ c.in_ok-check_first.ensures)
