-- `plain_report::plain_rows` writes the agreed row, and then the support row beside it. Assumes nothing.
use Prim.Native.Nat.{◌<◌}
use mathlib.Core.Path.{◌≡◌, refl, ◌∙◌}
use lib.ListN.{length}
use Rattle.trees.specs.Checks.{row_words}
use Rattle.trees.specs.Thresholds.{InRange}
use Rattle.trees.proofs.StandardLaws.{standard_from}
use Rattle.count.specs.Studies.{Study}
use Rattle.count.specs.StudyLaws.{study_agreed}
use Rattle.report.specs.ReportedLaws.{report_study, report_asks, report_rows}
use Rattle.plain_report.proofs.plain_rows.Goals.{After-threshold}
use Rattle.plain_report.proofs.plain_rows.Goals as goal

asks : (h : After-threshold) → let a = h.args in let s = h.of-study.result in
    Study a.words.now s.n s.k × (0 < s.k) × InRange h.threshold.result × (length a.agreed.now ≡ row_words s.n) × (length a.support.now ≡ row_words s.n)
asks h = report_asks _ _ _ _ h.requires _ _ _ h.of-study.ensures.1 h.of-study.ensures.2 h.threshold.ensures

pub of-study-requires : goal.of-study-requires
of-study-requires c = report_study _ _ _ _ c.requires

pub agreed_row-requires : goal.agreed_row-requires
agreed_row-requires c =
    let o = asks (goal.at.agreed_row-requires c).After-threshold in
    (o.1, o.3, o.4, o.2)

pub invariant_of-tree : goal.invariant_of-tree
invariant_of-tree c =
    let o = asks (goal.at.invariant_of-tree c).After-threshold in
    let e = rw c.of-study.ensures.0 at c.agreed_row.ensures in
    record { standard = rw e (standard_from _ _ (study_agreed _ _ _ o.0 o.1 _ o.2)) }

pub support_row-requires : goal.support_row-requires
support_row-requires c =
    let o = asks (goal.at.support_row-requires c).After-threshold in
    (refl, c.agreed_row.auto.spare ∙ o.4)

pub returns : goal.returns
returns c =
    let rows = report_rows _ _ _ _ c.requires _ _ c.of-study.ensures.1 c.threshold.ensures _ _ (rw c.of-study.ensures.0 at c.agreed_row.ensures)
    (rw c.of-study.ensures.0 at c.support_row.ensures) in
    record { agreed = rows.0; support = rows.1 }
