-- `report::both_rows` writes the agreed row, and from the holders of its groups the support row. Assumes nothing.
use Prim.Native.Nat.{◌<◌}
use mathlib.Core.Path.{◌≡◌, ap, ◌∙◌}
use lib.ListN.{length}
use native.Mathlib.Omega.{arith}
use Rattle.trees.specs.Checks.{row_words}
use Rattle.trees.specs.Valid.{Standard}
use Rattle.trees.specs.Reporting.{agreed}
use Rattle.trees.specs.Thresholds.{InRange}
use Rattle.trees.specs.Majority.{majority}
use Rattle.trees.proofs.FallsLaws.{few, standard_falls}
use Rattle.runs.specs.Words.{runs}
use Rattle.count.specs.Studies.{Study}
use Rattle.count.specs.StudyLaws.{study_few, study_agreed}
use Rattle.report.specs.SupportLaws.{support-row}
use Rattle.report.specs.ReportedLaws.{report_study, report_asks, report_rows}
use Rattle.report.proofs.both_rows.Goals.{After-threshold}
use Rattle.report.proofs.both_rows.Goals as goal

asks : (h : After-threshold) → let a = h.args in let s = h.of-study.result in
    Study a.words.now s.n s.k × (0 < s.k) × InRange h.threshold.result × (length a.agreed.now ≡ row_words s.n) × (length a.support.now ≡ row_words s.n)
asks h = report_asks _ _ _ _ h.requires _ _ _ h.of-study.ensures.1 h.of-study.ensures.2 h.threshold.ensures

-- the row that is to be written is standard
agreed_standard : (h : After-threshold) → let n = h.of-study.result.n in
    Standard n (agreed (majority h.threshold.result) n (runs h.args.words.now))
agreed_standard h = study_agreed _ _ _ (asks h).0 (asks h).1 h.threshold.result (asks h).2

pub of-study-requires : goal.of-study-requires
of-study-requires c = report_study _ _ _ _ c.requires

pub agreed_row-requires : goal.agreed_row-requires
agreed_row-requires c =
    let o = asks (goal.at.agreed_row-requires c).After-threshold in
    (o.1, o.2, o.3, o.4)

pub nodes-requires : goal.nodes-requires
nodes-requires c =
    let q = agreed_standard (goal.at.nodes-requires c).After-threshold in
    let o = rw c.of-study.ensures.0 at c.agreed_row.ensures in
    omega (arith, ap length o.row, q.valid.words, q.valid.least)

pub write_supports-requires : goal.write_supports-requires
write_supports-requires c =
    let o = rw c.of-study.ensures.0 at c.agreed_row.ensures in
    let q = rw (← o.row) at (agreed_standard (goal.at.write_supports-requires c).After-threshold) in
    (omega (arith, c.nodes.ensures, few _ _ (standard_falls _ _ q)), study_few _ _ _ (asks (goal.at.write_supports-requires c).After-threshold).0)

pub returns : goal.returns
returns c =
    let o = rw c.of-study.ensures.0 at c.agreed_row.ensures in
    let long = c.agreed_row.auto.spare ∙ (asks (goal.at.returns c).After-threshold).4 in
    let rows = report_rows _ _ _ _ c.requires _ _ c.of-study.ensures.1 c.threshold.ensures _ _ o.row
    (support-row _ _ _ (asks (goal.at.returns c).After-threshold).0 _ _ (rw (← o.row) at (agreed_standard (goal.at.returns c).After-threshold)) o.holders _ _
    c.nodes.ensures (c.write_supports.auto.out ∙ long) (rw long at c.write_supports.ensures)) in
    record { agreed = rows.0; support = rows.1 }
