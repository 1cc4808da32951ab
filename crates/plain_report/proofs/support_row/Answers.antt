-- `plain_report::support_row` writes the holders of the row. Assumes nothing.
use mathlib.Core.Path.{◌∙◌}
use native.Mathlib.Omega.{arith}
use Rattle.passes.proofs.StandardRows.{standard_few, standard_over}
use Rattle.count.specs.StudyLaws.{held_study, study_few}
use Rattle.report.specs.SupportLaws.{support-row}
use Rattle.plain_report.proofs.support_row.Goals as goal

pub write_supports-requires : goal.write_supports-requires
write_supports-requires c =
    (omega (arith, c.nodes.ensures, standard_few _ _ c.args.row.standard), omega (arith, study_few _ _ _ (held_study c.args.study)))

pub returns : goal.returns
returns c =
    let row = c.args.row in
    let s = c.args.study in
    support-row s.words.now s.n s.k (held_study s) row.row.now _ (standard_over row.standard c.requires.0) c.holders.ensures _ _ c.nodes.ensures
    (c.write_supports.auto.out ∙ c.requires.1) (rw c.requires.1 at c.write_supports.ensures)
