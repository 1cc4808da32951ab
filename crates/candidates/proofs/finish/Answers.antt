-- `candidates::finish` counts the holders of the candidates, and keeps those that are shown. Assumes nothing.
use Rattle.passes.proofs.StandardRows.{standard_few, standard_inner}
use Rattle.count.specs.StudyLaws.{held_study, study_few}
use Rattle.candidates.specs.CandidateLaws.{study_mergeable, study_rows}
use native.Mathlib.Omega.{arith}
use Rattle.candidates.proofs.finish.Goals as goal

pub marks-requires : goal.marks-requires
marks-requires c =
    let row = c.args.row in
    let e = c.nodes.ensures in (
      omega (arith, e, standard_inner _ _ row.standard, c.requires.2),
      omega (arith, e, standard_few _ _ row.standard),
      c.requires.1.1,
      study_few _ _ _ (held_study c.args.study),
    )

pub keep_groups-requires : goal.keep_groups-requires
keep_groups-requires c =
    let a = c.args in
    let s = a.study in
    rw c.requires.2 (
      study_mergeable s.words.now s.n s.k (held_study s) a.t c.requires.0 c.requires.1 a.row.row.now c.requires.3 _ _
          c.nodes.ensures _ c.holders.ensures c.marks.ensures,
      c.requires.4,
    )

pub returns : goal.returns
returns c =
    let a = c.args in
    let s = a.study in
    study_rows s.words.now s.n s.k (held_study s) a.t c.requires.0 c.requires.1 a.row.row.now c.requires.3 _ _
    c.nodes.ensures _ c.holders.ensures c.marks.ensures _ _ _ (rw c.requires.2 at c.keep_groups.ensures)
