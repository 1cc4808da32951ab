-- `candidates::enough` takes the first run where one run is tried, and the candidates of all runs where there are more. Assumes nothing.
use mathlib.Core.Path.{sym, ◌∙◌}
use Rattle.passes.proofs.StandardRows.{standard_over}
use Rattle.count.specs.StudyLaws.{held_study, study_few}
use Rattle.candidates.specs.CandidateLaws.{candidates_enough, first_enough}
use native.Mathlib.Omega.{arith}
use Rattle.candidates.proofs.enough.Goals as goal

pub references-requires : goal.references-requires
references-requires c =
    (c.requires.1.1, study_few _ _ _ (held_study c.args.study))

pub returns-then-references-eq1 : goal.returns-then-references-eq1
returns-then-references-eq1 c =
    let s = c.args.study in
    first_enough s.words.now s.n s.k (held_study s) c.args.t c.requires.0 c.requires.1 (omega (arith, c.references.ensures)) _
    (c.copy.ensures ∙ c.run_row.ensures.row)

pub returns : goal.returns
returns c =
    let s = c.args.study in
    candidates_enough s.words.now s.n s.k (held_study s) c.args.t c.requires.0 c.requires.1 _ c.candidates.ensures

pub copy-requires : goal.copy-requires
copy-requires c =
    c.requires.2 ∙ sym (standard_over c.run_row.result.standard c.run_row.ensures.samples).valid.words
