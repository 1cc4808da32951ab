-- `count::plain::agreed_row` takes run after run in, until those that are needed have been tried. Assumes nothing.
use mathlib.Core.Path.{◌≡◌, ◌∙◌}
use native.Mathlib.Omega.{arith}
use Rattle.trees.specs.Majority.{references}
use Rattle.trees.proofs.MajorityLaws.{references_most}
use Rattle.count.specs.StudyLaws.{held_study, study_least, study_most, study_few}
use Rattle.count.specs.PlainLaws.{accepted_start, accepted_end}
use Rattle.count.proofs.plain.agreed_row.Goals as goal

pub bare-requires : goal.bare-requires
bare-requires c =
    let s = held_study c.args.study in
    (study_least _ _ _ s, study_most _ _ _ s, c.requires.1)

pub references-tried-end-requires : goal.references-tried-end-requires
references-tried-end-requires c =
    (omega (arith, c.requires.3), study_few _ _ _ (held_study c.args.study))

pub loop-tried-init : goal.loop-tried-init
loop-tried-init c =
    c.bare.ensures ∙ accepted_start _ _ _ _ (held_study c.args.study) c.requires.0 c.requires.3

pub take_in-requires : goal.take_in-requires
take_in-requires c = (
  omega (arith, c.references-tried-end.ensures, references_most c.args.t c.args.study.k c.requires.0),
  c.loop-tried.invariant,
  omega (arith, c.requires.2),
  c.requires.3,
)

pub returns : goal.returns
returns c =
    let e : c.loop-tried.tried ≡ references c.args.t c.args.study.k = omega (arith, c.references-tried-end.ensures) in
    (rw e at c.loop-tried.invariant) ∙ accepted_end _ _ _ _ (held_study c.args.study) c.requires.0 c.requires.3
