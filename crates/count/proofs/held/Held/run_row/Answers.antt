-- `count::Held::run_row` is the row of slot j, and standard. Assumes nothing.
use native.Mathlib.Omega.{arith}
use Rattle.trees.proofs.StandardLaws.{standard_from}
use Rattle.count.specs.StudyLaws.{held_study, study_most, study_few, study_room, study_standard}
use Rattle.count.proofs.held.Held.run_row.Goals as goal

pub slot_start-requires : goal.slot_start-requires
slot_start-requires c =
    let s = held_study c.args.self in
    (study_most _ _ _ s, omega (arith, study_few _ _ _ s))

pub slot_row-requires : goal.slot_row-requires
slot_row-requires c =
    let s = held_study c.args.self in
    (study_most _ _ _ s, rw c.slot_start.ensures (study_room _ _ _ s c.args.j c.requires))

pub invariant_of-result : goal.invariant_of-result
invariant_of-result c =
    record {
      standard = rw (c.slot_row.ensures, c.slot_start.ensures)
          (standard_from _ _ (study_standard _ _ _ (held_study c.args.self) c.args.j c.requires));
    }
