-- `study::checks::identifier_in_force` answers check 13, and the slot in which the identifier stands. Assumes nothing.
use mathlib.Core.Path.{refl}
use Rattle.study.proofs.CallLaws.{stands_present, goes_not_present}
use Rattle.study.proofs.checks.identifier_in_force.Goals as goal

pub returns-in-Ok : goal.returns-in-Ok
returns-in-Ok c = (rw (stands_present c.args.words.now c.requires c.args.id _ c.in-Ok.ensures) refl, c.in-Ok.ensures)

pub returns-in-Err : goal.returns-in-Err
returns-in-Err c = rw (c.new.ensures, goes_not_present c.args.words.now c.requires c.args.id _ c.in-Err.ensures) refl
