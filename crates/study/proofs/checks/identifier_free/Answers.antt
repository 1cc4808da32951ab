-- `study::checks::identifier_free` answers check 11, and the slot before which the identifier goes. Assumes nothing.
use mathlib.Core.Path.{refl}
use Rattle.study.proofs.CallLaws.{stands_present, goes_not_present}
use Rattle.study.proofs.checks.identifier_free.Goals as goal

pub returns-in-Ok : goal.returns-in-Ok
returns-in-Ok c = rw (c.new.ensures, stands_present c.args.words.now c.requires c.args.id _ c.in-Ok.ensures) refl

pub returns-in-Err : goal.returns-in-Err
returns-in-Err c = (rw (goes_not_present c.args.words.now c.requires c.args.id _ c.in-Err.ensures) refl, c.in-Err.ensures)
