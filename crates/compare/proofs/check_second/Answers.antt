-- `compare::check_second` answers the checks of the second row: those of a row alone, with the place moved. Assumes nothing.
use mathlib.Core.Path.{sym}
use native.Mathlib.Omega.{arith}
use Rattle.trees.specs.Checks.{accepted, refused}
use Rattle.trees.proofs.PlacedLaws.{row_place}
use Rattle.judge.specs.Verdicts.{number_of}
use Rattle.compare.proofs.AnswerLaws.{place_moved}
use Rattle.compare.proofs.check_second.Goals as goal

pub returns-in_default : goal.returns-in_default
returns-in_default c = place_moved _ c.args.second.now accepted c.in_default.ensures

pub overflow_add-refusal : goal.overflow_add-refusal
overflow_add-refusal c = omega (arith, c.requires.1, row_place c.args.n c.args.second.now _ _ c.requires.0 (sym c.in-Err.ensures))

pub returns : goal.returns
returns c =
    let x = c.in-Err.refusal in
    rw c.new.ensures (place_moved _ c.args.second.now (refused (number_of x.reason) x.place) c.in-Err.ensures)
