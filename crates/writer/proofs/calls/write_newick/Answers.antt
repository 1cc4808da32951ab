-- `writer::calls::write_newick` hands a refusal of checks 1 and 3 on, and writes the row else. Assumes nothing.
use mathlib.Core.List.{[], ◌∷◌, ◌++◌}
use native.Mathlib.Omega.{arith}
use Rattle.trees.specs.Checks.{check1, check3, row_checks}
use Rattle.newick.specs.RowText.{check_room, written, write_checks, writing}
use Rattle.newick.specs.RowText.Wanted.{plain}
use Rattle.writer.proofs.AnswerLaws.{answer_stops, answer_goes, given_one}
use Rattle.writer.proofs.calls.write_newick.Goals as goal

pub returns-in_err-check_given : goal.returns-in_err-check_given
unfolding writing write_checks
returns-in_err-check_given c =
    let n = c.args.n in
    let r = c.args.row.now in
    let text = c.args.text.now in
    let bytes = written n r plain in
    let cs = (check1 n ∷ check3 n r ∷ []) in
    let ds = row_checks n r ++ (check_room bytes text ∷ []) in
    let answer = answer_stops cs ds bytes text _ c.in_err-check_given.field-0.0 c.from_residual.ensures.1 c.in_err-check_given.ensures in
    record { result_value = answer.0; text_after = answer.1 }

pub write_row-requires : goal.write_row-requires
write_row-requires c =
    let n = c.args.n in
    let r = c.args.row.now in
    let g = given_one n r c.in_ok-check_given.ensures in
    (g.0, g.1, g.2, λ h. absurd (omega arith))

pub returns : goal.returns
unfolding writing write_checks
returns c =
    let n = c.args.n in
    let r = c.args.row.now in
    let text = c.args.text.now in
    let bytes = written n r plain in
    let cs = (check1 n ∷ check3 n r ∷ []) in
    let ds = row_checks n r ++ (check_room bytes text ∷ []) in
    let rest = c.write_row.ensures in
    let answer = answer_goes cs ds bytes text _ _ c.in_ok-check_given.ensures (rest.result_value, rest.text_after) in
    record { result_value = answer.0; text_after = answer.1 }
