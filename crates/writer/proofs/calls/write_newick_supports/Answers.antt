-- `writer::calls::write_newick_supports` hands a refusal of checks 1 and 3 on, and writes the row else. Assumes nothing.
use mathlib.Core.List.{[], ◌∷◌, ◌++◌}
use native.Mathlib.Omega.{arith}
use Rattle.trees.specs.Checks.{check1, row_checks}
use Rattle.trees.specs.RowCalls.{check3_both}
use Rattle.newick.specs.RowText.{check_room, written, write_checks, writing}
use Rattle.newick.specs.RowText.Wanted.{with_words}
use Rattle.writer.proofs.AnswerLaws.{answer_stops, answer_goes, given_both, wanted_words}
use Rattle.writer.proofs.calls.write_newick_supports.Goals as goal

pub returns-in_err-check_given_both : goal.returns-in_err-check_given_both
unfolding writing write_checks
returns-in_err-check_given_both c =
    let n = c.args.n in
    let r = c.args.row.now in
    let text = c.args.text.now in
    let bytes = written n r (with_words c.args.support.now) in
    let cs = (check1 n ∷ check3_both n r c.args.support.now ∷ []) in
    let ds = row_checks n r ++ (check_room bytes text ∷ []) in
    let answer = answer_stops cs ds bytes text _ c.in_err-check_given_both.field-0.0 c.from_residual.ensures.1 c.in_err-check_given_both.ensures in
    record { result_value = answer.0; text_after = answer.1 }

pub write_row-requires : goal.write_row-requires
write_row-requires c =
    let n = c.args.n in
    let r = c.args.row.now in
    let g = given_both n r c.args.support.now c.in_ok-check_given_both.ensures in
    (g.0.0, g.0.1, g.0.2, λ h. g.1)

pub returns : goal.returns
unfolding writing write_checks
returns c =
    let n = c.args.n in
    let r = c.args.row.now in
    let text = c.args.text.now in
    let bytes = written n r (with_words c.args.support.now) in
    let cs = (check1 n ∷ check3_both n r c.args.support.now ∷ []) in
    let ds = row_checks n r ++ (check_room bytes text ∷ []) in
    let g = given_both n r c.args.support.now c.in_ok-check_given_both.ensures in
    let wanted = wanted_words c.args.support.now (omega (arith, g.0, g.1)) in
    let rest = c.write_row.ensures in
    let answer = answer_goes cs ds bytes text _ _ c.in_ok-check_given_both.ensures (rw wanted at rest.result_value, rw wanted at rest.text_after) in
    record { result_value = answer.0; text_after = answer.1 }
