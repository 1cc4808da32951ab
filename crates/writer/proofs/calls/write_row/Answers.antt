-- `writer::calls::write_row` hands a refusal on, and writes a row that is valid. Assumes nothing.
use mathlib.Core.List.{[], ◌∷◌}
use Rattle.trees.specs.Checks.{row_checks}
use Rattle.newick.specs.RowText.{check_room, written}
use Rattle.judge.proofs.KnownRows.{shown_valid}
use Rattle.writer.specs.Lengths.{wanted_by}
use Rattle.writer.proofs.AnswerLaws.{answer_stops, answer_goes, row_valid}
use Rattle.writer.proofs.calls.write_row.Goals as goal

pub returns-in_err-check_row : goal.returns-in_err-check_row
returns-in_err-check_row c =
    let text = c.args.text.now in
    let bytes = written c.args.n c.args.row.now (wanted_by c.args.words.now) in
    let answer = answer_stops (row_checks c.args.n c.args.row.now) (check_room bytes text ∷ []) bytes text _ c.in_err-check_row.field-0.0 c.from_residual.ensures.1 c.in_err-check_row.ensures in
    record { result_value = answer.0; text_after = answer.1 }

pub invariant_of-write_valid : goal.invariant_of-write_valid
invariant_of-write_valid c =
    let pre = c.requires in
    record { valid = shown_valid _ _ (row_valid _ _ (pre.0, pre.1, pre.2) c.in_ok-check_row.ensures) }

pub returns : goal.returns
returns c =
    let text = c.args.text.now in
    let bytes = written c.args.n c.args.row.now (wanted_by c.args.words.now) in
    let rest = c.write_valid.ensures in
    let answer = answer_goes (row_checks c.args.n c.args.row.now) (check_room bytes text ∷ []) bytes text _ _ c.in_ok-check_row.ensures (rest.result_value, rest.text_after) in
    record { result_value = answer.0; text_after = answer.1 }
