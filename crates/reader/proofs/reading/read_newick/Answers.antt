-- `reader::reading::read_newick` takes 1 and 3 before the checks of the text. Assumes nothing.
use Rattle.std.proofs.Common.{◌∙◌}
use Rattle.judge.proofs.Laws.{handed_on}
use Rattle.reader.specs.ResultLaws.{read_1, read_3, read_rest}
use Rattle.reader.proofs.reading.read_newick.Goals as goal

pub returns-in_err-samples : goal.returns-in_err-samples
returns-in_err-samples c =
    let a = read_1 c.args.n c.args.text.now c.args.out.now c.in_err-samples.field-0.0 c.in_err-samples.ensures in
    record { result_value = handed_on c.from_residual.result _ c.from_residual.ensures.1 ∙ a.0; out_after = a.1 }

pub returns-in_err-words : goal.returns-in_err-words
returns-in_err-words c =
    let a = read_3 c.args.n c.args.text.now c.args.out.now c.in_ok-samples.ensures c.in_err-words.field-0.0 c.in_err-words.ensures in
    record { result_value = handed_on c.from_residual-in_err-words.result _ c.from_residual-in_err-words.ensures.1 ∙ a.0; out_after = a.1 }

pub returns : goal.returns
returns c =
    let r = c.read_room.ensures in
    let a = read_rest c.args.n c.args.text.now c.args.out.now c.in_ok-samples.ensures c.in_ok-words.ensures _ c.read_room.new.out r.result_value r.out_after in
    record { result_value = a.0; out_after = a.1 }
