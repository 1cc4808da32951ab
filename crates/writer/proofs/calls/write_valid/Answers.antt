-- `writer::calls::write_valid` refuses a text that is longer than the buffer, and puts it else. Assumes nothing.
use native.Mathlib.Omega.{arith}
use Rattle.judge.proofs.KnownRows.{known_valid}
use Rattle.newick.specs.RowText.{written}
use Rattle.writer.specs.Lengths.{wanted_by}
use Rattle.writer.specs.WritingsLaws.{room_short}
use Rattle.writer.proofs.AnswerLaws.{room_put}
use Rattle.writer.proofs.calls.write_valid.Goals as goal

pub text_length-requires : goal.text_length-requires
text_length-requires c = (known_valid _ _ c.args.tree.valid, c.requires)

pub returns-then-text-text_length : goal.returns-then-text-text_length
returns-then-text-text_length c =
    let answer = room_short (written c.args.tree.n c.args.tree.row.now (wanted_by c.args.words.now)) c.args.text.now
    (omega (arith, c.text_length.ensures, c.if-text-text_length.true)) in
    record { result_value = rw c.new.ensures answer.0; text_after = answer.1 }

pub returns : goal.returns
returns c =
    let answer = room_put (written c.args.tree.n c.args.tree.row.now (wanted_by c.args.words.now)) c.args.text.now _ _
    (omega (arith, c.text_length.ensures, c.if-text-text_length.false)) c.put_row.ensures in
    record { result_value = answer.0; text_after = answer.1 }
