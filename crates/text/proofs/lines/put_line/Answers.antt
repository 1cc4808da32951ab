-- `text::lines::put_line` writes a text, fields and a line feed. Assumes nothing.
use Rattle.text.specs.Lines.{line_of}
use Rattle.put.specs.WritingLaws.{put_then, put_written}
use borrow.Author.Rules.{rules}
use Rattle.text.proofs.lines.put_line.Goals as goal

pub returns : goal.returns
unfolding line_of
returns c =
    put_written (search rules) (put_then (put_then c.put_bytes-first.ensures c.put_fields-end.ensures.put) c.put_byte.ensures)
