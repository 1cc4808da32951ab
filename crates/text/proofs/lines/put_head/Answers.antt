-- `text::lines::put_head` writes the first line. Assumes nothing.
use Rattle.text.specs.Lines.{head_line}
use Rattle.text.proofs.lines.put_head.Goals as goal

pub returns : goal.returns
unfolding head_line
returns c = rw c.from.ensures at c.put_line.ensures
