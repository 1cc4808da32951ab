-- `text::lines::put_refusal` writes the refusal line. Assumes nothing.
use Rattle.text.specs.Lines.{refusal_line}
use Rattle.text.proofs.lines.put_refusal.Goals as goal

pub returns : goal.returns
unfolding refusal_line
returns c = c.put_line.ensures
