-- `writer::texts::put_row` makes the tables, from tables of zeros, and puts the text. Assumes nothing.
use Rattle.writer.proofs.texts.put_row.Goals as goal

pub put_whole-requires : goal.put_whole-requires
put_whole-requires c = (c.fill.ensures, c.requires.0, c.requires.1)
