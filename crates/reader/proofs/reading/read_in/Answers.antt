-- `reader::reading::read_in` renumbers what was laid. Assumes nothing.
use Rattle.reader.specs.ResultLaws.{read_valid, read-words}
use Rattle.reader.proofs.reading.read_in.Goals as goal

pub renumber_front-requires : goal.renumber_front-requires
renumber_front-requires c = (read_valid _ _ _ c.requires.0 c.requires.1 c.in_ok-lay_text.ensures, c.requires.2)

pub returns-clause-out_after : goal.returns-clause-out_after
returns-clause-out_after c =
    (read-words c.args.text.now c.args.n c.lay_text.new.row c.requires.0 c.requires.1 c.in_ok-lay_text.ensures c.args.out.now c.renumber_front.new.out
    c.renumber_front.ensures).1
