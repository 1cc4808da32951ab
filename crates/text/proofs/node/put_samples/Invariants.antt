-- `text::node::put_samples` puts the samples whose parents are marked: those that are left decide. Assumes nothing.
use Rattle.text.specs.Marks.{parent_marked}
use Rattle.text.specs.Room.{sample_bytes}
use Rattle.text.proofs.Laws.{FieldsLeft, fields_from}
use Rattle.text.proofs.node.put_samples.Given as goal

abbrev pub invariant-loop-s : goal.invariant-loop-s
invariant-loop-s l =
    FieldsLeft sample_bytes l.s (fields_from (parent_marked l.marks l.row) l.s l.n) l.out l.next (fields_from (parent_marked l.marks l.row) 0 l.n) l.initial.out l.at
