-- `writer::texts::Pen::put_text` puts a number, or a pair of brackets child by child: the chain that is left decides. Assumes nothing.
use Prim.Native.Nat.{◌-◌}
use lib.ListN.{length}
use Rattle.writer.specs.Nesting.{kids_in, table_child}
use Rattle.writer.specs.Putting.{Putting}
use Rattle.writer.proofs.texts.Pen.+put_text.Given as goal

-- how deep brackets may stand in one another falls
abbrev pub decreases-put_text : goal.decreases-put_text
decreases-put_text l = l.left

abbrev pub invariant-loop-c : goal.invariant-loop-c
invariant-loop-c l =
    Putting l.self.tree.n l.self.chains.now.head l.self.chains.now.next (table_child l.self.chains.now.head l.self.chains.now.next l.left l.self.tree.n l.self.words.now) (kids_in l.self.chains.now.head l.self.chains.now.next l.v) l.initial.out l.initial.e l.c l.out l.e

abbrev pub decreases-loop-c : goal.decreases-loop-c
decreases-loop-c l = length l.out - l.e
