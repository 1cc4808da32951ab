-- `writer::lengths::mark_width` counts no digits, or those of the word. Assumes nothing.
use Prim.Native.Nat.{zero-le}
use mathlib.Core.Path.{sym, ap}
use native.Mathlib.Omega.{arith}
use lib.ListN.{length}
use Rattle.ascii.specs.DecimalLaws.{decimal_long}
use Rattle.writer.proofs.MarkLaws.{mark_none, mark_some}
use Rattle.writer.proofs.lengths.mark_width.Goals.{Else-words-parent}
use Rattle.writer.proofs.lengths.mark_width.Goals as goal

pub returns-then-words-parent : goal.returns-then-words-parent
returns-then-words-parent c =
    let a = c.args in
    let d = mark_none a.words.now a.v a.row.now _ (omega arith) (rw c.parent.ensures at c.if-words-parent.true) in
    (sym (ap length d), zero-le)

pub returns : goal.returns
returns c =
    let a = c.args in
    let d = mark_some a.words.now a.v a.row.now _ (omega arith) (rw c.parent.ensures at c.if-words-parent.false) in (
      rw (d, ← c.from.ensures) c.width.ensures,
      omega (arith, c.width.ensures, decimal_long 4 c.from.result (omega arith)),
    )
