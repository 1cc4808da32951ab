-- `writer::texts::Pen::put_mark` puts nothing, or the word's digits. Assumes nothing.
use Prim.Native.Nat.{ℕ}
use mathlib.Core.Path.{ap}
use native.Mathlib.Omega.{arith}
use lib.ListN.{length}
use Rattle.ascii.specs.Decimal.{decimal}
use Rattle.writer.proofs.MarkLaws.{behind_some}
use Rattle.writer.proofs.texts.Pen.put_mark.Goals.{Else-c-self}
use Rattle.writer.proofs.texts.Pen.put_mark.Goals as goal

pub put_number-requires : goal.put_number-requires
put_number-requires c =
    let room = rw (behind_some c.args.self.now.words.now c.args.c c.args.self.now.tree.n c.if-c-self.false) at c.requires.1 in
    omega (arith, room, ap (λ (x : ℕ). length (decimal x)) c.from.ensures)
