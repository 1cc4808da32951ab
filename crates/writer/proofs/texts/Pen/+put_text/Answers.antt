-- `writer::texts::Pen::put_text` puts a number, or a pair of brackets child by child: the chain that is left decides. Assumes nothing.
use Prim.Native.Nat.{ℕ, ◌-◌}
use mathlib.Core.Path.{◌≡◌, refl, sym, ◌∙◌}
use mathlib.Core.List.{List, ◌∷◌}
use native.Mathlib.Omega.{arith}
use lib.Dec.{eqb, ltb}
use borrow.Author.Tests.{eqb-false, ltb-false}
use Rattle.trees.proofs.BoolLaws.{or_none}
use Rattle.put.specs.WritingLaws.{put_then}
use Rattle.writer.specs.Lengths.{wanted_by}
use Rattle.newick.specs.Bytes.{opening_byte}
use Rattle.writer.specs.Nesting.{behind, in_pair, kids_in, table_text, table_child}
use Rattle.writer.specs.NestingLaws.{nest_number, nest_pair}
use Rattle.writer.proofs.PuttingLaws.{charted_word, open_room, putting_start, putting_text, putting_mark}
use Rattle.writer.proofs.PuttingLaws.{putting_room, putting_close, putting_again}
use Rattle.writer.proofs.texts.Pen.+put_text.Goals.{Else-left-v, At-loop-c}
use Rattle.writer.proofs.texts.Pen.+put_text.Goals as goal

module _ (t : ℕ) where
  -- behind the opening bracket
  abbrev inner : Else-left-v t → List ℕ
  inner c = let a = c.args in in_pair (table_child a.self.now.chains.now.head a.self.now.chains.now.next a.left a.self.now.tree.n a.self.now.words.now) (kids_in a.self.now.chains.now.head a.self.now.chains.now.next a.v)

  paired : (c : Else-left-v t) → let a = c.args in
      table_text a.self.now.chains.now.head a.self.now.chains.now.next a.left a.self.now.tree.n a.self.now.words.now a.v ≡ opening_byte ∷ inner c
  paired c = let a = c.args in nest_pair _ a.left a.self.now.tree.n _ a.v c.if-left-v.false

  -- the two parts of a child's text
  abbrev bare : At-loop-c t → List ℕ
  bare c = let a = c.args in table_text a.self.now.chains.now.head a.self.now.chains.now.next (a.left - 1) a.self.now.tree.n a.self.now.words.now c.loop-c.c

  abbrev mark : At-loop-c t → List ℕ
  mark c = let a = c.args in behind a.self.now.tree.n (wanted_by a.self.now.words.now) c.loop-c.c

pub put_number-requires : goal.put_number-requires
put_number-requires t c = let a = c.args in rw (nest_number _ a.left a.self.now.tree.n _ a.v c.if-left-v.true) at c.requires.2

pub returns-then-left-v : goal.returns-then-left-v
returns-then-left-v t c = let a = c.args in rw (nest_number _ a.left a.self.now.tree.n _ a.v c.if-left-v.true) c.put_number.ensures

pub put_byte-e-requires : goal.put_byte-e-requires
put_byte-e-requires t c = omega (arith, rw (paired t (goal.at.put_byte-e-requires t c).Else-left-v) at c.requires.2)

pub loop-c-init : goal.loop-c-init
loop-c-init t c =
    let a = c.args in
    let e = (goal.at.loop-c-init t c).Else-left-v in
    let h = ltb-false a.v a.self.now.tree.n (or_none (eqb a.left 0) (ltb a.v a.self.now.tree.n) c.if-left-v.false).1 in
    putting_start c.requires.0 h (open_room (inner t e) (rw (paired t e) at c.requires.2) c.put_byte-e.ensures) c.from-c.ensures

pub put_text-e-requires : goal.put_text-e-requires
put_text-e-requires t c =
    let a = c.args in
    let l = (goal.at.put_text-e-requires t c).At-loop-c in
    let left = eqb-false a.left 0 (or_none (eqb a.left 0) (ltb a.v a.self.now.tree.n) c.if-left-v.false).0 in
    (omega (arith, c.decreases, left), (c.loop-c.invariant.chart, c.requires.1, putting_text c.loop-c.invariant (bare t l) (mark t l) refl))

pub put_mark-e-requires : goal.put_mark-e-requires
put_mark-e-requires t c =
    let l = (goal.at.put_mark-e-requires t c).At-loop-c in
    let room = putting_mark c.loop-c.invariant (bare t l) (mark t l) refl c.put_text-e.ensures in
    (charted_word c.loop-c.invariant.chart c.args.self.now.words.now c.requires.1, room)

pub put_byte-requires : goal.put_byte-requires
put_byte-requires t c = putting_room c.loop-c.invariant (put_then c.put_text-e.ensures c.put_mark-e.ensures)

pub returns-then-c-eq0 : goal.returns-then-c-eq0
returns-then-c-eq0 t c =
    rw (paired t (goal.at.returns-then-c-eq0 t c).Else-left-v) (put_then c.put_byte-e.ensures
    (putting_close c.loop-c.invariant (put_then c.put_text-e.ensures c.put_mark-e.ensures)
    (sym c.from-c-in-loop-c.ensures ∙ c.if-c-eq0.true) c.put_byte.ensures (omega arith)))

pub put_byte-e-requires-in-loop-c : goal.put_byte-e-requires-in-loop-c
put_byte-e-requires-in-loop-c t c = putting_room c.loop-c.invariant (put_then c.put_text-e.ensures c.put_mark-e.ensures)

pub loop-c-preserved : goal.loop-c-preserved
loop-c-preserved t c =
    putting_again c.loop-c.invariant (put_then c.put_text-e.ensures c.put_mark-e.ensures)
    (λ z. c.if-c-eq0.false (c.from-c-in-loop-c.ensures ∙ z)) c.from-c-in-loop-c.ensures c.put_byte-e-in-loop-c.ensures (omega arith)
