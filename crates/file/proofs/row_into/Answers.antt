-- `file::row_into` reads the words of a slot's row: those that are left decide. Assumes nothing.
use Prim.Native.Nat.{◌+◌, ◌*◌, ◌≤◌}
use mathlib.Core.Path.{◌≡◌, sym, ◌∙◌}
use native.Mathlib.Omega.{arith}
use lib.ListN.{length}
use Rattle.trees.specs.Checks.{row_words}
use Rattle.file.specs.Files.{slot_row}
use Rattle.file.proofs.FileLaws.{bytes_next, slot_fits, length_slot, slot_word}
use Rattle.file.proofs.Laws.{filled_start, filled_next, filled_end}
use borrow.Author.Rules.{rules}
use Rattle.file.proofs.row_into.Goals.{In-loop-i}
use Rattle.file.proofs.row_into.Goals as goal

-- the slot's row lies within the bytes, and the row that is written is as long
room : (c : In-loop-i) → let a = c.args in
    (c.file_bytes-at.result + 2 + 2 * row_words a.n ≤ length a.bytes.now) × (length c.loop-i.row ≡ row_words a.n)
room c = let a = c.args in
    (omega (arith, bytes_next a.n a.j), c.loop-i.invariant.long ∙ length_slot a.bytes.now a.n a.j)

pub file_bytes-at-requires : goal.file_bytes-at-requires
file_bytes-at-requires c = let a = c.args in slot_fits a.n a.j (length a.bytes.now) (search rules) (search rules)

pub overflow_add-at : goal.overflow_add-at
overflow_add-at c = let a = c.args in omega (arith, bytes_next a.n a.j)

pub loop-i-init : goal.loop-i-init
loop-i-init c = let a = c.args in filled_start (omega (arith, length_slot a.bytes.now a.n a.j))

pub overflow_add-at-in-loop-i : goal.overflow_add-at-in-loop-i
overflow_add-at-in-loop-i c = omega (arith, room (goal.at.overflow_add-at-in-loop-i c).In-loop-i)

pub word_at-requires : goal.word_at-requires
word_at-requires c = omega (arith, room (goal.at.word_at-requires c).In-loop-i)

pub loop-i-preserved : goal.loop-i-preserved
loop-i-preserved c =
    let l = c.loop-i in
    filled_next (slot_row c.args.bytes.now c.args.n c.args.j) l.row l.i l.invariant c.word_at.result
    (omega (arith, length_slot c.args.bytes.now c.args.n c.args.j))
    (c.word_at.ensures ∙ rw c.file_bytes-at.ensures
    (sym (slot_word c.args.bytes.now c.args.n c.args.j l.i (omega (arith, room (goal.at.loop-i-preserved c).In-loop-i)))))

pub returns : goal.returns
returns c =
    let l = c.loop-i in
    filled_end (slot_row c.args.bytes.now c.args.n c.args.j) l.row l.i l.invariant
    (omega (arith, l.invariant.long, length_slot c.args.bytes.now c.args.n c.args.j))
