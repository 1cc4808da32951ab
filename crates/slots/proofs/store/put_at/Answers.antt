-- `slots::put_at` meets its contract: a gap, then the slot's words in it. Assumes nothing.
use Rattle.trees.specs.Checks.{row_words}
use Rattle.trees.specs.Numbering.{renumbered}
use Rattle.trees.proofs.NumberingLaws.{renumbered_standard}
use Rattle.judge.proofs.KnownRows.{known_valid}
use Rattle.slots.proofs.MoveLaws.{put_law}
use Rattle.slots.proofs.store.put_at.Goals as goal

pub returns : goal.returns
returns c =
    let a = c.args in
    put_law a.words.now (renumbered a.tree.n a.tree.row.now) a.from a.to a.id (row_words a.tree.n)
    (renumbered_standard a.tree.n a.tree.row.now (known_valid _ _ c.args.tree.valid)).valid.words c.requires.0 c.requires.1
    (rw c.slot_words.ensures at c.copy_within.ensures.after) c.put_row.ensures
