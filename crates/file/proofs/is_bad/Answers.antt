-- `file::is_bad` answers whether the file is refused with 15. Assumes nothing.
use Prim.Native.Nat.{◌≤◌}
use mathlib.Core.Path.{refl, sym}
use lib.ListN.{length}
use Rattle.trees.proofs.CheckLaws.{outside_not}
use Rattle.file.specs.Files.{head_bytes, most_bytes}
use Rattle.file.proofs.FileLaws.{bad_far, bad_near, begins_is}
use Rattle.file.proofs.is_bad.Goals.{Else-len}
use Rattle.file.proofs.is_bad.Goals as goal

-- past the first test the header is there
near : (c : Else-len) → head_bytes ≤ length c.args.bytes.now
near c = (outside_not head_bytes most_bytes (length c.args.bytes.now) c.if-len.false).0

pub returns-then-len : goal.returns-then-len
returns-then-len c = sym (bad_far c.args.bytes.now c.if-len.true)

pub returns : goal.returns
returns c =
    let e : Else-len = (goal.at.returns c).Else-len in
    let near = bad_near e.args.bytes.now e.if-len.false in
    rw (near, c.starts_with.ensures.value, begins_is, c.word_at.ensures, c.fitting.ensures) refl
