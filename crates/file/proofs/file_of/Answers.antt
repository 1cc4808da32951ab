-- `file::file_of` answers that a file is bad, or else its n and k. Assumes nothing.
use Prim.Native.Nat.{◌≤◌}
use mathlib.Core.Path.{refl, sym, ◌∙◌}
use native.Mathlib.Omega.{arith}
use lib.ListN.{length}
use Rattle.file.specs.Files.{head_bytes, file_of}
use Rattle.file.proofs.FileLaws.{not_bad}
use Rattle.file.proofs.file_of.Goals.{Else-is_bad}
use Rattle.file.proofs.file_of.Goals as goal

-- past the test the header is there
near : (c : Else-is_bad) → head_bytes ≤ length c.args.bytes.now
near c = (not_bad c.args.bytes.now (sym c.is_bad.ensures ∙ c.if-is_bad.false)).least

pub returns-then-is_bad : goal.returns-then-is_bad
unfolding file_of
returns-then-is_bad c = rw (sym c.is_bad.ensures ∙ c.if-is_bad.true) refl

pub word_at-requires : goal.word_at-requires
word_at-requires c = omega (arith, near c)

pub word_at-requires-2 : goal.word_at-requires-2
word_at-requires-2 c = omega (arith, near (goal.at.word_at-requires-2 c).Else-is_bad)

pub returns : goal.returns
unfolding file_of
returns c =
    let good = sym c.is_bad.ensures ∙ c.if-is_bad.false in
    rw (good, c.from.ensures, c.word_at.ensures, c.from-2.ensures, c.word_at-2.ensures) refl
