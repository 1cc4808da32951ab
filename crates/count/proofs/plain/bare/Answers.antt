-- `count::plain::bare` writes word by word. Assumes nothing.
use native.Mathlib.Omega.{arith}
use mathlib.Core.Path.{◌≡◌, sym, ◌∙◌}
use lib.ListN.{length}
use Rattle.trees.specs.Checks.{row_words}
use Rattle.count.specs.TakingLaws.{tabled_words, bare_length}
use Rattle.count.specs.Plain.{bare_row}
use Rattle.count.proofs.plain.bare.Goals as goal

pub returns : goal.returns
returns c =
    let n = c.args.n in
    let b : length (bare_row n) ≡ row_words n = bare_length n c.requires.0 in
    let e : c.loop-w.w ≡ row_words n = omega (arith, c.loop-w.auto.out) in
    tabled_words (bare_row n) c.loop-w.out (c.loop-w.auto.out ∙ c.requires.2 ∙ sym b) (rw (b, ← e) c.loop-w.invariant)
