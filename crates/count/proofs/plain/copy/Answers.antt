-- `count::plain::copy` copies word by word. Assumes nothing.
use mathlib.Core.Path.{◌≡◌, ◌∙◌}
use native.Mathlib.Omega.{arith}
use lib.ListN.{length}
use Rattle.count.specs.TakingLaws.{tabled_words}
use Rattle.count.proofs.plain.copy.Goals as goal

pub returns : goal.returns
returns c =
    let e : c.loop-w.w ≡ length c.args.from.now = omega (arith, c.loop-w.auto.to, c.requires) in
    tabled_words c.args.from.now c.loop-w.to (c.loop-w.auto.to ∙ c.requires) (rw (← e) c.loop-w.invariant)
