-- `passes::standard::is_standard` meets its contract: the first test that fails decides. Assumes nothing.
use Rattle.trees.specs.Linear.{spans}
use Rattle.trees.specs.Rows.{nodes}
use Rattle.trees.specs.Checks.{row_words}
use Rattle.trees.proofs.BoolLaws.{and_l, and_r}
use Prim.Native.Nat.{◌<◌}
use lib.Dec.{ltb}
use mathlib.Core.Bool.{true}
use borrow.Author.Tests.{ltb-true}
use Rattle.trees.proofs.LinearLaws.{spans_decides, falling_decides, rest_decides}
use Rattle.trees.proofs.FallsLaws.{falls_to}
use native.Mathlib.Omega.{arith}
use mathlib.Core.Path.{◌≡◌, sym, ◌∙◌}
use Rattle.passes.proofs.standard.is_standard.Goals.{Else-not-n-m}
use Rattle.passes.proofs.standard.is_standard.Goals as goal

-- past the first test m is in range
spanned : (c : Else-not-n-m) → spans c.args.n (nodes c.args.row.now) ≡ true
spanned c = rw (← c.nodes-m.ensures) c.if-not-n-m.false

in-range : (c : Else-not-n-m) → (c.args.n < nodes c.args.row.now)
    × (nodes c.args.row.now < row_words c.args.n)
in-range c =
    let n = c.args.n in
    let m = nodes c.args.row.now in
    (ltb-true n m (and_l (ltb n m) (ltb m (row_words n)) (spanned c)), ltb-true m (row_words n) (and_r (ltb n m) (ltb m (row_words n)) (spanned c)))

pub returns-then-not-n-m : goal.returns-then-not-n-m
returns-then-not-n-m c =
    spans_decides c.args.n c.args.row.now c.requires.1 c.requires.2 (rw (← c.nodes-m.ensures) c.if-not-n-m.true)

pub falling-requires : goal.falling-requires
falling-requires c = omega (arith, (in-range c).1, c.requires.2)

pub returns-then-not-falling : goal.returns-then-not-falling
returns-then-not-falling c =
    falling_decides c.args.n c.args.row.now c.requires.1 c.requires.2 (sym c.falling.ensures ∙ c.if-not-falling.true)

pub filler_zero-requires : goal.filler_zero-requires
filler_zero-requires c = (c.requires.2, (in-range (goal.at.filler_zero-requires c).Else-not-n-m).1)

pub invariant_of-ranked : goal.invariant_of-ranked
invariant_of-ranked c =
    let spans = in-range (goal.at.invariant_of-ranked c).Else-not-n-m in
    record { falls = falls_to c.args.n c.args.row.now c.requires.1 c.requires.2 spans.0 spans.1 (sym c.falling.ensures ∙ c.if-not-falling.false) }

pub returns : goal.returns
returns c =
    rw (c.filler_zero.ensures, c.ranked.ensures) (rest_decides c.args.n c.args.row.now c.requires.1 c.requires.2 (spanned (goal.at.returns c).Else-not-n-m)
    (sym c.falling.ensures ∙ c.if-not-falling.false))
