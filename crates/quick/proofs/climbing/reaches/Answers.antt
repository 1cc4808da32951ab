-- `quick::climbing::reaches` follows the parents: the way that is left ends exactly if the whole way does, in the steps left and at all. Assumes nothing.
use Prim.Native.Nat.{◌-◌, ◌+◌, ◌<◌}
use mathlib.Core.Path.{◌≡◌, refl}
use native.Mathlib.Omega.{arith}
use borrow.Author.Tests.{eq-eqb, ne_eqb}
use borrow.Author.Rules.{rules}
use Rattle.trees.specs.Rows.{nodes}
use Rattle.quick.proofs.MarkingLaws.{climbed_up, climbed_root, climbed_known, climbed_out}
use Rattle.quick.proofs.climbing.reaches.Goals as goal

pub loop-passed-init : goal.loop-passed-init
loop-passed-init c =
    let all : c.nodes-m.result - 0 ≡ nodes c.args.row.row.now = omega (arith, c.nodes-m.ensures) in
    record { node = search rules; within = rw all; ever = refl }

pub returns-then-marks-at : goal.returns-then-marks-at
returns-then-marks-at c = climbed_known _ _ _ _ c.loop-passed.invariant _ c.requires.0 c.if-marks-at.true

pub returns-then-p-eq-ROOT_MARK : goal.returns-then-p-eq-ROOT_MARK
returns-then-p-eq-ROOT_MARK c =
    let some : 0 < c.nodes-m.result - c.loop-passed.passed = omega arith in
    climbed_root _ _ _ _ c.loop-passed.invariant some (rw c.parent-p.ensures at (eq-eqb _ _ c.if-p-eq-ROOT_MARK.true))

pub loop-passed-preserved : goal.loop-passed-preserved
loop-passed-preserved c =
    let p = c.parent-p.ensures in
    let l = c.loop-passed in
    let some : 0 < c.nodes-m.result - l.passed = omega arith in
    let less : c.nodes-m.result - (l.passed + 1) ≡ c.nodes-m.result - l.passed - 1 = omega arith in
    rw (p, less) (climbed_up _ _ _ _ l.invariant c.args.row.laid some (rw p at (ne_eqb _ _ c.if-p-eq-ROOT_MARK.false)))

pub returns : goal.returns
returns c =
    let none : c.nodes-m.result - c.loop-passed.passed ≡ 0 = omega arith in
    climbed_out _ _ _ _ c.loop-passed.invariant none
