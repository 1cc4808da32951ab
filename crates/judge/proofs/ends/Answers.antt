-- `judge::ends` follows the parents: at each step the way that is left ends exactly if the whole way does. Assumes nothing.
use Prim.Native.Nat.{◌-◌, ◌+◌, ◌<◌}
use Rattle.trees.proofs.ScanLaws.{ends_root, ends_parent}
use Rattle.trees.specs.Rows.{nodes}
use mathlib.Core.Path.{◌≡◌, sym, ◌∙◌}
use native.Mathlib.Omega.{arith}
use borrow.Author.Tests.{eq-eqb, ne_eqb}
use Rattle.trees.proofs.WayLaws.{ends_none}
use borrow.Author.Rules.{rules}
use Rattle.judge.proofs.ends.Goals as goal

pub loop-passed-init : goal.loop-passed-init
loop-passed-init c =
    let all : c.nodes-m.result - 0 ≡ nodes c.args.row.now = omega (arith, c.nodes-m.ensures) in
    (search rules, rw all)

pub returns-then-p-eq-ROOT_MARK : goal.returns-then-p-eq-ROOT_MARK
returns-then-p-eq-ROOT_MARK c =
    let l = c.loop-passed in
    let some : 0 < c.nodes-m.result - l.passed = omega arith in
    sym (ends_root _ _ _ some (rw c.parent-p.ensures at (eq-eqb _ _ c.if-p-eq-ROOT_MARK.true))) ∙ l.invariant.1

pub loop-passed-preserved : goal.loop-passed-preserved
loop-passed-preserved c =
    let l = c.loop-passed in
    let p = c.parent-p.ensures in
    let e = rw p at (ne_eqb _ _ c.if-p-eq-ROOT_MARK.false) in
    let some : 0 < c.nodes-m.result - l.passed = omega arith in
    let less : c.nodes-m.result - (l.passed + 1) ≡ c.nodes-m.result - l.passed - 1 = omega arith in
    (rw p (c.requires.1 _ l.invariant.0 e), rw (p, less) (sym (ends_parent _ _ _ some e) ∙ l.invariant.1))

pub returns : goal.returns
returns c =
    let l = c.loop-passed in
    let none : c.nodes-m.result - l.passed ≡ 0 = omega arith in
    rw (← l.invariant.1, none, ends_none)
