-- `writer::texts::root` finds the root: it is at the place or ahead of it. Assumes nothing.
use mathlib.Core.Path.{sym, ◌∙◌}
use native.Mathlib.Omega.{arith}
use Rattle.judge.proofs.KnownRows.{known_valid}
use Rattle.row.proofs.ValidRows.{valid_long}
use Rattle.writer.proofs.RowLaws.{ahead_start, ahead_node, ahead_next, ahead_end}
use Rattle.writer.proofs.texts.root.Goals as goal

pub loop-v-init : goal.loop-v-init
loop-v-init c =
    ahead_start (known_valid _ _ c.args.tree.valid)

pub parent-requires : goal.parent-requires
parent-requires c =
    let known = c.args.tree.valid in
    omega (arith, ahead_node (known_valid _ _ known) c.loop-v.invariant, valid_long _ _ known)

pub loop-v-preserved : goal.loop-v-preserved
loop-v-preserved c =
    ahead_next (known_valid _ _ c.args.tree.valid) c.loop-v.invariant (λ e. c.if-parent-eq-ROOT_MARK.false (c.parent.ensures ∙ e))

pub returns-then-parent-eq-ROOT_MARK : goal.returns-then-parent-eq-ROOT_MARK
returns-then-parent-eq-ROOT_MARK c =
    ahead_end (known_valid _ _ c.args.tree.valid) c.loop-v.invariant (sym c.parent.ensures ∙ c.if-parent-eq-ROOT_MARK.true)

pub unreachable-requires : goal.unreachable-requires
unreachable-requires c = omega (arith, ahead_node (known_valid _ _ c.args.tree.valid) c.loop-v.invariant, c.nodes-v-end.ensures)
