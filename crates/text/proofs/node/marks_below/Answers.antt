-- `text::node::marks_below` marks v and each later node whose parent is marked: the marks made so far are right. Assumes nothing.
use mathlib.Core.Path.{◌≡◌, refl, ◌∙◌}
use native.Mathlib.Omega.{arith}
use lib.ListN.{length-set}
use Rattle.trees.specs.Rows.{nodes}
use Rattle.trees.proofs.BelowLaws.{above_later}
use Rattle.trees.proofs.StandardLaws.{standard_to}
use Rattle.text.specs.Marks.{mark_count}
use Rattle.text.specs.MarkLaws.{marked_start, marked_next}
use borrow.Author.Rules.{rules}
use Rattle.text.proofs.StandardRows.{standard_few}
use Rattle.text.proofs.node.marks_below.Goals as goal

pub loop-u-init : goal.loop-u-init
loop-u-init c = (
  search rules,
  search rules,
  marked_start c.args.tree.n c.args.tree.row.now (standard_to _ _ c.args.tree.standard) c.args.v c.requires.0 mark_count _ refl c.requires.1 (omega (arith, c.requires.1, standard_few _ _ c.args.tree.standard)),
)

pub bounds-marks-parent : goal.bounds-marks-parent
bounds-marks-parent c =
    let tree = standard_to _ _ c.args.tree.standard in
    let ok = tree.valid in
    let t = above_later c.args.tree.n c.args.tree.row.now tree c.args.v c.loop-u.u c.requires.0 c.loop-u.invariant.0 (search rules) in
    omega (arith, c.parent.ensures, ok.high, ok.most, t.1)

pub loop-u-preserved : goal.loop-u-preserved
loop-u-preserved c =
    let tree = standard_to _ _ c.args.tree.standard in
    let ok = tree.valid in (
      search rules,
      length-set c.loop-u.marks _ _ ∙ c.loop-u.invariant.1,
      rw c.parent.ensures (marked_next c.args.tree.n c.args.tree.row.now tree c.args.v c.requires.0 c.loop-u.u c.loop-u.marks
          c.loop-u.invariant.0 (search rules) (omega (arith, c.loop-u.invariant.1, ok.high, ok.most)) c.loop-u.invariant.2),
    )

pub returns : goal.returns
returns c =
    let e : c.loop-u.u ≡ nodes c.args.tree.row.now = search rules in
    rw e at c.loop-u.invariant.2
