-- `text::node::put_group` puts the samples whose parents are marked: they are those of the group. Assumes nothing.
use native.Mathlib.Omega.{arith}
use Rattle.trees.specs.Rows.{group_at}
use Rattle.trees.proofs.StandardLaws.{standard_to}
use Rattle.text.specs.LineLaws.{samples_told}
use Rattle.text.specs.Marks.{parent_marked}
use Rattle.text.specs.MarkLaws.{marked_sample}
use Rattle.text.proofs.node.put_group.Goals as goal

pub put_samples-requires : goal.put_samples-requires
put_samples-requires c =
    let ok = (standard_to _ _ c.args.tree.standard).valid in
    record {
      n_le_most_samples = (ok.most, omega (arith, ok.words, ok.low, ok.high), c.requires.2);
      by_index = λ s h. omega (arith, (ok.leaf s h).1, ok.high, ok.most);
    }

pub returns : goal.returns
returns c =
    record {
      put = rw (
          samples_told c.args.tree.n (group_at c.args.tree.n c.args.tree.row.now c.args.v) (parent_marked c.marks_below-marks.result c.args.tree.row.now)
          (marked_sample c.args.tree.n c.args.tree.row.now (standard_to _ _ c.args.tree.standard) c.args.v c.requires.0 c.marks_below-marks.result c.marks_below-marks.ensures)
          ) at c.put_samples.ensures.put;
      upper_bound = c.put_samples.ensures.upper_bound;
    }
