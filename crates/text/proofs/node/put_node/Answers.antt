-- `text::node::put_node` writes the front of the line, the samples of the node and a line feed. Assumes nothing.
use native.Mathlib.Omega.{arith}
use Rattle.trees.proofs.StandardLaws.{standard_from}
use Rattle.text.specs.LineLaws.{node-line}
use Rattle.put.specs.WritingLaws.{put_then, put_written}
use Rattle.text.proofs.node.put_node.Goals as goal

pub invariant_of-put_group : goal.invariant_of-put_group
invariant_of-put_group c = record { standard = standard_from _ _ c.requires.0 }

pub returns : goal.returns
returns c =
    put_written (omega (arith, c.put_byte.ensures.place, c.put_group-end.ensures.upper_bound, c.put_front-front.ensures.upper_bound, c.requires.0.valid.most, c.requires.4))
    (rw (node-line c.args.n c.args.row.now c.args.support.now c.args.v c.parent.result c.from.result
    c.parent.ensures c.from.ensures)
    at (put_then (put_then c.put_front-front.ensures.put c.put_group-end.ensures.put) c.put_byte.ensures))
