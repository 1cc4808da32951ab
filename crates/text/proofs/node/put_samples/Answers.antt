-- `text::node::put_samples` puts the samples whose parents are marked: those that are left decide. Assumes nothing.
use native.Mathlib.Omega.{arith}
use Rattle.ascii.specs.DecimalLaws.{decimal_long}
use Rattle.text.specs.Marks.{parent_marked}
use Rattle.text.proofs.Laws.{passing_skip, passing_put, passing_end}
use borrow.Author.Rules.{rules}
use Rattle.text.proofs.node.put_samples.Goals as goal

pub loop-s-preserved-then-not-marks-p : goal.loop-s-preserved-then-not-marks-p
loop-s-preserved-then-not-marks-p c =
    record {
      room = search rules;
      left = passing_skip (parent_marked c.args.marks.now c.args.row.now) c.loop-s.s c.args.n c.loop-s.invariant.left (search rules)
          (rw (← c.parent-p.ensures) c.if-not-marks-p.true);
    }

pub put_field-next-requires : goal.put_field-next-requires
put_field-next-requires c =
    omega (arith, c.loop-s.invariant.left.long, decimal_long 2 c.loop-s.s (search rules))

pub loop-s-preserved : goal.loop-s-preserved
loop-s-preserved c =
    record {
      room = omega (arith, c.put_field-next.ensures.place, decimal_long 2 c.loop-s.s (search rules));
      left = passing_put (parent_marked c.args.marks.now c.args.row.now) c.loop-s.s c.args.n c.loop-s.invariant.left (search rules)
          (rw (← c.parent-p.ensures) c.if-not-marks-p.false) c.put_field-next.ensures;
    }

pub returns : goal.returns
returns c =
    record { put = passing_end (parent_marked c.args.marks.now c.args.row.now) c.loop-s.s c.args.n c.loop-s.invariant.left (search rules); upper_bound = search rules }
