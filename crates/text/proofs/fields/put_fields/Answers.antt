-- `text::fields::put_fields` puts numbers: those that are left decide. Assumes nothing.
use native.Mathlib.Omega.{arith}
use lib.ListN.{get_or, drop_of_length-le}
use Rattle.ascii.specs.DecimalLaws.{decimal_short}
use Rattle.text.proofs.Laws.{fields_next, fields_end}
use Rattle.text.proofs.fields.put_fields.Goals as goal

pub put_field-next-requires : goal.put_field-next-requires
put_field-next-requires c =
    let i = c.loop-field.field-index in
    omega (arith, decimal_short (get_or c.args.fields.now i 0) (omega (arith, c.type_inv.fields i)))

pub loop-field-preserved : goal.loop-field-preserved
loop-field-preserved c =
    let i = c.loop-field.field-index in
    let short = decimal_short (get_or c.args.fields.now i 0) (omega (arith, c.type_inv.fields i)) in
    record {
      room = omega (arith, short, c.put_field-next.ensures.place);
      left = fields_next c.args.fields.now i (omega arith) c.loop-field.invariant.left c.put_field-next.ensures;
    }

pub returns : goal.returns
returns c =
    record { put = fields_end (rw (drop_of_length-le c.args.fields.now c.loop-field-test.false) at c.loop-field.invariant.left); upper_bound = omega arith }
