-- `text::fields::put_fields` puts numbers: those that are left decide. Assumes nothing.
use mathlib.Core.List.{map}
use lib.ListN.{drop}
use Rattle.ascii.specs.Decimal.{decimal}
use Rattle.text.specs.Lines.{spaced}
use Rattle.text.specs.Room.{field_bytes}
use Rattle.text.proofs.Laws.{FieldsLeft}
use Rattle.text.proofs.fields.put_fields.Given as goal

abbrev pub invariant-loop-field : goal.invariant-loop-field
invariant-loop-field l =
    FieldsLeft field_bytes l.field-index (spaced (map decimal (drop l.field-index l.fields))) l.out l.next (spaced (map decimal l.fields)) l.initial.out l.at
