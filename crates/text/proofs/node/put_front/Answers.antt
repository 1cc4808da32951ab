-- `text::node::put_front` puts node, parent and support. Assumes nothing.
use Prim.Native.Nat.{◌≤◌}
use mathlib.Core.List.{append-nil}
use native.Mathlib.Omega.{arith}
use lib.ListN.{length}
use Rattle.ascii.specs.Decimal.{decimal}
use Rattle.ascii.specs.DecimalLaws.{decimal_short}
use Rattle.text.specs.Lines.{spaced}
use Rattle.put.specs.WritingLaws.{put_then}
use borrow.Author.Rules.{rules}
use Rattle.text.proofs.node.put_front.Goals.{Start}
use Rattle.text.proofs.node.put_front.Goals as goal

-- the numbers are short
short : (c : Start) → (length (decimal c.args.v) ≤ 20) × (length (decimal c.args.p) ≤ 20) × (length (decimal c.args.support) ≤ 20)
short c = (decimal_short c.args.v (search rules), decimal_short c.args.p (search rules), decimal_short c.args.support (search rules))

pub put_number-first-requires : goal.put_number-first-requires
put_number-first-requires c = omega (arith, short (goal.at.put_number-first-requires c).Start)

pub put_parent-second-requires : goal.put_parent-second-requires
put_parent-second-requires c =
    omega (arith, short (goal.at.put_parent-second-requires c).Start, c.put_number-first.ensures.place)

pub put_field-requires : goal.put_field-requires
put_field-requires c =
    omega (arith, short (goal.at.put_field-requires c).Start, c.put_number-first.ensures.place, c.put_parent-second.ensures.upper_bound)

pub returns : goal.returns
unfolding spaced
returns c =
    record { put = rw append-nil (put_then c.put_number-first.ensures (put_then c.put_parent-second.ensures.put c.put_field.ensures)); upper_bound = omega (arith, short (goal.at.returns c).Start, c.put_number-first.ensures.place, c.put_parent-second.ensures.upper_bound, c.put_field.ensures.place) }
