-- `text::node::put_parent` puts the mark of a root or the parent's number. Assumes nothing.
use native.Mathlib.Omega.{arith}
use borrow.Author.Tests.{eq-eqb, ne_eqb}
use Rattle.trees.specs.Rows.{root_mark}
use Rattle.ascii.specs.DecimalLaws.{decimal_short}
use Rattle.text.specs.Lines.{parent_field}
use borrow.Author.Rules.{rules}
use Rattle.text.proofs.node.put_parent.Goals as goal

pub returns-then-p-eq-ROOT_MARK : goal.returns-then-p-eq-ROOT_MARK
unfolding parent_field
returns-then-p-eq-ROOT_MARK c =
    record { put = rw (eq-eqb c.args.p root_mark c.if-p-eq-ROOT_MARK.true) c.put_bytes.ensures; upper_bound = omega (arith, c.put_bytes.ensures.place) }

pub put_field-requires : goal.put_field-requires
put_field-requires c = omega (arith, decimal_short c.args.p (search rules))

pub returns : goal.returns
unfolding parent_field
returns c =
    record { put = rw (ne_eqb c.args.p root_mark c.if-p-eq-ROOT_MARK.false) c.put_field.ensures; upper_bound = omega (arith, c.put_field.ensures.place, decimal_short c.args.p (search rules)) }
