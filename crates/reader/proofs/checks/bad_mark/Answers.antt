-- `reader::checks::bad_mark` finds no mark below x bad. Assumes nothing.
use Rattle.std.proofs.Common.{rules, sym}
use denote.Enum.Bare.{differs_true, differs_false}
use Rattle.lay.specs.contracts.tables.Standing.{the_type}
use Rattle.reader.specs.ResultLaws.{bad_hit, bad_not, bad_end}
use Rattle.reader.proofs.checks.bad_mark.Goals as goal

pub returns-then-ne : goal.returns-then-ne
returns-then-ne c =
    bad_hit c.args.n c.args.marks.now _ _ c.loop-x.invariant _ c.due.ensures c.loop-x-test.true
    (differs_true the_type _ _ (sym c.if-ne.ensures))

pub loop-x-preserved : goal.loop-x-preserved
loop-x-preserved c =
    bad_not c.args.n c.args.marks.now _ _ c.loop-x.invariant _ c.due.ensures c.loop-x-test.true
    (differs_false the_type (search rules) _ _ (sym c.if-ne.ensures))

pub returns : goal.returns
returns c = bad_end c.args.n c.args.marks.now _ _ c.loop-x.invariant c.loop-x-test.false
