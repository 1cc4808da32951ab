-- `row::renumbering::renumber` passes a refusal on with `out` as it was, and after an acceptance writes the renumbered row. Assumes nothing.
use mathlib.Core.Path.{sym, ◌∙◌}
use Rattle.trees.specs.RowCalls.{renumbering}
use Rattle.trees.proofs.RowCallLaws.{renumbering_refused}
use Rattle.judge.proofs.KnownRows.{shown_valid}
use Rattle.judge.proofs.Laws.{handed_on}
use Rattle.row.proofs.AnswerLaws.{both_given, written}
use Rattle.row.proofs.renumbering.renumber.Goals as goal

pub returns-in_err-check_first : goal.returns-in_err-check_first
unfolding renumbering
returns-in_err-check_first c =
    let e = c.in_err-check_first.ensures in
    record {
      result_value = handed_on _ c.in_err-check_first.field-0.0 c.from_residual.ensures.1 ∙ e;
      out_after = sym (renumbering_refused _ c.args.row.now c.args.out.now _ _ (sym e));
    }

pub invariant_of-renumber_valid : goal.invariant_of-renumber_valid
invariant_of-renumber_valid c =
    record { valid = shown_valid _ _ (both_given _ c.args.row.now c.args.out.now (sym c.in_ok-check_first.ensures)).0 }

pub renumber_valid-requires : goal.renumber_valid-requires
renumber_valid-requires c = (both_given _ c.args.row.now c.args.out.now (sym c.in_ok-check_first.ensures)).1

pub returns : goal.returns
unfolding renumbering
returns c =
    let ok = sym c.in_ok-check_first.ensures in
    record { result_value = sym ok; out_after = c.renumber_valid.ensures ∙ sym (written _ _ _ ok) }
