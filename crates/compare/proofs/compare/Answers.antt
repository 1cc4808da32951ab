-- `compare::compare` hands a refusal on, and counts else. Assumes nothing.
use mathlib.Core.Path.{sym, ◌∙◌}
use Rattle.std.proofs.lemmas.Result.{err_from_is_err_and}
use Rattle.trees.specs.RowCalls.{comparing}
use Rattle.judge.proofs.Laws.{refuses, accepts}
use Rattle.judge.proofs.KnownRows.{shown_valid}
use Rattle.compare.proofs.AnswerLaws.{both_valid}
use Rattle.compare.proofs.compare.Goals as goal

pub returns-in_err-rows_given : goal.returns-in_err-rows_given
unfolding comparing
returns-in_err-rows_given c =
    let p = err_from_is_err_and c.from_residual.result c.from_residual.ensures.1 in
    rw (p.1, p.2) (sym (refuses _ _ c.in_err-rows_given.field-0.0 c.in_err-rows_given.ensures))

pub invariant_of-first : goal.invariant_of-first
invariant_of-first c = record { valid = shown_valid _ _ (both_valid _ c.args.first.now c.args.second.now c.in_ok-rows_given.ensures).0 }

pub invariant_of-second : goal.invariant_of-second
invariant_of-second c = record { valid = shown_valid _ _ (both_valid _ c.args.first.now c.args.second.now c.in_ok-rows_given.ensures).1 }

pub returns : goal.returns
unfolding comparing
returns c = c.counts_valid.ensures ∙ sym (accepts _ _ c.in_ok-rows_given.ensures)
