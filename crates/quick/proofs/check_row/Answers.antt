-- `quick::check_row` answers the chain of checks 5 to 10. Assumes nothing.
use mathlib.Core.Path.{◌∙◌}
use Rattle.judge.proofs.Laws.{words_stop, climbing_stop, branching_last}
use Rattle.quick.proofs.Laws.{laid_out}
use Rattle.quick.proofs.check_row.Goals as goal

pub returns-in_err-check_words : goal.returns-in_err-check_words
returns-in_err-check_words c = words_stop _ _ _ c.in_err-check_words.field-0.0 c.from_residual.ensures.1 c.in_err-check_words.ensures

pub invariant_of-laid : goal.invariant_of-laid
invariant_of-laid c = record { laid = laid_out _ _ c.in_ok-check_words.ensures c.requires.0 c.requires.1 c.requires.2 }

pub returns-in_err-climbing : goal.returns-in_err-climbing
returns-in_err-climbing c =
    climbing_stop c.args.n _ c.in_ok-check_words.ensures _ c.in_err-climbing.field-0.0 c.from_residual-in_err-climbing.ensures.1
    (c.in_err-climbing.ensures c.args.n)

pub returns : goal.returns
returns c = c.branching.ensures ∙ branching_last c.args.n _ c.in_ok-check_words.ensures (c.in_ok-climbing.ensures c.args.n)
