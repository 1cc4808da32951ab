-- `reader::reading::lay_text` takes the checks in their order. Assumes nothing.
use Rattle.std.proofs.Common.{rules}
use Rattle.std.proofs.lemmas.Result.{err_from_is_err_and}
use Rattle.reader.specs.Steps.{Told}
use Rattle.reader.specs.StepLaws.{composed}
use Rattle.reader.specs.ResultLaws.{lies_stopped, told, lies_18, lies_accepted}
use Rattle.reader.proofs.reading.lay_text.Goals.{In_ok-map_err}
use Rattle.reader.proofs.reading.lay_text.Goals as goal

-- a text that does not stop is told
read : (c : In_ok-map_err) → Told c.args.text.now c.args.kept.now c.args.row.now c.args.marks.now c.whole.new.kept c.whole.new.row c.whole.new.marks
read c = told _ c.args.n _ _ _ _ _ _ c.whole.result _ (composed _ _ _ _ _ _ _ c.whole.result c.whole.ensures) c.in_ok-map_err.ensures.cases

pub returns-in_err-map_err : goal.returns-in_err-map_err
returns-in_err-map_err c =
    let p = err_from_is_err_and c.from_residual.result c.from_residual.ensures.1 in
    rw (p.1, p.2)
    (lies_stopped _ _ _ _ _ _ _ _ c.whole.result _ _ (composed _ _ _ _ _ _ _ c.whole.result c.whole.ensures) c.in_err-map_err.ensures.cases
    (λ q h. search rules))

pub returns-in_err-check_samples : goal.returns-in_err-check_samples
returns-in_err-check_samples c =
    let p = err_from_is_err_and c.from_residual-in_err-check_samples.result c.from_residual-in_err-check_samples.ensures.1 in
    rw (p.1, p.2)
    (lies_18 _ _ _ _ _ _ _ _ c.requires.1 c.requires.2 (read (goal.at.returns-in_err-check_samples c).In_ok-map_err) _ c.whole.new.row
    c.in_err-check_samples.ensures)

pub returns : goal.returns
returns c =
    lies_accepted _ _ _ _ _ _ _ _ c.requires.1 c.requires.2 (read (goal.at.returns c).In_ok-map_err) c.in_ok-check_samples.ensures _
    c.finish.ensures
