-- `judge::rows::StandardRow::falling`: parents in standard numbering are smaller. Assumes nothing.
use Rattle.judge.proofs.KnownRows.{standard_is_falling}
use Rattle.judge.proofs.rows.StandardRow.falling.Goals as goal

pub invariant_of-result : goal.invariant_of-result
invariant_of-result c = record { falls = standard_is_falling _ _ c.args.self.standard }
