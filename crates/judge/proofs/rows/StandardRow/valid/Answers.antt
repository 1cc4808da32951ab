-- `judge::rows::StandardRow::valid`: a standard row is valid. Assumes nothing.
use Rattle.judge.proofs.KnownRows.{standard_is_valid}
use Rattle.judge.proofs.rows.StandardRow.valid.Goals as goal

pub invariant_of-result : goal.invariant_of-result
invariant_of-result c = record { valid = standard_is_valid _ _ c.args.self.standard }
