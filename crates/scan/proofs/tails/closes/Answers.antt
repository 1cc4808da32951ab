-- `scan::tails::closes` passes blanks and digits by, and what may follow a subtree. Assumes nothing.
use Rattle.newick.specs.Bytes.{is_blank, is_digit}
use Rattle.scan.specs.RunLaws.{past_within}
use Rattle.scan.specs.ScanningLaws.{closes_by}
use Rattle.scan.proofs.tails.closes.Goals as goal

pub tail-requires : goal.tail-requires
tail-requires c =
    let l = c.args.s.now in
    rw c.skip_digits-b.ensures (past_within is_digit l _ (rw c.skip_blanks-a.ensures (past_within is_blank l c.args.at c.requires)))

pub returns : goal.returns
returns c =
    closes_by _ _ _ _ c.skip_blanks-a.ensures c.skip_digits-b.ensures c.tail.result c.tail.ensures
