-- `scan::heads::starts` tells by the byte past the blanks. Assumes nothing.
use Rattle.std.specs.Prelude.{Ok, Err}
use Rattle.std.proofs.Common.{sym, ⊎_elim, arith}
use Rattle.std.proofs.lemmas.Result.{err_from_is_err_and}
use Rattle.scan.specs.declared.heads.Start.TheVariants.{Leaf}
use Rattle.scan.specs.ScanningLaws.{leaf_by, leaf_stops, starts_leaf, starts_nothing, starts_full, starts_pair}
use Rattle.scan.proofs.heads.starts.Goals as goal

pub returns-in_err-end : goal.returns-in_err-end
returns-in_err-end c =
    let p = err_from_is_err_and c.from_residual.result c.from_residual.ensures.1 in
    rw (p.1, p.2)
    (starts_leaf _ _ _ c.args.left c.skip_blanks-a.ensures (Err _) (leaf_stops _ _ _ c.sample-x.ensures c.args.left _ c.in_err-end.ensures))

pub returns-then-is_ascii_digit : goal.returns-then-is_ascii_digit
returns-then-is_ascii_digit c =
    starts_leaf _ _ _ c.args.left c.skip_blanks-a.ensures (Ok (Leaf _)) (leaf_by _ _ _ c.sample-x.ensures _ c.in_ok-end.ensures)

pub returns-then-b-ne40 : goal.returns-then-b-ne40
returns-then-b-ne40 c = ⊎_elim
    (λ n. starts_nothing _ _ _ _ c.skip_blanks-a.ensures _ c.look-b.ensures (sym c.if-is_ascii_digit.ensures.value) n)
    (λ w. starts_full _ _ _ _ c.skip_blanks-a.ensures _ c.look-b.ensures w.0 w.1) c.then-b-ne40.either

pub returns : goal.returns
returns c = starts_pair _ _ _ _ c.skip_blanks-a.ensures _ c.look-b.ensures c.if-b-ne40.false (omega arith)
