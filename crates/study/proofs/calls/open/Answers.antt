-- `study::calls::open` meets its contract. Assumes nothing.
use mathlib.Core.Path.{sym, ap, ◌∙◌}
use native.Mathlib.Omega.{arith}
use Rattle.runs.specs.Calls.{opened}
use Rattle.study.proofs.CallLaws.{accepting, leaves, hands, room_found, opened_stops, opened_goes}
use Rattle.study.proofs.calls.open.Goals as goal

pub returns-in_err-room_given : goal.returns-in_err-room_given
returns-in_err-room_given c =
    let a = c.args in
    let w = a.words.now in
    let both = hands (opened a.n w) w _ _ c.from_residual.ensures.1 (opened_stops a.n w c.in_err-room_given.field-0.0 c.in_err-room_given.ensures) in
    record { answer = both.0; words = both.1 }

pub overflow_cast-n : goal.overflow_cast-n
overflow_cast-n c = omega (arith, room_found c.args.n c.args.words.now c.in_ok-room_given.ensures)

pub start-requires : goal.start-requires
start-requires c = (room_found c.args.n c.args.words.now c.in_ok-room_given.ensures).1

pub returns : goal.returns
returns c =
    let a = c.args in
    let w = a.words.now in
    let both = leaves (opened a.n w) _ _ (opened_goes a.n w c.in_ok-room_given.ensures ∙ ap accepting (sym c.start.ensures)) in
    record { answer = both.0; words = both.1 }
