-- `study::form::slots_stored` meets its contract: the slots that are left decide. Assumes nothing.
use Rattle.study.proofs.FormLaws.{stored_on, stored_off, stored_end}
use mathlib.Core.Path.{sym, ◌∙◌}
use native.Mathlib.Omega.{arith}
use Rattle.study.proofs.form.slots_stored.Goals as goal

pub returns-then-not-slot_follows : goal.returns-then-not-slot_follows
returns-then-not-slot_follows c =
    let a = c.args in
    sym (c.loop-i.invariant ∙ stored_off a.words.now a.n a.k c.loop-i.i _ (omega arith) (rw c.slot_words-width.ensures) c.loop-i.last
    (sym c.slot_follows.ensures ∙ c.if-not-slot_follows.true))

pub loop-i-preserved : goal.loop-i-preserved
loop-i-preserved c =
    let a = c.args in
    c.loop-i.invariant ∙ stored_on a.words.now a.n a.k c.loop-i.i _ (omega arith) (rw c.slot_words-width.ensures) c.loop-i.last
    (sym c.slot_follows.ensures ∙ c.if-not-slot_follows.false)

pub returns : goal.returns
returns c =
    let a = c.args in
    sym (c.loop-i.invariant ∙ stored_end a.words.now a.n a.k c.loop-i.i (omega arith) c.loop-i.last)
