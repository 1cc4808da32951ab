-- `slots::close_at` meets its contract: words lowered, then the freed ones cleared. Assumes nothing.
use Rattle.slots.proofs.MoveLaws.{close_law}
use Rattle.slots.proofs.store.close_at.Goals as goal

pub returns : goal.returns
returns c =
    let a = c.args in
    close_law a.words.now a.from a.to a.width c.requires.0 c.requires.1 c.copy_within.ensures.after (c.fill.ensures.after (λ y e. e))
