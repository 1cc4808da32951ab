-- `slots::start` meets its contract: the header, then zeros. Assumes nothing.
use mathlib.Core.Path.{◌∙◌}
use Rattle.slots.proofs.HeaderLaws.{start_law}
use Rattle.slots.proofs.header.start.Goals as goal

pub returns : goal.returns
returns c =
    start_law c.args.words.now c.args.n c.requires (c.copy_from_slice.ensures.after ∙ c.words.ensures) (c.fill.ensures.after (λ y e. e))
