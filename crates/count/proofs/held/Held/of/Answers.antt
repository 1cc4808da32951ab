-- `count::Held::of` holds a well-formed study. Assumes nothing.
use Rattle.runs.proofs.FormedLaws.{formed_from}
use Rattle.count.proofs.held.Held.of.Goals as goal

pub invariant_of-result : goal.invariant_of-result
invariant_of-result c =
    record { formed = formed_from c.args.words.now c.requires; over = c.samples.ensures; force = c.in_force.ensures }
