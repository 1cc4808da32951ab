-- `merge::merge_ranked` writes the row of the merged groups; the first row's numbers stay. Assumes nothing.
use mathlib.Core.Path.{refl, ◌∙◌}
use Rattle.trees.specs.Lockstep.{blank}
use Rattle.trees.proofs.MergedRowLaws.{merged_climbable, merged_row}
use Rattle.merge.specs.SettlingLaws.{merged_settled}
use Rattle.merge.proofs.merge_ranked.Goals as goal

pub lockstep-c-requires : goal.lockstep-c-requires
unfolding blank
lockstep-c-requires c =
    (c.requires.0, refl, refl)

pub parents-requires : goal.parents-requires
parents-requires c =
    (merged_climbable c.requires.0.agree c.lockstep-c.ensures c.raise.ensures (rw c.requires.0.same at c.raise-2.ensures), c.requires.0.same)

pub write_row-requires : goal.write_row-requires
write_row-requires c =
    let ready = merged_climbable c.requires.0.agree c.lockstep-c.ensures c.raise.ensures (rw c.requires.0.same at c.raise-2.ensures) in
    (c.requires.0.same, ready.most, c.requires.1)

pub returns : goal.returns
returns c =
    let long = c.write_row.auto.out ∙ c.requires.1 in
    let e = merged_row c.requires.0.agree c.lockstep-c.ensures c.raise.ensures (rw c.requires.0.same at c.raise-2.ensures) c.parents.ensures long c.write_row.ensures in
    (e, rw e (merged_settled c.requires.0.agree c.lockstep-c.ensures c.raise.ensures))
