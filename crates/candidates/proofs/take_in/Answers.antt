-- `candidates::take_in` is one round, after which the candidates come from the spare buffer. Assumes nothing.
use Rattle.trees.proofs.StandardLaws.{standard_from}
use Rattle.count.specs.StudyLaws.{held_study}
use Rattle.candidates.specs.CandidateLaws.{take_ready, take_room, take_step}
use Rattle.candidates.proofs.take_in.Goals as goal

pub invariant_of-tree : goal.invariant_of-tree
invariant_of-tree c = record { standard = standard_from _ _ c.requires.1.standard }

pub round-requires : goal.round-requires
round-requires c =
    let a = c.args in
    let s = a.study in
    let is = c.run_row.ensures.row in (
      c.run_row.ensures.samples,
      take_ready s.words.now s.n s.k (held_study s) a.i c.requires.0 _ _ _ c.requires.1 is,
      take_room s.words.now s.n s.k (held_study s) a.i c.requires.0 _ _ _ c.requires.1 is,
      c.requires.3,
    )

pub returns : goal.returns
returns c =
    let a = c.args in
    let s = a.study in
    rw c.copy.ensures (take_step s.words.now s.n s.k (held_study s) a.i c.requires.0 _ _ _ c.requires.1
    c.run_row.ensures.row _ _ c.round.ensures)
