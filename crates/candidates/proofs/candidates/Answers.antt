-- `candidates::candidates` takes run after run in, from the bare row on. Assumes nothing.
use Rattle.trees.specs.Tables.{table_words}
use Rattle.trees.proofs.ListLaws.{get_or_zeros}
use Rattle.count.specs.StudyLaws.{held_study, study_least, study_most}
use Rattle.candidates.specs.CandidateLaws.{candidates_start}
use Rattle.candidates.proofs.candidates.Goals as goal

pub bare-requires : goal.bare-requires
bare-requires c =
    let s = held_study c.args.study in
    (study_least _ _ _ s, study_most _ _ _ s, c.requires.0)

pub loop-i-init : goal.loop-i-init
loop-i-init c =
    let s = c.args.study in
    rw c.bare.ensures (candidates_start s.words.now s.n s.k (held_study s) _ (λ v. get_or_zeros table_words v))
