-- `count::plain::take_in` merges what is shown of one run. Assumes nothing.
use Prim.Native.Nat.{◌<◌}
use mathlib.Core.Path.{sym, ap, ◌∙◌}
use native.Mathlib.Omega.{arith}
use lib.ListN.{length}
use Rattle.trees.proofs.StandardLaws.{standard_from}
use Rattle.passes.proofs.StandardRows.{standard_few, standard_inner}
use Rattle.count.specs.StudyLaws.{held_study, study_few}
use Rattle.count.specs.PlainLaws.{accepted_standard, accepted_mergeable, accepted_step}
use Rattle.count.proofs.plain.take_in.Goals as goal

pub marks-requires : goal.marks-requires
marks-requires c =
    let row = c.run_row-run in
    let e = c.nodes.ensures in (
      omega (arith, e, standard_inner _ _ row.result.standard, row.ensures.samples),
      omega (arith, e, standard_few _ _ row.result.standard),
      c.requires.3.1,
      study_few _ _ _ (held_study c.args.study),
    )

pub invariant_of-tree : goal.invariant_of-tree
invariant_of-tree c =
    let s = c.args.study in
    let some : 0 < s.k = omega (arith, c.requires.0) in
    let row = rw (← c.requires.1) at (accepted_standard s.words.now s.n s.k c.args.t (held_study s) some c.requires.3 c.args.i) in
    record { standard = standard_from _ _ row }

pub merge-requires : goal.merge-requires
merge-requires c =
    let s = c.args.study in
    let some : 0 < s.k = omega (arith, c.requires.0) in (
      accepted_mergeable s.words.now s.n s.k c.args.t (held_study s) some c.requires.3 c.args.i _ _ _ _ _ c.requires.0 c.requires.1
          c.run_row-run.ensures.row c.holders.ensures c.nodes.ensures c.marks.ensures,
      c.run_row-run.ensures.samples,
      c.requires.2,
    )

pub copy-requires : goal.copy-requires
copy-requires c =
    let s = c.args.study in
    let some : 0 < s.k = omega (arith, c.requires.0) in
    ap length c.requires.1 ∙ (accepted_standard s.words.now s.n s.k c.args.t (held_study s) some c.requires.3 c.args.i).valid.words
    ∙ sym (c.merge.auto.out ∙ c.requires.2)

pub returns : goal.returns
returns c =
    let s = c.args.study in
    let some : 0 < s.k = omega (arith, c.requires.0) in
    c.copy.ensures ∙ c.merge.ensures ∙ accepted_step s.words.now s.n s.k c.args.t (held_study s) some c.requires.3 c.args.i
    _ _ _ _ _ c.requires.0 c.requires.1 c.run_row-run.ensures.row c.holders.ensures c.nodes.ensures c.marks.ensures
