-- `count::holding::holders` counts run by run. Assumes nothing.
use Prim.Native.Nat.{◌<◌}
use mathlib.Core.Path.{sym, ap, ◌∙◌}
use native.Mathlib.Omega.{arith}
use Rattle.trees.specs.Rows.{holds}
use Rattle.trees.specs.Reporting.{Run}
use Rattle.runs.specs.Words.{run_at, runs, most_runs}
use Rattle.count.specs.StudyLaws.{held_study, study_few, study_length, study_run}
use Rattle.count.specs.HolderLaws.{counting_start, counting_under, counting_step, holding_end}
use Rattle.count.proofs.holding.holders.Goals as goal

pub loop-j-init : goal.loop-j-init
loop-j-init c =
    let q = c.args.reference in
    counting_start (holds q.n) q.n (runs c.args.study.words.now) q.row.now

pub count_run-requires : goal.count_run-requires
count_run-requires c =
    let s = c.args.study in
    let q = c.args.reference in
    let e = c.of-chart.ensures.row in (
      rw e (c.run_row.ensures.samples ∙ sym c.requires),
      rw e (counting_under (holds q.n) q.n (runs s.words.now) q.row.now most_runs c.loop-j.j c.loop-j.holders
          (omega (arith, study_few _ _ _ (held_study s))) c.loop-j.invariant),
    )

pub loop-j-preserved : goal.loop-j-preserved
loop-j-preserved c =
    let s = c.args.study in
    let q = c.args.reference in
    let o = held_study s in
    let d : Run = run_at s.n s.words.now c.loop-j.j in
    let stands : c.loop-j.j < s.k = omega (arith, c.loop-j-test.true) in
    counting_step (holds q.n) q.n (runs s.words.now) q.row.now c.loop-j.j d _ c.loop-j.holders _
    (rw (study_length _ _ _ o) stands)
    (ap (λ (run : Run). run.row) (study_run _ _ _ o c.loop-j.j d stands) ∙ sym c.run_row.ensures.row)
    c.loop-j.invariant (rw c.of-chart.ensures.row at c.count_run.ensures)

pub returns : goal.returns
returns c =
    let s = c.args.study in
    let q = c.args.reference in
    rw c.requires at (holding_end q.n (runs s.words.now) q.row.now c.loop-j.j c.loop-j.holders (omega (arith, study_length _ _ _ (held_study s)))
    c.loop-j.invariant)
