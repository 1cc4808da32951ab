-- `mates::candidates` meets its contract: all before a have theirs, and the walk is at b. Assumes nothing.
use Rattle.trees.specs.Mates.{candidate}
use mathlib.Core.Path.{ap, ◌≡◌, ◌∙◌}
use Rattle.trees.proofs.MateLaws.{candidate_reaches, candidate_same}
use Rattle.passes.proofs.StandardRows.{standard_over}
use Rattle.mates.proofs.Walks.{walking_start, walking_step}
use Rattle.trees.specs.Rows.{nodes}
use Rattle.trees.specs.Tables.{rank_at}
use Rattle.trees.specs.Passes.{Ranked}
use Rattle.trees.specs.Valid.{Standard}
use Rattle.trees.proofs.FallsLaws.{few, standard_falls}
use Rattle.trees.proofs.StandardLaws.{standard_to}
use Rattle.trees.proofs.LinearLaws.{ranked_most, rank_is}
use native.Mathlib.Omega.{arith}
use Rattle.mates.proofs.candidates.Goals.{Start, After-advance-b}
use Rattle.mates.proofs.candidates.Goals as goal

-- both rows are standard over the samples of the chart's, and have their ranks
module _ (c : Start) where
  known : Standard c.args.chart.now.reference.n c.args.chart.now.reference.row.now
  known = standard_to _ _ c.args.chart.now.reference.standard

  known_row : Standard c.args.chart.now.reference.n c.args.row.row.now
  known_row = standard_over c.args.row.standard c.requires.0

  ranked_row : Ranked c.args.chart.now.reference.n c.args.row.row.now c.args.other.now.size c.args.other.now.low
  ranked_row = rw c.requires.0 at c.requires.1

pub loop-a-init : goal.loop-a-init
loop-a-init c =
    let s = (goal.at.loop-a-init c).Start in
    walking_start _ _ _ (known s) (known_row s) _

pub rank-k-requires : goal.rank-k-requires
rank-k-requires c =
    let ok = known (goal.at.rank-k-requires c).Start in (
      omega (arith, few _ _ (standard_falls _ _ ok)),
      ok.valid.most,
      (ranked_most _ _ _ _ c.args.chart.now.tables.ranked).le c.loop-a.a (omega arith),
    )

pub advance-b-requires : goal.advance-b-requires
advance-b-requires c =
    let s = (goal.at.advance-b-requires c).Start in (
      (known_row s).valid.most,
      omega (arith, c.loop-a.invariant.to),
      omega (arith, few _ _ (standard_falls _ _ (known_row s))),
      rw c.nodes-others.ensures (ranked_most _ _ _ _ (ranked_row s)),
    )

-- what the walk comes to is the candidate from b on
advanced : (c : After-advance-b)
    → c.advance-b.result ≡ candidate (rank_at c.args.chart.now.reference.n c.args.row.row.now) c.loop-a.b (nodes c.args.row.row.now)
    (rank_at c.args.chart.now.reference.n c.args.chart.now.reference.row.now c.loop-a.a)
advanced c =
    let reference = c.args.chart.now.reference in
    let q = c.args.row.row.now in
    (rw c.nodes-others.ensures at c.advance-b.ensures)
    ∙ candidate_same _ (rank_at reference.n q) c.loop-a.b (nodes q) c.rank-k.result c.loop-a.invariant.to
    (λ v a h. rank_is reference.n q _ _ (ranked_row (goal.at.After-advance-b c).Start) v h)
    ∙ ap (candidate (rank_at reference.n q) c.loop-a.b (nodes q))
    (c.rank-k.ensures ∙ rank_is reference.n reference.row.now _ _ c.args.chart.now.tables.ranked c.loop-a.a (omega arith))

pub overflow_cast-mate : goal.overflow_cast-mate
overflow_cast-mate c =
    let reference = c.args.chart.now.reference in
    let q = c.args.row.row.now in
    let w = candidate_reaches (rank_at reference.n q) c.loop-a.b (nodes q) (rank_at reference.n reference.row.now c.loop-a.a) c.loop-a.invariant.to in
    omega (arith, advanced c, w.high, few _ _ (standard_falls _ _ (known_row (goal.at.overflow_cast-mate c).Start)))

pub loop-a-preserved : goal.loop-a-preserved
loop-a-preserved c =
    let s = (goal.at.loop-a-preserved c).Start in
    walking_step _ _ _ (known s) (known_row s) c.loop-a.a c.loop-a.b _ c.loop-a.mate (omega arith) (omega arith)
    (omega arith) (advanced (goal.at.loop-a-preserved c).After-advance-b) c.loop-a.invariant

pub returns : goal.returns
returns c =
    let e : c.loop-a.a ≡ nodes c.args.chart.now.reference.row.now = omega (arith, (known (goal.at.returns c).Start).valid.low) in
    rw e at c.loop-a.invariant.done
