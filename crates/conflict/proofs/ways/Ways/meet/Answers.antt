-- `conflict::ways::Ways::meet` walks to one path, and along it to the first node that is above both. Assumes nothing.
use Prim.Native.Nat.{◌<◌}
use mathlib.Core.Path.{◌≡◌, sym, ap}
use native.Mathlib.Omega.{arith}
use Rattle.trees.specs.Rows.{nodes, parent}
use Rattle.trees.specs.Tables.{entry}
use Rattle.trees.proofs.FallsLaws.{standard_falls}
use Rattle.passes.proofs.StandardRows.{standard_few, standard_words}
use Rattle.trees.proofs.StandardLaws.{standard_to}
use Rattle.conflict.specs.declared.reach.Reach.{Reach}
use Rattle.conflict.specs.PathLaws.{same_path}
use Rattle.conflict.specs.Gathering.{Walk}
use Rattle.conflict.specs.GatherLaws.{walk_start, walk_left, walk_right, left_lower, right_lower}
use borrow.Author.Rules.{rules}
use Rattle.conflict.specs.Routes.{first_of, last_of}
use Rattle.conflict.proofs.ways.Ways.meet.Goals.{After-up-x, After-up-y, After-from, After-from-else-h-k}
use Rattle.conflict.proofs.ways.Ways.meet.Goals as goal

pub loop-h-init : goal.loop-h-init
loop-h-init c =
    (c.begin-h.ensures, c.begin-k.ensures, walk_start _ _ (standard_to _ _ c.args.self.now.row.standard) _ _ _ _ c.requires.0 c.requires.1 c.requires.2 c.requires.3)

-- the node on the right comes down
low-right : (w : After-from) → let r = w.args.self.now.row.row.now in
    (w.from.result < nodes r) × (parent r w.from.result < w.loop-h.y.node)
low-right w =
    let e = w.from.ensures in
    right_lower _ _ (standard_to _ _ w.args.self.now.row.standard) _ _ _ _ _ _ w.requires.1 w.requires.3 w.loop-h.invariant.2 _ _ w.args.self.now.paths w.from.result
    (omega (arith, w.loop-h.invariant.0, w.loop-h.invariant.1, e)) (omega (arith, w.loop-h.invariant.0, w.loop-h.invariant.1, e))

pub up-y-requires : goal.up-y-requires
up-y-requires c = omega (arith, (low-right (search rules)).0, standard_words _ _ c.args.self.now.row.standard)

-- the walk after a step on the right
went-right : (u : After-up-y) → let a = u.args in
    Walk a.self.now.row.n a.self.now.row.row.now (first_of a.self.now) (last_of a.self.now) a.a a.b u.loop-h.x u.up-y.result
went-right u =
    let e = u.from.ensures in
    walk_right _ _ (standard_to _ _ u.args.self.now.row.standard) _ _ _ _ _ _ u.requires.1 u.requires.3 u.loop-h.invariant.2 _ _ u.args.self.now.paths u.from.result _
    (omega (arith, u.loop-h.invariant.0, u.loop-h.invariant.1, e)) (omega (arith, u.loop-h.invariant.0, u.loop-h.invariant.1, e)) u.up-y.ensures

pub begin-k-requires-then-h-k : goal.begin-k-requires-then-h-k
begin-k-requires-then-h-k c =
    omega (arith, (went-right (search rules)).right.high, standard_few _ _ c.args.self.now.row.standard)

pub loop-h-smaller-then-h-k : goal.loop-h-smaller-then-h-k
loop-h-smaller-then-h-k c =
    omega (arith, low-right (goal.at.loop-h-smaller-then-h-k c).After-from, ap (λ (t : Reach). t.node) c.up-y.ensures)

pub loop-h-preserved-then-h-k : goal.loop-h-preserved-then-h-k
loop-h-preserved-then-h-k c =
    (c.loop-h.invariant.0, c.begin-k-then-h-k.ensures, went-right (goal.at.loop-h-preserved-then-h-k c).After-up-y)

-- the node on the left comes down
low-left : (w : After-from-else-h-k) → let r = w.args.self.now.row.row.now in
    (w.from-else-h-k.result < nodes r) × (parent r w.from-else-h-k.result < w.loop-h.x.node)
low-left w =
    let e = w.from-else-h-k.ensures in
    left_lower _ _ (standard_to _ _ w.args.self.now.row.standard) _ _ _ _ _ _ w.requires.1 w.requires.3 w.loop-h.invariant.2 _ _ w.args.self.now.paths w.from-else-h-k.result
    (omega (arith, w.loop-h.invariant.0, w.loop-h.invariant.1, e)) (omega (arith, w.loop-h.invariant.0, w.loop-h.invariant.1, e))

pub up-x-requires : goal.up-x-requires
up-x-requires c = omega (arith, (low-left (search rules)).0, standard_words _ _ c.args.self.now.row.standard)

-- the walk after a step on the left
went-left : (u : After-up-x) → let a = u.args in
    Walk a.self.now.row.n a.self.now.row.row.now (first_of a.self.now) (last_of a.self.now) a.a a.b u.up-x.result u.loop-h.y
went-left u =
    let e = u.from-else-h-k.ensures in
    walk_left _ _ (standard_to _ _ u.args.self.now.row.standard) _ _ _ _ _ _ u.requires.1 u.requires.3 u.loop-h.invariant.2 _ _ u.args.self.now.paths u.from-else-h-k.result _
    (omega (arith, u.loop-h.invariant.0, u.loop-h.invariant.1, e)) (omega (arith, u.loop-h.invariant.0, u.loop-h.invariant.1, e)) u.up-x.ensures

pub begin-h-requires-else-h-k : goal.begin-h-requires-else-h-k
begin-h-requires-else-h-k c =
    omega (arith, (went-left (search rules)).left.high, standard_few _ _ c.args.self.now.row.standard)

pub loop-h-smaller : goal.loop-h-smaller
loop-h-smaller c =
    omega (arith, low-left (goal.at.loop-h-smaller c).After-from-else-h-k, ap (λ (t : Reach). t.node) c.up-x.ensures)

pub loop-h-preserved : goal.loop-h-preserved
loop-h-preserved c =
    (c.begin-h-else-h-k.ensures, c.loop-h.invariant.1, went-left (goal.at.loop-h-preserved c).After-up-x)

pub settle-requires : goal.settle-requires
settle-requires c =
    let i = c.loop-h.invariant in
    let w = i.2 in
    let f = standard_falls _ _ (standard_to _ _ c.args.self.now.row.standard) in
    let t = c.args.self.now.trails.now.head in
    let e : entry t c.loop-h.x.node ≡ entry t c.loop-h.y.node = omega (arith, i.0, i.1) in (
      w.left.high,
      w.right.high,
      λ h. same_path _ _ f _ _ c.args.self.now.paths _ _ w.left.low h w.right.high e,
      λ h. same_path _ _ f _ _ c.args.self.now.paths _ _ w.right.low h w.left.high (sym e),
    )

pub returns : goal.returns
returns c =
    c.settle.ensures.ends _ _ c.requires.0 c.requires.1 c.requires.3 c.loop-h.invariant.2
