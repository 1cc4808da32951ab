-- `conflict::ways::Ways::level` goes on along the path, where there is a way to go. Assumes nothing.
use Rattle.std.proofs.Common.{◌≡◌, ◌∙◌, ap, arith}
use Rattle.trees.specs.Tables.{entry}
use Rattle.passes.proofs.StandardRows.{standard_words}
use Rattle.trees.proofs.StandardLaws.{standard_to}
use Rattle.conflict.specs.Routes.{Below}
use Rattle.conflict.specs.GatherLaws.{levelled_stay, levelled_up}
use Rattle.conflict.proofs.ways.Ways.level.Goals.{After-from-then-x-y, Then-x-y}
use Rattle.conflict.proofs.ways.Ways.level.Goals as goal

onward : (c : Then-x-y) → let a = c.args in
    Below a.self.now a.x a.y.node
onward c = c.requires.1 (omega arith)

-- the node of which the parent is taken
goes : (c : After-from-then-x-y) → c.from-then-x-y.result ≡ entry c.args.self.now.trails.now.next c.args.x
goes c =
    c.from-then-x-y.ensures ∙ ap (entry c.args.self.now.trails.now.next) c.from.ensures

pub up-requires : goal.up-requires
up-requires c =
    omega (arith, (onward (goal.at.up-requires c).Then-x-y).high, goes c, standard_words _ _ c.args.self.now.row.standard)

pub returns-then-x-y : goal.returns-then-x-y
returns-then-x-y c =
    levelled_up _ _ (standard_to _ _ c.args.self.now.row.standard) _ _ _ _ _ c.from-then-x-y.result _ (omega arith) (onward (goal.at.returns-then-x-y c).Then-x-y) (goes (goal.at.returns-then-x-y c).After-from-then-x-y) c.up.ensures

pub returns : goal.returns
returns c = levelled_stay _ _ (standard_to _ _ c.args.self.now.row.standard) _ _ c.args.x c.args.y (omega arith)
