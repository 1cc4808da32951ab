-- `conflict::ways::Ways::meet` walks to one path, and along it to the first node that is above both. Assumes nothing.
use Prim.Native.Nat.{◌+◌}
use mathlib.Core.Path.{◌≡◌}
use Rattle.trees.specs.Tables.{entry}
use Rattle.conflict.specs.Gathering.{Walk}
use Rattle.conflict.specs.Routes.{first_of, last_of}
use Rattle.conflict.proofs.ways.Ways.meet.Given as goal

abbrev pub invariant-loop-h : goal.invariant-loop-h
invariant-loop-h l = (l.h ≡ entry l.self.trails.now.head l.x.node) × (l.k ≡ entry l.self.trails.now.head l.y.node)
    × Walk l.self.row.n l.self.row.row.now (first_of l.self) (last_of l.self) l.initial.x l.initial.y l.x l.y

abbrev pub decreases-loop-h : goal.decreases-loop-h
decreases-loop-h l = l.x.node + l.y.node
