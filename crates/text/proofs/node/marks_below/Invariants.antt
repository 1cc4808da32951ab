-- `text::node::marks_below` marks v and each later node whose parent is marked: the marks made so far are right. Assumes nothing.
use Prim.Native.Nat.{◌<◌}
use mathlib.Core.Path.{◌≡◌}
use lib.ListN.{length}
use Rattle.text.specs.Marks.{Marked, mark_count}
use Rattle.text.proofs.node.marks_below.Given as goal

abbrev pub invariant-loop-u : goal.invariant-loop-u
invariant-loop-u l = (l.v < l.u) × (length l.marks ≡ mark_count) × Marked l.tree.n l.tree.row.now l.v l.u l.marks
