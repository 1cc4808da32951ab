-- `count::rule::references` takes off the runs that hold a group at least, and leaves one. Assumes nothing.
use Prim.Native.Nat.{ℕ, max, zero, suc}
use mathlib.Core.Path.{◌≡◌, refl, ◌∙◌}
use mathlib.Core.Bool.{cond}
use lib.Dec.{eqb}
use native.Mathlib.Omega.{arith}
use borrow.Author.Tests.{ne_eqb}
use Rattle.trees.specs.Majority.{references}
use Rattle.count.proofs.rule.references.Goals as goal

one_least : (x : ℕ) → max x 1 ≡ cond (eqb x 0) 1 x
one_least zero = refl
one_least (suc x) = rw (ne_eqb (suc x) 0 (λ e. omega arith)) (omega arith)

pub returns : goal.returns
unfolding references
returns c = c.max.ensures ∙ one_least _
