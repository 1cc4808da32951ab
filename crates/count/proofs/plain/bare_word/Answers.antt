-- `count::plain::bare_word` meets its contract. Assumes nothing.
use Prim.Native.Nat.{◌+◌}
use mathlib.Core.Path.{◌≡◌, sym}
use native.Mathlib.Omega.{arith}
use Rattle.count.specs.TakingLaws.{bare_nodes, bare_leaf, bare_root, bare_filler}
use Rattle.count.proofs.plain.bare_word.Goals as goal

pub returns-then-w-eq0 : goal.returns-then-w-eq0
returns-then-w-eq0 c =
    let e : c.args.w ≡ 0 = omega arith in
    rw (e, bare_nodes c.args.n)

pub returns-then-w-n : goal.returns-then-w-n
returns-then-w-n c =
    sym (bare_leaf c.args.n c.args.w (omega arith) (omega arith))

pub returns-then-w-n-2 : goal.returns-then-w-n-2
returns-then-w-n-2 c =
    let e : c.args.w ≡ c.args.n + 1 = omega arith in
    rw (e, bare_root c.args.n)

pub returns : goal.returns
returns c =
    sym (bare_filler c.args.n c.args.w (omega arith))
