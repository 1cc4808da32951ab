-- `merge::lockstep` walks over both rows in lockstep. Assumes nothing.
use Rattle.std.proofs.Common.{◌<◌, arith}
use Rattle.trees.specs.Tables.{table_words}
use Rattle.trees.specs.Passes.{Ranked}
use Rattle.trees.proofs.LockstepLaws.{lock_start, lock_step, lock_end, lock_on, first_taken, second_taken, number_fits}
use Rattle.merge.proofs.lockstep.Goals.{In-loop-x}
use Rattle.merge.proofs.lockstep.Goals as goal

pub loop-x-init : goal.loop-x-init
loop-x-init c =
    lock_start c.requires.0.agree c.requires.1 c.requires.2 (omega arith) c.next_kept-x.ensures c.next_kept-y.ensures

-- the ranks of the second row, over the samples of the first
other : (c : In-loop-x) → Ranked c.args.a.now.row.n c.args.b.now.row.row.now c.args.b.now.ranks.now.size c.args.b.now.ranks.now.low
other c = rw c.requires.0.same at c.args.b.now.ranked

room : (c : In-loop-x) → c.loop-x.c < table_words
room c =
    number_fits c.requires.0.agree c.loop-x.invariant c.args.a.now.ranked (other c) (rw (c.nodes.ensures, c.nodes-in-loop-x.ensures) at c.loop-x-test.true)

pub offset_bounds-mins-c : goal.offset_bounds-mins-c
offset_bounds-mins-c c = omega (arith, room (goal.at.offset_bounds-mins-c c).In-loop-x)

pub bounds-mins-c : goal.bounds-mins-c
bounds-mins-c c = omega (arith, room (goal.at.bounds-mins-c c).In-loop-x)

pub give-x-requires : goal.give-x-requires
give-x-requires c =
    let left = rw (c.nodes.ensures, c.nodes-in-loop-x.ensures) at c.loop-x-test.true in
    let i = (goal.at.give-x-requires c).In-loop-x in
    (room i, first_taken c.requires.0.agree c.loop-x.invariant c.args.a.now.ranked (other i) left (rw c.requires.0.same at c.choose_next-next.ensures))

pub give-y-requires : goal.give-y-requires
give-y-requires c =
    let left = rw (c.nodes.ensures, c.nodes-in-loop-x.ensures) at c.loop-x-test.true in
    let i = (goal.at.give-y-requires c).In-loop-x in
    (room i, second_taken c.requires.0.agree c.loop-x.invariant c.args.a.now.ranked (other i) left (rw c.requires.0.same at c.choose_next-next.ensures))

pub overflow_add-c : goal.overflow_add-c
overflow_add-c c = omega (arith, room (goal.at.overflow_add-c c).In-loop-x)

pub loop-x-smaller : goal.loop-x-smaller
loop-x-smaller c =
    let left = rw (c.nodes.ensures, c.nodes-in-loop-x.ensures) at c.loop-x-test.true in
    let t = rw c.requires.0.same at c.choose_next-next.ensures in
    let o = other (goal.at.loop-x-smaller c).In-loop-x in
    let n = lock_step c.requires.0.agree c.loop-x.invariant c.args.a.now.ranked o left t c.give-x.ensures c.give-y.ensures in
    omega (arith, lock_on c.requires.0.agree c.loop-x.invariant c.args.a.now.ranked o left t c.give-x.ensures c.give-y.ensures, n.left.high, n.right.high)

pub loop-x-preserved : goal.loop-x-preserved
loop-x-preserved c =
    let left = rw (c.nodes.ensures, c.nodes-in-loop-x.ensures) at c.loop-x-test.true in
    lock_step c.requires.0.agree c.loop-x.invariant c.args.a.now.ranked (other (goal.at.loop-x-preserved c).In-loop-x) left
    (rw c.requires.0.same at c.choose_next-next.ensures) c.give-x.ensures c.give-y.ensures

pub returns : goal.returns
returns c =
    lock_end c.requires.0.agree c.loop-x.invariant (rw (c.nodes.ensures, c.nodes-in-loop-x.ensures) at c.loop-x-test.false)
