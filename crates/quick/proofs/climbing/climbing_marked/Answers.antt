-- `quick::climbing::climbing_marked` answers check 9: the ways up from the nodes passed end, so the nodes that are left decide. Assumes nothing.
use Rattle.std.specs.Prelude.{not}
use Rattle.std.proofs.Common.{ap}
use mathlib.Core.Path.{refl, sym, ◌∙◌}
use native.Mathlib.Omega.{arith}
use Rattle.trees.proofs.ScanLaws.{scan_start, scan_pass, scan_hit, scan_end}
use borrow.Author.Rules.{rules}
use Rattle.quick.proofs.climbing.climbing_marked.Goals as goal

pub loop-start-init : goal.loop-start-init
loop-start-init c = record { marked = search rules; rest = scan_start refl }

pub returns-then-not-reaches : goal.returns-then-not-reaches
returns-then-not-reaches c n =
    rw c.new.ensures (scan_hit c.loop-start.invariant.rest 9 (omega arith) (rw (← c.reaches.ensures) (ap not c.if-not-reaches.true)))

pub mark-requires : goal.mark-requires
mark-requires c =
    (c.loop-start.invariant.marked, omega arith, sym c.reaches.ensures ∙ c.if-not-reaches.false)

pub loop-start-preserved : goal.loop-start-preserved
loop-start-preserved c =
    record {
      marked = c.mark.ensures;
      rest = scan_pass c.loop-start.invariant.rest (omega arith) (rw (← c.reaches.ensures) (ap not c.if-not-reaches.false));
    }

pub returns : goal.returns
returns c n = scan_end c.loop-start.invariant.rest 9 (omega arith)
