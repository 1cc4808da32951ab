-- `study::form::slots_stored` meets its contract: the slots that are left decide. Assumes nothing.
use Rattle.runs.specs.Words.{run_at}
use mathlib.Core.Path.{◌≡◌}
use Prim.Native.Nat.{◌-◌}
use Rattle.trees.specs.Lists.{tabulate}
use Rattle.study.specs.Scans.{stored_from}
use Rattle.study.proofs.form.slots_stored.Given as goal

abbrev pub invariant-loop-i : goal.invariant-loop-i
invariant-loop-i l =
    stored_from l.n 0 (tabulate l.k (run_at l.n l.words) 0) ≡ stored_from l.n l.last (tabulate (l.k - l.i) (run_at l.n l.words) l.i)
