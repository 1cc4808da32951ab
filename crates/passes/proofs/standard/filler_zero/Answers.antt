-- `passes::standard::filler_zero` meets its contract: the filler is 0 exactly if check 8 accepts. Assumes nothing.
use mathlib.Core.Path.{◌≡◌, refl, sym, ap, ◌∙◌}
use mathlib.Core.Bool.{false}
use Rattle.std.specs.Prelude.{Ok, Err}
use Rattle.std.specs.Result.{is_ok}
use Rattle.trees.specs.Lists.{Place, nowhere, at}
use Rattle.trees.specs.Checks.{accepted, or_else, Check, asked}
use Rattle.trees.specs.Scans.{is_nowhere}
use Rattle.trees.proofs.ChainLaws.{asked_passes}
use Rattle.judge.specs.Verdicts.{Answer, verdict}
use Rattle.passes.proofs.standard.filler_zero.Goals as goal

-- a check is passed exactly if it applies nowhere
ok_nowhere : (a : Answer) (c : Check) → verdict a ≡ asked c → is_ok a ≡ is_nowhere c.fault
ok_nowhere (Ok _) c e = sym (ap is_nowhere (asked_passes c (sym e)))
ok_nowhere (Err x) c e = go c.fault e
  where
    go : (f : Place) → verdict (Err x) ≡ or_else c.number f accepted → false ≡ is_nowhere f
    go nowhere q = cc
    go (at i) q = refl

pub returns : goal.returns
returns c = c.is_ok.ensures.value ∙ ok_nowhere _ _ c.filler.ensures
