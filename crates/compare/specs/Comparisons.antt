-- The counts, or the number and the place, that an answer of comparing stands for.
use Rattle.std.specs.Prelude.{Result, Ok, Err}
use Rattle.trees.specs.Checks.{Verdict, refused, counted}
use Rattle.judge.specs.declared.Refusal.{Refusal}
use Rattle.judge.specs.Verdicts.{number_of}
use Rattle.compare.specs.declared.Comparison.{Comparison}

-- what comparing answers: counts, or a refusal
abbrev pub Compared : Type 0
Compared = Result Comparison Refusal

abbrev pub counts_verdict : Comparison → Verdict
counts_verdict c = counted c.both c.first c.second

abbrev pub comparison : Compared → Verdict
comparison (Ok c) = counts_verdict c
comparison (Err r) = refused (number_of r.reason) r.place
