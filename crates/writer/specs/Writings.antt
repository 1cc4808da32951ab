-- What an answer of writing stands for (RULES 7.1).
use Rattle.std.specs.Prelude.{ℕ, Result, Ok, Err}
use Rattle.trees.specs.Checks.{Verdict, refused, wrote}
use Rattle.judge.specs.declared.Refusal.{Refusal}
use Rattle.judge.specs.Verdicts.{number_of}

-- what writing answers: the length of a text, or a refusal
abbrev pub Written : Type 0
Written = Result ℕ Refusal

-- the length of a text, or the number and the place of a refusal
abbrev pub written_verdict : Written → Verdict
written_verdict (Ok k) = wrote k
written_verdict (Err r) = refused (number_of r.reason) r.place
