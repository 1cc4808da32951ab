-- Two answers of comparing with one verdict are the same answer. Assumes nothing.
use Rattle.std.specs.Prelude.{◌≡◌, ℕ, Ok, Err}
use Rattle.std.proofs.Common.{ap, rules}
use Rattle.trees.specs.Checks.{Verdict, counted}
use Rattle.judge.specs.VerdictLaws.{refusal_injective}
use Rattle.compare.specs.declared.Comparison.{Comparison}
use Rattle.compare.specs.Comparisons.{Compared, comparison}

counts_same : (c d : Comparison) → c.both ≡ d.both → c.first ≡ d.first → c.second ≡ d.second → c ≡ d
counts_same c d e f g = search rules

both_in : Verdict → ℕ
both_in (counted x y z) = x
both_in _ = 0

first_in : Verdict → ℕ
first_in (counted x y z) = y
first_in _ = 0

second_in : Verdict → ℕ
second_in (counted x y z) = z
second_in _ = 0

pub comparison_injective : (a b : Compared) → comparison a ≡ comparison b → a ≡ b
unfolding both_in first_in second_in
comparison_injective (Ok c) (Ok d) e = ap Ok (counts_same c d (ap both_in e) (ap first_in e) (ap second_in e))
comparison_injective (Ok c) (Err r) e = cc
comparison_injective (Err r) (Ok d) e = cc
comparison_injective (Err r) (Err s) e = ap Err (refusal_injective r s e)
