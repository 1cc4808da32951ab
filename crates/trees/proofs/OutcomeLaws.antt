-- After a refusal the words are the old ones, after an acceptance the new. Assumes nothing.
use Rattle.std.specs.Prelude.{ℕ, ◌≡◌, List, cond}
use Rattle.std.proofs.Common.{ap}
use Rattle.trees.specs.Checks.{Verdict, accepted, refused, Check, ◌⊳◌}
use Rattle.trees.specs.Valid.{is_accepted}
use Rattle.trees.specs.Outcomes.{outcome}

module _ (checks : List Check) (old new : List ℕ) where
  pub outcome_refused : (k p : ℕ) → checks ⊳ accepted ≡ refused k p → (outcome checks old new).words ≡ old
  outcome_refused k p e = ap (λ (v : Verdict). cond (is_accepted v) new old) e

  pub outcome_accepted : checks ⊳ accepted ≡ accepted → (outcome checks old new).words ≡ new
  outcome_accepted e = ap (λ (v : Verdict). cond (is_accepted v) new old) e
