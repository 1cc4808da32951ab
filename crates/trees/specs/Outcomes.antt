-- What a call answers, and the words that it leaves in the buffer that it may write (RULES 7).
use Rattle.std.specs.Prelude.{List, cond, ℕ}
use Rattle.trees.specs.Checks.{Verdict, accepted, Check, ◌⊳◌}
use Rattle.trees.specs.Valid.{is_accepted}

-- what a call answers, and its buffer after it
pub record Outcome : Type 0 where
  pub verdict : Verdict
  pub words : List ℕ

-- a call that is accepted leaves the new words, and one that is refused the old (RULES 7.4)
abbrev pub outcome : List Check → List ℕ → List ℕ → Outcome
outcome checks old new = record { verdict = checks ⊳ accepted; words = cond (is_accepted (checks ⊳ accepted)) new old }
