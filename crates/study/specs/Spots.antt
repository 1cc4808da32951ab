-- What a check of an identifier answers beside its verdict: a slot.
use Rattle.std.specs.Prelude.{ℕ, ◌≡◌, Result, Ok, Err}
use Rattle.trees.specs.Checks.{accepted, Check, asked}
use Rattle.judge.specs.declared.Refusal.{Refusal}
use Rattle.judge.specs.Verdicts.{verdict}

-- a slot that is as P says where the check accepts, or else its refusal
abbrev pub Spot : (ℕ → Type 0) → Check → Result ℕ Refusal → Type 0
Spot P c (Ok i) = (accepted ≡ asked c) × P i
Spot P c (Err x) = verdict (Err x) ≡ asked c
