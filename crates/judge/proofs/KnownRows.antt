-- What is known of a row by the test that its type states. Assumes nothing.
use Prim.Native.Nat.{ℕ}
use mathlib.Core.Path.{◌≡◌, ap}
use mathlib.Core.List.{List}
use mathlib.Core.Bool.{true}
use Rattle.trees.specs.Checks.{judged}
use Rattle.trees.specs.Valid.{Valid, is_accepted, standard}
use Rattle.trees.specs.Falls.{Falls}
use Rattle.trees.proofs.ValidLaws.{accepted_to, judged_valid, valid_judged}
use Rattle.trees.proofs.StandardLaws.{standard_to}
use Rattle.trees.proofs.FallsLaws.{standard_falls}

module _ (n : ℕ) (r : List ℕ) where
  pub known_valid : is_accepted (judged n r) ≡ true → Valid n r
  known_valid e = judged_valid n r (accepted_to (judged n r) e)

  pub shown_valid : Valid n r → is_accepted (judged n r) ≡ true
  shown_valid v = ap is_accepted (valid_judged n r v)

  pub standard_is_valid : standard n r ≡ true → is_accepted (judged n r) ≡ true
  standard_is_valid e = shown_valid (standard_to n r e).valid

  pub standard_is_falling : standard n r ≡ true → Falls n r
  standard_is_falling e = standard_falls n r (standard_to n r e)
