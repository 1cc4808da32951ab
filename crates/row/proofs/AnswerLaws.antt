-- How the answers of the checks make the answer of renumbering. Assumes nothing.
use Prim.Native.Nat.{ℕ}
use mathlib.Core.Path.{◌≡◌, sym}
use mathlib.Core.List.{List}
use lib.ListN.{length}
use Rattle.trees.specs.Checks.{accepted, ◌⊳◌, asked, row_words}
use Rattle.trees.specs.Valid.{Valid}
use Rattle.trees.specs.Numbering.{renumbered}
use Rattle.trees.specs.RowCalls.{check3_both, renumber_checks, renumbering}
use Rattle.trees.proofs.ChainLaws.{asked_passes}
use Rattle.trees.proofs.RowCallLaws.{both_lengths, renumbering_accepts}
use Rattle.trees.proofs.OutcomeLaws.{outcome_accepted}

module _ (n : ℕ) (r q : List ℕ) where
  pub passed3_first : accepted ≡ asked (check3_both n r q) → length r ≡ row_words n
  passed3_first e = (both_lengths n r q (asked_passes (check3_both n r q) (sym e))).0

  -- ---- the row is accepted

  module _ (e : renumber_checks n r q ⊳ accepted ≡ accepted) where
    pub both_given : Valid n r × (length q ≡ row_words n)
    unfolding renumbering
    both_given = (renumbering_accepts n r q).0 e

    pub written : (renumbering n r q).words ≡ renumbered n r
    unfolding renumbering
    written = outcome_accepted (renumber_checks n r q) q (renumbered n r) e
