-- How the answers of the checks make the answer of comparing. Assumes nothing.
use Prim.Native.Nat.{ℕ}
use mathlib.Core.Path.{◌≡◌, sym, ap, ◌∙◌}
use mathlib.Core.List.{List, map}
use Rattle.trees.specs.Checks.{Verdict, accepted, Check, ◌⊳◌, row_words, row_checks}
use Rattle.trees.specs.Valid.{Valid}
use Rattle.trees.specs.Comparing.{compared}
use Rattle.trees.specs.RowCalls.{moved, renumber_checks, compare_checks, comparing}
use Rattle.trees.proofs.ChainLaws.{chain_append, chain_passed, passed_chain}
use Rattle.trees.proofs.RowCallLaws.{moved_verdict, chain_moved, comparing_accepts}

-- ---- the second row's checks

-- what a row is answered by itself, with the place moved, is the answer of the second row's checks
pub place_moved : (n : ℕ) (q : List ℕ) (v : Verdict) → v ≡ row_checks n q ⊳ accepted
    → moved_verdict (row_words n) v ≡ map (moved (row_words n)) (row_checks n q) ⊳ accepted
place_moved n q v e = sym (chain_moved (row_words n) (row_checks n q) ∙ ap (moved_verdict (row_words n)) (sym e))

module _ (n : ℕ) (r q : List ℕ) where
  abbrev seconds : List Check
  seconds = map (moved (row_words n)) (row_checks n q)

  -- they come after those that renumbering has
  pub checks_split : (v : Verdict) → compare_checks n r q ⊳ v ≡ renumber_checks n r q ⊳ (seconds ⊳ v)
  unfolding compare_checks renumber_checks
  checks_split v = chain_append (renumber_checks n r q) seconds v

  -- rows that pass all of them are valid
  pub both_valid : accepted ≡ compare_checks n r q ⊳ accepted → Valid n r × Valid n q
  unfolding comparing
  both_valid e = (comparing_accepts n r q).0 (passed_chain cs (compared n r q) (chain_passed cs (sym e)))
    where
      cs : List Check
      cs = compare_checks n r q
