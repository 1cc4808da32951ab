-- The checks of a text, the row that is laid for one that passes, and what is left in `out` (RULES 14).
use Rattle.std.specs.Prelude.{ℕ, ◌≡◌, cond, List, take, replicate, None, Ok, Err}
use Rattle.trees.specs.Lists.{zeros}
use Rattle.trees.specs.Checks.{Check, accepted, ◌⊳◌, most_samples, row_words}
use Rattle.trees.specs.Tables.{table_words}
use Rattle.trees.specs.Valid.{is_accepted}
use Rattle.judge.specs.Verdicts.{Answer, verdict}
use Rattle.newick.specs.Tree.{Tree}
use Rattle.newick.specs.Walk.{parsed}
use Rattle.newick.specs.ReadCalls.{tree_in, text_checks, row_in}
use Rattle.lay.specs.declared.keep.Kept.{Kept}
use Rattle.lay.specs.declared.tables.Standing.{Standing}
use Rattle.lay.specs.declared.tables.Standing.TheVariants.{Never}
use Rattle.lay.specs.Laying.{grow, laid_row}

-- what a reading over n samples starts with: no node, no sample too large, no link, no mark
pub record Unread (n : ℕ) (kept : Kept) (row : List ℕ) (marks : List Standing) : Type 0 where
  pub numbers : kept ≡ record { root = 0; next = n; large = None }
  pub words : row ≡ zeros table_words
  pub tallies : marks ≡ replicate most_samples Never

-- the checks 17 and 18 of a text
abbrev pub checks_of : ℕ → List ℕ → List Check
checks_of n l = text_checks n (parsed l)

-- the tree of a text
abbrev pub tree_of : List ℕ → Tree
tree_of l = tree_in (parsed l)

-- a text is refused as its checks say, or its row is laid
abbrev pub Lies : List ℕ → ℕ → Answer → List ℕ → Type 0
Lies l n (Ok _) row = (checks_of n l ⊳ accepted ≡ accepted) × (take (row_words n) row ≡ laid_row n (grow (tree_of l) n))
Lies l n (Err x) row = checks_of n l ⊳ accepted ≡ verdict (Err x)

-- what is left in `out`
abbrev pub left_in : ℕ → List ℕ → List ℕ → List ℕ
left_in n l out = cond (is_accepted (checks_of n l ⊳ accepted)) (row_in n (tree_of l)) out
