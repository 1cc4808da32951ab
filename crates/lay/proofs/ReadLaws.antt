-- What an accepted reading writes: a standard row with exactly the groups of the text's samples and pairs. Assumes nothing.
use Rattle.std.specs.Prelude.{ℕ, ◌≡◌, List}
use Rattle.std.proofs.Math.Path.{sym, ap}
use Rattle.std.proofs.Common.{subst, ◌∙◌}
use Rattle.trees.specs.Groups.{Group, member}
use Rattle.trees.specs.Rows.{groups}
use Rattle.trees.specs.Checks.{accepted}
use Rattle.trees.specs.Valid.{Valid, Standard}
use Rattle.trees.specs.Numbering.{renumbered}
use Rattle.trees.proofs.OutcomeLaws.{outcome_accepted}
use Rattle.trees.proofs.NumberingLaws.{renumbered_standard, renumbered_groups}
use Rattle.newick.specs.Tree.{Tree}
use Rattle.newick.specs.Grammar.{Text}
use Rattle.newick.specs.Walk.{Parse, parsed}
use Rattle.newick.specs.Meaning.{groups_of}
use Rattle.newick.specs.Faults.{Sized, Readable}
use Rattle.newick.specs.ReadCalls.{tree_in, read_checks, row_in, reading}
use Rattle.newick.proofs.Complete.{complete}
use Rattle.newick.proofs.RoundTrip.{row-in}
use Rattle.newick.proofs.ReadCallLaws.{reading_accepts}
use Rattle.lay.specs.Laying.{grow, laid_row}
use Rattle.lay.proofs.LaidRow.{laid_valid, laid_groups}

module _ (n : ℕ) (l out : List ℕ) (e : (reading n l out).verdict ≡ accepted) (t : Tree) (s : Text l t) where
  -- the row that is laid for the text
  abbrev laid : List ℕ
  laid = laid_row n (grow t n)

  sized : Sized n out
  sized = ((reading_accepts n l out).0 e).0

  -- the tree that was read is the text's
  readable : Readable n t
  readable = let h = ((reading_accepts n l out).0 e).1 in
      subst (Readable n) (one_tree h.0 h.1) h.2
    where
      one_tree : (u : Tree) → Text l u → u ≡ t
      one_tree u q = sym (ap tree_in (complete q)) ∙ ap tree_in (complete s)

  valid : Valid n laid
  valid = laid_valid n t sized.least sized.most (readable)

  written_words : (reading n l out).words ≡ renumbered n laid
  unfolding reading
  written_words = outcome_accepted (read_checks n (parsed l) out) out (row_in n (tree_in (parsed l))) e
      ∙ ap (λ (o : Parse). row_in n (tree_in o)) (complete s)
      ∙ row-in n laid t (λ g. sym (laid_groups n t sized.least sized.most (readable) g))

  -- the row is in standard numbering (RULES 14.9)
  pub reading_standard : Standard n (reading n l out).words
  reading_standard = subst (Standard n) (sym written_words) (renumbered_standard n laid valid)

  -- it has exactly the groups of the text's samples and pairs (RULES 14.9)
  pub reading_groups : (x : Group) → member x (groups n (reading n l out).words) ≡ member x (groups_of n t)
  reading_groups x = ap (λ (w : List ℕ). member x (groups n w)) written_words ∙ renumbered_groups n laid valid x
      ∙ laid_groups n t sized.least sized.most (readable) x
