-- A tree with its single pairs taken out has none of them, the same samples and the same groups; a text is read as if it had none. Assumes
-- nothing.
use Rattle.std.specs.Prelude.{ℕ, ◌≡◌, List, [], ◌∷◌, ◌||◌}
use Rattle.std.proofs.Math.Path.{refl}
use Rattle.std.proofs.Common.{sym, ap, ◌∙◌, ⊎_elim, arith}
use Rattle.trees.specs.Groups.{Group, same, member}
use Rattle.trees.specs.Numbering.{branching, row_of}
use Rattle.trees.specs.Valid.{In}
use Rattle.trees.proofs.BoolLaws.{true_eq}
use Rattle.trees.proofs.MemberLaws.{in_head, in_tail, in_cases, member_append, ordered_same}
use Rattle.newick.specs.Tree.{Mark, Tree, Forest}
use Rattle.newick.specs.Tree.Tree.{leaf, pair}
use Rattle.newick.specs.Tree.Forest.{only, more}
use Rattle.newick.specs.Grammar.{Text}
use Rattle.newick.specs.Walk.Parse.{reads}
use Rattle.newick.specs.Meaning.{samples, samples_in, group_of, groups_of, groups_in}
use Rattle.newick.specs.Meaning.{around, trimmed, trimmed_in, holds_one, singles, singles_in}
use Rattle.newick.specs.ReadCalls.{read_checks, text_checks, row_in, reading}
use Rattle.newick.proofs.Complete.{complete}

-- ---- no single pair is left

around_none : (f : Forest) (μ : Mark) → singles_in f ≡ 0 → singles (around f μ) ≡ 0
unfolding singles
around_none (only t) μ e = omega (arith, e)
around_none (more f t) μ e = omega (arith, e)

mutual
  unfolding singles singles_in trimmed trimmed_in

  pub trimmed_none : (t : Tree) → singles (trimmed t) ≡ 0
  trimmed_none (leaf x) = refl
  trimmed_none (pair f μ) = around_none (trimmed_in f) μ (trimmed_none_in f)

  trimmed_none_in : (f : Forest) → singles_in (trimmed_in f) ≡ 0
  trimmed_none_in (only t) = trimmed_none t
  trimmed_none_in (more f t) = omega (arith, trimmed_none_in f, trimmed_none t)

-- and a tree that has none stays as it is
around_pair : (f : Forest) (μ : Mark) → holds_one f ≡ 0 → around f μ ≡ pair f μ
around_pair (only t) μ e = absurd (omega arith)
around_pair (more f t) μ e = refl

mutual
  unfolding singles singles_in trimmed trimmed_in

  pub trimmed_same : (t : Tree) → singles t ≡ 0 → trimmed t ≡ t
  trimmed_same (leaf x) e = refl
  trimmed_same (pair f μ) e = rw (trimmed_same_in f (omega arith)) (around_pair f μ (omega arith))

  trimmed_same_in : (f : Forest) → singles_in f ≡ 0 → trimmed_in f ≡ f
  trimmed_same_in (only t) e = ap only (trimmed_same t e)
  trimmed_same_in (more f t) e = rw (trimmed_same_in f (omega arith), trimmed_same t (omega arith)) refl

-- ---- the same samples, in the same order

around_samples : (f : Forest) (μ : Mark) → samples (around f μ) ≡ samples_in f
unfolding samples
around_samples (only t) μ = refl
around_samples (more f t) μ = refl

mutual
  unfolding samples samples_in trimmed trimmed_in

  pub trimmed_samples : (t : Tree) → samples (trimmed t) ≡ samples t
  trimmed_samples (leaf x) = refl
  trimmed_samples (pair f μ) = around_samples (trimmed_in f) μ ∙ trimmed_samples_in f

  trimmed_samples_in : (f : Forest) → samples_in (trimmed_in f) ≡ samples_in f
  trimmed_samples_in (only t) = trimmed_samples t
  trimmed_samples_in (more f t) = rw (trimmed_samples_in f, trimmed_samples t) refl

-- ---- the same groups

-- the group of a tree is one of its groups
own_group : (n : ℕ) (t : Tree) → In (group_of n (samples t)) (groups_of n t)
unfolding samples groups_of
own_group n (leaf x) = in_head (group_of n (x ∷ [])) []
own_group n (pair f μ) = in_head (group_of n (samples_in f)) (groups_in n f)

-- so a single pair adds no group to those of its subtree
around_groups : (n : ℕ) (f : Forest) (μ : Mark) (x : Group)
    → member x (groups_of n (around f μ)) ≡ member x (group_of n (samples_in f) ∷ groups_in n f)
unfolding samples groups_of
around_groups n (only t) μ x =
    let g = group_of n (samples t) in
    true_eq (member x (groups_of n t)) (member x (g ∷ groups_of n t)) (in_tail x g (groups_of n t))
    (λ e. ⊎_elim (λ q. rw q (own_group n t)) (λ q. q) (in_cases x g (groups_of n t) e))
around_groups n (more f t) μ x = refl

mutual
  unfolding groups_of groups_in trimmed trimmed_in member

  pub trimmed_groups : (n : ℕ) (t : Tree) (x : Group) → member x (groups_of n (trimmed t)) ≡ member x (groups_of n t)
  trimmed_groups n (leaf y) x = refl
  trimmed_groups n (pair f μ) x = around_groups n (trimmed_in f) μ x
      ∙ rw (trimmed_samples_in f) (ap (same x (group_of n (samples_in f)) ||◌) (trimmed_groups_in n f x))

  trimmed_groups_in : (n : ℕ) (f : Forest) (x : Group) → member x (groups_in n (trimmed_in f)) ≡ member x (groups_in n f)
  trimmed_groups_in n (only t) x = trimmed_groups n t x
  trimmed_groups_in n (more f t) x = member_append x (groups_in n (trimmed_in f)) (groups_of n (trimmed t))
      ∙ rw (trimmed_groups_in n f x, trimmed_groups n t x) (sym (member_append x (groups_in n f) (groups_of n t)))

-- ---- the same row, and the same reading

-- the row of a tree is that of the tree without its single pairs (RULES 14.9)
pub trimmed_row : (n : ℕ) (t : Tree) → row_in n (trimmed t) ≡ row_in n t
unfolding row_in
trimmed_row n t = ap (λ (gs : List Group). row_of n (branching gs))
    (ordered_same (groups_of n (trimmed t)) (groups_of n t) (trimmed_groups n t))

module _ (t u : Tree) (e : trimmed t ≡ trimmed u) where
  alike_samples : samples t ≡ samples u
  alike_samples = sym (trimmed_samples t) ∙ ap samples e ∙ trimmed_samples u

  alike_row : (n : ℕ) → row_in n t ≡ row_in n u
  alike_row n = sym (trimmed_row n t) ∙ ap (row_in n) e ∙ trimmed_row n u

  alike_checks : (n : ℕ) (out : List ℕ) → read_checks n (reads t) out ≡ read_checks n (reads u) out
  unfolding read_checks text_checks
  alike_checks n out = rw alike_samples refl

  -- two texts that differ in nothing but single pairs are read alike: the same answer, and the same words (RULES 14.9)
  pub reading_alike : (n : ℕ) (l m out : List ℕ) → Text l t → Text m u → reading n l out ≡ reading n m out
  unfolding reading
  reading_alike n l m out a b = rw (complete a, complete b, alike_checks n out, alike_row n) refl
