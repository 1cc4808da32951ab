-- What a text means over n samples (RULES 14.8): a group for each sample and each pair; what line 18 asks of it.
use Rattle.std.specs.Prelude.{ℕ, suc, ◌+◌, max, List, [], ◌∷◌, ◌++◌, Bool, cond, not, eqb, ltb, leb}
use Rattle.trees.specs.Lists.{tabulate, count}
use Rattle.trees.specs.Groups.{Group}
use Rattle.newick.specs.Tree.{Mark, Tree, Forest}
use Rattle.newick.specs.Tree.Tree.{leaf, pair}
use Rattle.newick.specs.Tree.Forest.{only, more}

-- the samples of a tree, as they stand
unfoldable mutual
  pub samples : Tree → List ℕ
  samples (leaf x) = x ∷ []
  samples (pair f μ) = samples_in f

  pub samples_in : Forest → List ℕ
  samples_in (only t) = samples t
  samples_in (more f t) = samples_in f ++ samples t

-- how often x stands in a list
abbrev pub times : ℕ → List ℕ → ℕ
times x xs = count (eqb x) xs

-- whether it does
abbrev pub among : ℕ → List ℕ → Bool
among x xs = leb 1 (times x xs)

-- the group of a tree: the samples that stand in it
unfoldable pub group_of : ℕ → List ℕ → Group
group_of n xs = tabulate n (λ s. among s xs) 0

-- one group for each sample and each pair of brackets
unfoldable mutual
  pub groups_of : ℕ → Tree → List Group
  groups_of n (leaf x) = group_of n (x ∷ []) ∷ []
  groups_of n (pair f μ) = group_of n (samples_in f) ∷ groups_in n f

  pub groups_in : ℕ → Forest → List Group
  groups_in n (only t) = groups_of n t
  groups_in n (more f t) = groups_in n f ++ groups_of n t

-- brackets around subtrees; around one alone none are needed (RULES 14.9)
abbrev pub around : Forest → Mark → Tree
around (only t) μ = t
around (more f t) μ = pair (more f t) μ

-- a tree with its single pairs, those that hold one subtree, taken out
unfoldable mutual
  pub trimmed : Tree → Tree
  trimmed (leaf x) = leaf x
  trimmed (pair f μ) = around (trimmed_in f) μ

  pub trimmed_in : Forest → Forest
  trimmed_in (only t) = only (trimmed t)
  trimmed_in (more f t) = more (trimmed_in f) (trimmed t)

-- 1 for the subtrees of a single pair, 0 for those of another
abbrev pub holds_one : Forest → ℕ
holds_one (only t) = 1
holds_one (more f t) = 0

-- how many single pairs a tree has
unfoldable mutual
  pub singles : Tree → ℕ
  singles (leaf x) = 0
  singles (pair f μ) = holds_one f + singles_in f

  pub singles_in : Forest → ℕ
  singles_in (only t) = singles t
  singles_in (more f t) = singles_in f + singles t

-- one more than the largest of a list
unfoldable pub above : List ℕ → ℕ
above [] = 0
above (x ∷ xs) = max (suc x) (above xs)

-- whether a number is amiss: a sample that does not stand just once, or another that stands (line 18 of RULES 7.5)
abbrev pub amiss : ℕ → List ℕ → ℕ → Bool
amiss n xs x = not (eqb (times x xs) (cond (ltb x n) 1 0))
