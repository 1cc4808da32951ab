-- What it means that a row is valid (RULES 7.5), and that it is in standard numbering (RULES 4).
use Rattle.std.specs.Prelude.{ℕ, ◌≤◌, ◌<◌, ◌≡◌, ◌⊎◌, List, [], ◌∷◌, Bool, true, false, ◌&&◌, ltb, length, get_or}
use Rattle.trees.specs.Lists.{range, count}
use Rattle.trees.specs.Scans.{never}
use Rattle.trees.specs.Groups.{Group, before, member}
use Rattle.trees.specs.Rows.{nodes, parent, root_mark, child_of, ends, inner}
use Rattle.trees.specs.Checks.{Verdict, accepted, refused, counted, wrote, judged}
use Rattle.trees.specs.Checks.{fewest_samples, most_samples, row_words, children, fewest_children}

-- A row to which none of checks 1, 3 and 5 to 10 applies (RULES 7.5); judging accepts these and no others (`judged_valid`, `valid_judged`).
pub record Valid (n : ℕ) (r : List ℕ) : Type 0 where
  pub least : fewest_samples ≤ n
  pub most : n ≤ most_samples
  pub words : length r ≡ row_words n
  pub low : n < nodes r
  pub high : nodes r < row_words n
  pub leaf : (s : ℕ) → s < n → (n ≤ parent r s) × (parent r s < nodes r)
  pub up : (v : ℕ) → n ≤ v → v < nodes r → (parent r v ≡ root_mark) ⊎ ((n ≤ parent r v) × (parent r v < nodes r))
  pub one : count (child_of r root_mark) (range n (nodes r)) ≡ 1
  pub filler : (w : ℕ) → nodes r < w → w < row_words n → get_or r w 0 ≡ 0
  pub reach : (v : ℕ) → v < nodes r → ends (nodes r) r v ≡ true
  pub child : (v : ℕ) → n ≤ v → v < nodes r → fewest_children ≤ children r v

-- g is one of gs
abbrev pub In : Group → List Group → Type 0
In g gs = member g gs ≡ true

-- each group before all later ones (RULES 4.1)
abbrev pub Strict : List Group → Type 0
Strict [] = Unit {0}
Strict (g ∷ gs) = ((h : Group) → In h gs → before g h ≡ true) × Strict gs

-- A valid row in standard numbering, as rows in a study and in a report are (RULES 4.4); no inner node of it has a single child (RULES 4.5).
pub record Standard (n : ℕ) (r : List ℕ) : Type 0 where
  pub valid : Valid n r
  pub two : (v : ℕ) → n ≤ v → v < nodes r → 2 ≤ children r v
  pub strict : Strict (inner n r)

-- whether a verdict is acceptance
abbrev pub is_accepted : Verdict → Bool
is_accepted accepted = true
is_accepted (refused k p) = false
is_accepted (counted a b c) = false
is_accepted (wrote k) = false

-- each group before the next (RULES 4.1)
unfoldable pub in_order : List Group → Bool
in_order [] = true
in_order (g ∷ []) = true
in_order (g ∷ h ∷ gs) = before g h && in_order (h ∷ gs)

-- whether each inner node has two children or more (RULES 4.5)
abbrev pub branches : ℕ → List ℕ → Bool
branches n r = never (λ v. ltb (children r v) 2) n (nodes r)

-- Standard, as a test (RULES 4.4, 4.5, `standard_to`, `standard_from`).
unfoldable pub standard : ℕ → List ℕ → Bool
standard n r = is_accepted (judged n r) && (branches n r && in_order (inner n r))
