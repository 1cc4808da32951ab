-- Groups of samples, their order, and when two of them agree (RULES 3 and 4).
use Rattle.std.specs.Prelude.{◌≡◌}
use Rattle.std.specs.Prelude.{ℕ, suc, List, [], ◌∷◌, Bool, true, false, ◌&&◌, ◌||◌, not, eqb, ltb, length, get_or, replicate}
use Rattle.trees.specs.Lists.{tabulate}

-- Over n samples a group is a list of n Bools: the entry at s says whether sample s is in it.
abbrev pub Group : Type 0
Group = List Bool

-- whether sample s is in it
abbrev pub has : Group → ℕ → Bool
has g s = get_or g s false

-- the trivial groups: all n samples, and one of them alone (RULES 3.3)
abbrev pub whole : ℕ → Group
whole n = replicate n true

abbrev pub single : ℕ → ℕ → Group
single n s = tabulate n (λ t. eqb t s) 0

-- how many samples it has
unfoldable pub size : Group → ℕ
size [] = 0
size (true ∷ g) = suc (size g)
size (false ∷ g) = size g

-- the smallest sample, or n where there is none
unfoldable pub lowest : Group → ℕ
lowest [] = 0
lowest (true ∷ g) = 0
lowest (false ∷ g) = suc (lowest g)

-- whether it is one sample alone, or all of them (RULES 3.3)
abbrev pub trivial : Group → Bool
trivial g = eqb (size g) 1 || eqb (size g) (length g)

-- whether g lies within h
unfoldable pub within : Group → Group → Bool
within [] h = true
within (x ∷ g) [] = not x && within g []
within (x ∷ g) (y ∷ h) = (not x || y) && within g h

-- whether g and h have no sample in common
unfoldable pub apart : Group → Group → Bool
apart [] h = true
apart (x ∷ g) [] = true
apart (x ∷ g) (y ∷ h) = not (x && y) && apart g h

-- whether one lies within the other or they have no sample in common; if not, they are in conflict (RULES 3.4)
abbrev pub agree : Group → Group → Bool
agree g h = within g h || within h g || apart g h

abbrev pub conflict : Group → Group → Bool
conflict g h = not (agree g h)

-- whether g and h are one group
unfoldable pub same : Group → Group → Bool
same [] [] = true
same [] (y ∷ h) = false
same (x ∷ g) [] = false
same (true ∷ g) (true ∷ h) = same g h
same (true ∷ g) (false ∷ h) = false
same (false ∷ g) (true ∷ h) = false
same (false ∷ g) (false ∷ h) = same g h

-- whether the rising sample list of g comes before that of h, where they have one size; of two lists of Bools
-- that are alike as far as they go the shorter comes first, so that any two groups are ordered
unfoldable pub list_first : Group → Group → Bool
list_first [] [] = false
list_first [] (y ∷ h) = true
list_first (x ∷ g) [] = false
list_first (true ∷ g) (true ∷ h) = list_first g h
list_first (true ∷ g) (false ∷ h) = true
list_first (false ∷ g) (true ∷ h) = false
list_first (false ∷ g) (false ∷ h) = list_first g h

-- Larger groups first, then by rising sample lists. Of groups that agree this is the order of RULES 4.1 (`before_falling`).
unfoldable pub before : Group → Group → Bool
before g h = ltb (size h) (size g) || (eqb (size g) (size h) && list_first g h)

-- whether g is one of a list
unfoldable pub member : Group → List Group → Bool
member g [] = false
member g (h ∷ hs) = same g h || member g hs

-- the i-th group of a list
abbrev pub nth : List Group → ℕ → Group
nth gs i = get_or gs i []

-- every sample of g is in h
abbrev pub Within : Group → Group → Type 0
Within g h = (s : ℕ) → has g s ≡ true → has h s ≡ true

-- no sample of g is in h
abbrev pub Apart : Group → Group → Type 0
Apart g h = (s : ℕ) → has g s ≡ true → has h s ≡ false

-- two groups agree: one is within the other, or they are apart
pub data Agree (g h : Group) : Type 0 where
  under : Within g h → Agree g h
  over : Within h g → Agree g h
  aside : Apart g h → Agree g h
