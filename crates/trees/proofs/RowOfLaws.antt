-- The row of a list of groups, word by word. Assumes nothing.
use Rattle.std.specs.Prelude.{ℕ, zero, suc, ◌+◌, ◌-◌, ◌≤◌, ◌<◌, ◌≡◌, refl, List, [], ◌∷◌, ◌++◌, cond, length, get_or, take}
use Rattle.std.proofs.Common.{ap, ◌∙◌, append_assoc, append-nil, le_of_suc-le-suc, add-zero, zero-add, add-suc, suc-add, arith, length-append, get_or-append-add, take-suc, length-take-le}
use Rattle.std.proofs.Math.ListN.{get_or-append}
use Rattle.std.proofs.Math.Seq.{append_snoc}
use Rattle.trees.specs.Lists.{tabulate}
use Rattle.trees.specs.Groups.{Group, has, lowest}
use Rattle.trees.specs.Rows.{nodes, parent, root_mark}
use Rattle.trees.specs.Numbering.{last_with, parents, row_of}
use Rattle.trees.proofs.ListLaws.{length_tabulate, get_d_tabulate, length_zeros, get_or_zeros}
use Rattle.trees.specs.Groups.{nth}

-- ---- the last group with a sample

last_snoc : (s : ℕ) (xs : List Group) (g : Group) (n o : ℕ) → last_with s (xs ++ (g ∷ [])) n o ≡ cond (has g s) (n + length xs) (last_with s xs n o)
unfolding last_with
last_snoc s [] g n o = rw add-zero
last_snoc s (x ∷ xs) g n o = rw (add-suc, ← suc-add) (last_snoc s xs g (suc n) (cond (has x s) n o))

pub last_suc : (s : ℕ) (gs : List Group) (i n o : ℕ) → i < length gs
    → last_with s (take (suc i) gs) n o ≡ cond (has (nth gs i) s) (n + i) (last_with s (take i gs) n o)
last_suc s gs i n o h = rw (take-suc gs i [], last_snoc, length-take-le i gs (omega arith))

-- ---- the words

length_parents : (done gs : List Group) (n : ℕ) → length (parents done gs n) ≡ length gs
unfolding parents
length_parents done [] n = refl
length_parents done (g ∷ gs) n = ap suc (length_parents (done ++ (g ∷ [])) gs n)

get_or_parents : (done gs : List Group) (n i : ℕ) → i < length gs → get_or (parents done gs n) i 0 ≡ last_with (lowest (nth gs i)) (done ++ take i gs) n root_mark
unfolding parents
get_or_parents done [] n i h = absurd (omega arith)
get_or_parents done (g ∷ gs) n zero h = rw append-nil
get_or_parents done (g ∷ gs) n (suc i) h = rw append_snoc at (get_or_parents (done ++ (g ∷ [])) gs n i (le_of_suc-le-suc h))

pub nodes_row : (n : ℕ) (gs : List Group) → nodes (row_of n gs) ≡ n + length gs
unfolding nodes row_of
nodes_row n gs = refl

get_or_first : (t p r : List ℕ) (n i : ℕ) → length t ≡ n → i < n → get_or (t ++ p ++ r) i 0 ≡ get_or t i 0
get_or_first t p r n i l h = rw (append_assoc, get_or-append t (p ++ r) 0 i (omega arith))

get_or_second : (t p r : List ℕ) (n i : ℕ) → length t ≡ n → i < length p → get_or (t ++ p ++ r) (n + i) 0 ≡ get_or p i 0
get_or_second t p r n i l h = rw (append_assoc, ← l, get_or-append-add t (p ++ r) i 0, get_or-append p r 0 i h)

get_or_third : (t p r : List ℕ) (n k w : ℕ) → length t ≡ n → length p ≡ k → n + k ≤ w → get_or (t ++ p ++ r) w 0 ≡ get_or r (w - (n + k)) 0
get_or_third t p r n k w a b h = let e : w ≡ length (t ++ p) + (w - (n + k)) = (rw length-append (omega arith)) in
    ap (λ (v : ℕ). get_or (t ++ p ++ r) v 0) e ∙ get_or-append-add (t ++ p) r (w - (n + k)) 0

pub parent_leaf : (n : ℕ) (gs : List Group) (s : ℕ) → s < n → parent (row_of n gs) s ≡ last_with s gs n root_mark
unfolding parent row_of
parent_leaf n gs s h = get_or_first (tabulate n (λ t. last_with t gs n root_mark) 0) (parents [] gs n) _ n s (length_tabulate n _ 0) h
    ∙ get_d_tabulate n (λ t. last_with t gs n root_mark) 0 s 0 h ∙ ap (λ (t : ℕ). last_with t gs n root_mark) (zero-add s)

pub parent_inner : (n : ℕ) (gs : List Group) (i : ℕ) → i < length gs → parent (row_of n gs) (n + i) ≡ last_with (lowest (nth gs i)) (take i gs) n root_mark
unfolding parent row_of
parent_inner n gs i h = get_or_second (tabulate n (λ t. last_with t gs n root_mark) 0) (parents [] gs n) _ n i (length_tabulate n _ 0)
    (rw length_parents h) ∙ get_or_parents [] gs n i h

pub length_row : (n : ℕ) (gs : List Group) → length (row_of n gs) ≡ suc (n + length gs + (n - 1 - length gs))
unfolding row_of
length_row n gs = simp (length-append, length_tabulate, length_parents, length_zeros)

pub filler_row : (n : ℕ) (gs : List Group) (w : ℕ) → n + length gs < w → get_or (row_of n gs) w 0 ≡ 0
unfolding row_of
filler_row n gs zero h = absurd (omega arith)
filler_row n gs (suc w) h = get_or_third (tabulate n (λ t. last_with t gs n root_mark) 0) (parents [] gs n) _ n (length gs) w (length_tabulate n _ 0)
    (length_parents [] gs n) (le_of_suc-le-suc h) ∙ get_or_zeros (n - 1 - length gs) _
