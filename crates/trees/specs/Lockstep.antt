-- Numbering the kept groups of two rows in one walk over both.
use Rattle.std.specs.Prelude.{ℕ, suc, ◌+◌, ◌-◌, ◌%◌, ◌≤◌, ◌<◌, min, ◌≡◌, List, [], ◌∷◌, ◌++◌, Bool, true, false, cond, ltb, leb, length, drop, set}
use Rattle.trees.specs.Lists.{zeros}
use Rattle.trees.specs.Groups.{Group, lowest, same}
use Rattle.trees.specs.Rows.{nodes, group_at}
use Rattle.trees.specs.Numbering.{ordered}
use Rattle.trees.specs.Tables.{Tabled, table_words, rank_step, rank_in}
use Rattle.trees.specs.Groups.{nth}
use Rattle.trees.specs.Merging.{flagged, kept_from, merged}

-- x is the first node from v on that is kept, or m where none is below m
pub record Next (keep : List Bool) (v m x : ℕ) : Type 0 where
  pub low : v ≤ x
  pub high : x ≤ m
  pub kept : x < m → flagged keep x ≡ true
  pub none : (u : ℕ) → v ≤ u → u < x → flagged keep u ≡ false

-- a table of zeros
unfoldable pub blank : List ℕ
blank = zeros table_words

-- a number greater than every rank
abbrev pub rank_end : ℕ
rank_end = 1048576

-- the rank of node v by its row's tables, and after the last node that number
unfoldable pub rank_or_end : ℕ → ℕ → List ℕ → List ℕ → ℕ → ℕ
rank_or_end n m sizes lows v = cond (ltb v m) (rank_in n sizes lows v) rank_end

-- of two nodes of ranks p and q the one of smaller rank takes the next number, and both do where ranks are equal; low is the smallest sample
pub record Chosen (p q : ℕ) (first second : Bool) (low : ℕ) : Type 0 where
  pub left : first ≡ leb p q
  pub right : second ≡ leb q p
  pub sample : low ≡ min p q % rank_step

-- the index of a group in a list
unfoldable pub place_in : Group → List Group → ℕ
place_in g [] = 0
place_in g (h ∷ hs) = cond (same g h) 0 (suc (place_in g hs))

-- the new number of node v: that of its group among gs, and 0 where it is not kept
abbrev pub number_at : ℕ → List ℕ → List Bool → List Group → ℕ → ℕ
number_at n r keep gs v = cond (flagged keep v) (n + place_in (group_at n r v) gs) 0

-- the smallest sample of the group numbered i
abbrev pub low_of : ℕ → List Group → ℕ → ℕ
low_of n gs i = lowest (nth gs (i - n))

-- each kept node of both rows has its number, and each of the numbers to below c its smallest sample
pub record Numbered (n : ℕ) (a : List ℕ) (keep_a : List Bool) (b : List ℕ) (keep_b : List Bool) (num_a num_b mins : List ℕ) (c : ℕ) : Type 0 where
  pub total : c ≡ n + length (merged n a keep_a b keep_b)
  pub left : Tabled (number_at n a keep_a (merged n a keep_a b keep_b)) n (nodes a) num_a
  pub right : Tabled (number_at n b keep_b (merged n a keep_a b keep_b)) n (nodes b) num_b
  pub lows : Tabled (low_of n (merged n a keep_a b keep_b)) n c mins
  pub words_a : length num_a ≡ table_words
  pub words_b : length num_b ≡ table_words
  pub words : length mins ≡ table_words

-- the nodes of one row before x have their numbers, all others 0, and x is kept or the end
pub record Side (n : ℕ) (r : List ℕ) (keep : List Bool) (gs : List Group) (x : ℕ) (num : List ℕ) : Type 0 where
  pub low : n ≤ x
  pub high : x ≤ nodes r
  pub kept : x < nodes r → flagged keep x ≡ true
  pub words : length num ≡ table_words
  pub given : Tabled (λ v. cond (ltb v x) (number_at n r keep gs v) 0) n (nodes r) num

-- the walk has come to x and y: the first c - n of the merged groups are numbered, and the others are those kept from x and y on
pub record Lock (n : ℕ) (a : List ℕ) (keep_a : List Bool) (b : List ℕ) (keep_b : List Bool) (num_a num_b mins : List ℕ) (x y c : ℕ) : Type 0 where
  pub left : Side n a keep_a (merged n a keep_a b keep_b) x num_a
  pub right : Side n b keep_b (merged n a keep_a b keep_b) y num_b
  pub least : n ≤ c
  pub most : c ≤ n + length (merged n a keep_a b keep_b)
  pub words : length mins ≡ table_words
  pub lows : Tabled (low_of n (merged n a keep_a b keep_b)) n c mins
  pub rest : drop (c - n) (merged n a keep_a b keep_b) ≡ ordered (kept_from n a keep_a x ++ kept_from n b keep_b y)

-- what becomes of a side when its node v may take the number c: the table and the next node
pub record Given (num : List ℕ) (keep : List Bool) (v m c : ℕ) (taken : Bool) (done : List ℕ) (x : ℕ) : Type 0 where
  pub stored : taken ≡ true → set num v c ≡ done
  pub next : taken ≡ true → Next keep (v + 1) m x
  pub same : taken ≡ false → (num ≡ done) × (v ≡ x)
