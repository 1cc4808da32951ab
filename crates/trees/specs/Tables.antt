-- Tables of values by node, and what the passes put into them: sizes, least keys, ranks.
use Rattle.std.specs.Prelude.{ℕ, suc, ◌+◌, ◌-◌, ◌*◌, ◌≤◌, ◌<◌, min, ◌≡◌, List, [], ◌∷◌, Bool, false, cond, ltb, length, get_or}
use Rattle.trees.specs.Groups.{Group, size}
use Rattle.trees.specs.Rows.{root_mark, group_at}

-- the words from a to below b are the values of f
pub record Tabled (f : ℕ → ℕ) (a b : ℕ) (t : List ℕ) : Type 0 where
  pub is : (v : ℕ) → a ≤ v → v < b → get_or t v 0 ≡ f v

-- the flags from a to below b are the values of f
pub record Flags (f : ℕ → Bool) (a b : ℕ) (flags : List Bool) : Type 0 where
  pub is : (v : ℕ) → a ≤ v → v < b → get_or flags v false ≡ f v

-- a table has a word for each node of the largest row
abbrev pub table_words : ℕ
table_words = 1024

abbrev pub entry : List ℕ → ℕ → ℕ
entry t v = get_or t v 0

-- t while a table is made anew word by word: the words from a to below v are those of f, and those from v to below b still those of old
pub record Remade (f : ℕ → ℕ) (old : List ℕ) (a b v : ℕ) (t : List ℕ) : Type 0 where
  pub low : a ≤ v
  pub long : length t ≡ table_words
  pub done : Tabled f a v t
  pub rest : Tabled (entry old) v b t

-- `op` over the keys of the samples of a group whose first entry is sample s, and e where there is none
unfoldable pub over : (ℕ → ℕ → ℕ) → ℕ → (ℕ → ℕ) → Group → ℕ → ℕ
over op e k [] s = e
over op e k (x ∷ g) s = cond x (op (k s) (over op e k g (suc s))) (over op e k g (suc s))

-- the least key of a group's samples, the mark where there is none
abbrev pub least_of : (ℕ → ℕ) → Group → ℕ
least_of k g = over min root_mark k g 0

-- what a pass starts with: a sample's key, and e at an inner node
abbrev pub seeded : ℕ → (ℕ → ℕ) → ℕ → ℕ → ℕ
seeded n k e v = cond (ltb v n) (k v) e

-- each sample has a key below n
pub record Keys (n : ℕ) (t : List ℕ) : Type 0 where
  pub low : (s : ℕ) → s < n → get_or t s 0 < n

-- no word below m is above n
pub record Most (n m : ℕ) (t : List ℕ) : Type 0 where
  pub le : (v : ℕ) → v < m → get_or t v 0 ≤ n

-- the keys that count samples, and that number them
abbrev pub one : ℕ → ℕ
one s = 1

abbrev pub own : ℕ → ℕ
own s = s

abbrev pub size_at : ℕ → List ℕ → ℕ → ℕ
size_at n r v = size (group_at n r v)

abbrev pub least_at : ℕ → List ℕ → (ℕ → ℕ) → ℕ → ℕ
least_at n r k v = least_of k (group_at n r v)

-- the order of RULES 4.1 as one number that rises: the size weighs most, then the smallest sample
abbrev pub rank_step : ℕ
rank_step = 1024

abbrev pub rank_of : ℕ → ℕ → ℕ → ℕ
rank_of n size low = rank_step * (n - size) + low

-- the rank of a node by tables of sizes and smallest samples, and by its group
abbrev pub rank_in : ℕ → List ℕ → List ℕ → ℕ → ℕ
rank_in n size low v = rank_of n (entry size v) (entry low v)

abbrev pub rank_at : ℕ → List ℕ → ℕ → ℕ
rank_at n r v = rank_of n (size_at n r v) (least_at n r own v)
