-- Parents in the row of two rows' kept groups: the nearest kept node on each side, found by places that only move up.
use Rattle.std.specs.Prelude.{ℕ, zero, suc, ◌-◌, ◌≤◌, ◌<◌, max, ◌≡◌, List, cond, eqb, ltb, length, set}
use Rattle.trees.specs.Rows.{nodes, parent, root_mark}
use Rattle.trees.specs.Checks.{most_samples, row_words}
use Rattle.trees.specs.Valid.{Standard}
use Rattle.trees.specs.Tables.{Tabled, table_words, entry}

-- each node has its own number, or where that is 0 what its parent has: the number of the nearest kept node at or above it
pub record Raised (n : ℕ) (r num up : List ℕ) : Type 0 where
  pub root : entry up n ≡ entry num n
  pub next : (v : ℕ) → n < v → v < nodes r → entry up v ≡ cond (eqb (entry num v) 0) (entry up (parent r v)) (entry num v)

-- the same of the nodes before v, while all others have their own numbers
pub record Raising (n : ℕ) (r num : List ℕ) (v : ℕ) (up : List ℕ) : Type 0 where
  pub words : length up ≡ table_words
  pub root : entry up n ≡ entry num n
  pub next : (u : ℕ) → n < u → u < v → entry up u ≡ cond (eqb (entry num u) 0) (entry up (parent r u)) (entry num u)
  pub rest : (u : ℕ) → v ≤ u → entry up u ≡ entry num u

-- the first node from v upwards that has a number below i, within f steps
unfoldable pub climbed : ℕ → List ℕ → List ℕ → ℕ → ℕ → ℕ
climbed zero r up i v = v
climbed (suc f) r up i v = cond (ltb (entry up v) i) v (climbed f r up i (parent r v))

-- the last number below i of a kept group of the row that has sample s
abbrev pub nearest : List ℕ → List ℕ → ℕ → ℕ → ℕ
nearest r up i s = entry up (climbed (nodes r) r up i (parent r s))

-- the parent of the group numbered i, whose smallest sample is in the table
abbrev pub parent_of : ℕ → List ℕ → List ℕ → List ℕ → List ℕ → List ℕ → ℕ → ℕ
parent_of n a up_a b up_b lows i = cond (eqb i n) root_mark (max (nearest a up_a i (entry lows i)) (nearest b up_b i (entry lows i)))

-- word w of a row of c nodes, the parents of whose inner nodes are in a table
unfoldable pub word_of : ℕ → List ℕ → List ℕ → List ℕ → List ℕ → List ℕ → ℕ → ℕ → ℕ
word_of n a up_a b up_b parents c w =
    cond (eqb w 0) c (cond (ltb c w) 0 (cond (ltb n w) (entry parents (w - 1)) (max (entry up_a (parent a (w - 1))) (entry up_b (parent b (w - 1))))))

-- the place of sample s has moved up to the first node that has a number below i, and x is that number
pub record Lifted (r up places : List ℕ) (i s : ℕ) (moved : List ℕ) (x : ℕ) : Type 0 where
  pub stored : moved ≡ set places s (climbed (nodes r) r up i (entry places s))
  pub number : x ≡ entry up (climbed (nodes r) r up i (entry places s))

-- each sample's place is a node, from which climbing comes to the same node as from the sample's parent, for every bound to i
pub record Placed (n : ℕ) (r up : List ℕ) (i : ℕ) (places : List ℕ) : Type 0 where
  pub words : length places ≡ most_samples
  pub node : (s : ℕ) → s < n → (n ≤ entry places s) × (entry places s < nodes r)
  pub same : (s j : ℕ) → s < n → entry up n < j → j ≤ i → climbed (nodes r) r up j (entry places s) ≡ climbed (nodes r) r up j (parent r s)

-- what finding the parents needs: c nodes, root numbers that are not above n, and smallest samples
pub record Climbable (n : ℕ) (a up_a b up_b mins : List ℕ) (c : ℕ) : Type 0 where
  pub first : Standard n a
  pub second : Standard n b
  pub some : n < c
  pub most : c < row_words n
  pub root_a : entry up_a n ≤ n
  pub root_b : entry up_b n ≤ n
  pub words : length mins ≡ table_words
  pub sample : (i : ℕ) → n ≤ i → i < c → entry mins i < n

-- the numbers from i on have their parents, those before i still their smallest samples, and the places of both sides serve every bound to i
pub record Climbs (n : ℕ) (a up_a b up_b mins : List ℕ) (c i : ℕ) (parents places_a places_b : List ℕ) : Type 0 where
  pub low : n < i
  pub high : i ≤ c
  pub words : length parents ≡ table_words
  pub left : Placed n a up_a i places_a
  pub right : Placed n b up_b i places_b
  pub done : Tabled (parent_of n a up_a b up_b mins) i c parents
  pub rest : Tabled (entry mins) n i parents
