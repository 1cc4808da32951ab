-- Fields put one after the other make a line; samples are the numbers that pass a test. Assumes nothing.
use Rattle.std.specs.Prelude.{ℕ, zero, suc, ◌+◌, ◌-◌, ◌≤◌, ◌<◌, ◌≡◌, refl, List, [], ◌∷◌, ◌++◌, map, Bool, true, false, get_or}
use Rattle.std.proofs.Common.{ap, ◌∙◌, append_assoc, add-one, arith}
use Rattle.trees.specs.Lists.{tabulate, range, filter}
use Rattle.trees.specs.Groups.{Group, has}
use Rattle.trees.specs.Rows.{parent, group_at}
use Rattle.trees.proofs.ListLaws.{range_cons, range_none}
use Rattle.ascii.specs.Decimal.{decimal}
use Rattle.text.specs.Lines.{space, line_feed, spaced, line_of, parent_field, samples_of, node_line}

pub spaced_append : (fs gs : List (List ℕ)) → spaced (fs ++ gs) ≡ spaced fs ++ spaced gs
unfolding spaced
spaced_append [] gs = refl
spaced_append (f ∷ fs) gs = ap (λ (xs : List ℕ). space ∷ xs) (rw (spaced_append fs gs, append_assoc))

pub line_append : (f : List ℕ) (fs gs : List (List ℕ)) → f ++ spaced fs ++ spaced gs ++ (line_feed ∷ []) ≡ line_of f (fs ++ gs)
unfolding line_of
line_append f fs gs = rw (spaced_append fs gs, ← append_assoc)

-- ---- the numbers of a range that pass

module _ (t : ℕ → Bool) (a b : ℕ) where
  pub filter_yes : a < b → t a ≡ true → filter t (range a b) ≡ a ∷ filter t (range (suc a) b)
  unfolding filter
  filter_yes h e = rw (range_cons a b h, e)

  pub filter_not : a < b → t a ≡ false → filter t (range a b) ≡ filter t (range (suc a) b)
  unfolding filter
  filter_not h e = rw (range_cons a b h, e)

  pub filter_end : b ≤ a → filter t (range a b) ≡ []
  unfolding filter
  filter_end h = rw (range_none a b h)

filter_table : (m a : ℕ) (t p : ℕ → Bool) → ((x : ℕ) → a ≤ x → x < a + m → t x ≡ p x) → filter t (tabulate m (λ u. u) a) ≡ filter p (tabulate m (λ u. u) a)
unfolding filter tabulate
filter_table zero a t p h = refl
filter_table (suc m) a t p h = rw (h a (omega arith) (omega arith), filter_table m (suc a) t p (λ x k l. h x (omega arith) (omega arith)))

-- tests that agree on a range
pub filter_same : (t p : ℕ → Bool) (a b : ℕ) → ((x : ℕ) → a ≤ x → x < b → t x ≡ p x) → filter t (range a b) ≡ filter p (range a b)
filter_same t p a b h = filter_table (b - a) a t p (λ x k l. h x k (omega arith))

-- ---- the line of a node: its front, then the samples that pass a test

pub samples_told : (n : ℕ) (g : Group) (t : ℕ → Bool) → ((s : ℕ) → s < n → t s ≡ has g s) → filter t (range 0 n) ≡ samples_of n g
unfolding samples_of
samples_told n g t h = filter_same t (has g) 0 n (λ s k l. h s l)

pub node-line : (n : ℕ) (row support : List ℕ) (v p w : ℕ) → p ≡ parent row v → w ≡ get_or support (v + 1) 0
    → decimal v ++ spaced (parent_field p ∷ decimal w ∷ []) ++ spaced (map decimal (samples_of n (group_at n row v))) ++ (line_feed ∷ []) ≡ node_line n row support v
unfolding node_line
node-line n row support v p w e f =
    line_append (decimal v) (parent_field p ∷ decimal w ∷ []) (map decimal (samples_of n (group_at n row v))) ∙ rw (e, f, add-one) refl
