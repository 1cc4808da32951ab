-- The place of a refusal is a node or a word of the row that it speaks of, so below 2n, and of comparing's second row below 4n. Assumes nothing.
use Rattle.std.specs.Prelude.{ℕ, ◌+◌, ◌-◌, ◌*◌, ◌≤◌, ◌<◌, ◌≡◌, refl, List, [], ◌∷◌, ◌++◌, map, Bool, true, false, not, ◌||◌, eqb, length}
use Rattle.std.proofs.Common.{arith}
use Rattle.trees.specs.Lists.{Place, nowhere, at, range, count}
use Rattle.trees.specs.Rows.{nodes, root_mark, child_of}
use Rattle.trees.specs.Checks.{accepted, refused, Check, line, line_at, ◌⊳◌, fewest_samples, most_samples, row_words, outside}
use Rattle.trees.specs.Checks.{check1, check6, check7, check8, check9, check10, row_checks, judge_checks}
use Rattle.trees.specs.RowCalls.{check3_both, renumber_checks, moved_place, moved, compare_checks}
use Rattle.trees.proofs.ChainLaws.{Given, here, later, chain_given, accepted_other, lacks, given_lacks, line_passes}
use Rattle.trees.proofs.ListLaws.{first_lowest}
use Rattle.trees.proofs.RowCallLaws.{moved_nowhere}
use Rattle.trees.proofs.CheckLaws.{outside_not, samples_exactly}

-- every place that these checks can give is below b
abbrev pub Placed : ℕ → List Check → Type 0
Placed b cs = (k p : ℕ) → Given k p cs → p < b

pub placed_none : (b : ℕ) → Placed b []
unfolding lacks
placed_none b k p g = absurd (given_lacks [] k p refl g)

-- a line has place 0, and the checks after it are asked where it does not apply
pub placed_line : (b number : ℕ) (t : Bool) (cs : List Check) → 0 < b → ((line number t).fault ≡ nowhere → Placed b cs) → Placed b (line number t ∷ cs)
placed_line b number true cs h f k p (here x e) = let q : 0 ≡ p = cc in omega arith
placed_line b number false cs h f k p (here x e) = let z : ◌≡◌ {A = ℕ} 0 1 = cc in absurd (omega arith)
placed_line b number t cs h f k p (later e g) = f e k p g

-- the place of a line with places is one of them
pub placed_at : (b number : ℕ) (t : ℕ → Bool) (from to : ℕ) (cs : List Check) → to ≤ b → Placed b cs → Placed b (line_at number t (range from to) ∷ cs)
placed_at b number t from to cs h f k p (here x e) = omega (arith, (first_lowest t from to p e).to)
placed_at b number t from to cs h f k p (later e g) = f k p g

pub placed_append : (b : ℕ) (cs ds : List Check) → Placed b cs → Placed b ds → Placed b (cs ++ ds)
placed_append b [] ds f g k p x = g k p x
placed_append b (c ∷ cs) ds f g k p (here x e) = f k p (here x e)
placed_append b (c ∷ cs) ds f g k p (later e x) = placed_append b cs ds (λ j q y. f j q (later e y)) g k p x

placed_moved : (b d : ℕ) (cs : List Check) → Placed b cs → Placed (b + d) (map (moved d) cs)
placed_moved b d [] f k p g = absurd (omega (arith, placed_none 0 k p g))
placed_moved b d (c ∷ cs) f k p (here x e) = go c.fault refl e
  where
    go : (h : Place) → c.fault ≡ h → moved_place d h ≡ at p → p < b + d
    go nowhere q r = let z : ◌≡◌ {A = ℕ} 0 1 = cc in absurd (omega arith)
    go (at i) q r = let j : i + d ≡ p = cc in omega (arith, f k i (here x q))
placed_moved b d (c ∷ cs) f k p (later e g) = placed_moved b d cs (λ j q y. f j q (later (moved_nowhere d c.fault e) y)) k p g

-- ---- the rows' checks

pub row_placed : (n : ℕ) (r : List ℕ) → fewest_samples ≤ n → Placed (row_words n) (row_checks n r)
unfolding row_checks
row_placed n r h = placed_line b 5 (outside (n + 1) (b - 1) (nodes r)) _ (omega arith)
    (λ e. rest (outside_not (n + 1) (b - 1) (nodes r) (line_passes 5 _ e)).1)
  where
    b : ℕ
    b = row_words n

    rest : nodes r ≤ b - 1 → Placed b (check6 n r ∷ check7 n r ∷ check8 n r ∷ check9 n r ∷ check10 n r ∷ [])
    rest m =
        placed_at b 6 _ 0 (nodes r) _ (omega arith)
        (placed_line b 7 (not (eqb (count (child_of r root_mark) (range n (nodes r))) 1)) _ (omega arith) (λ e.
        placed_at b 8 _ (nodes r + 1) b _ (omega arith) (placed_at b 9 _ 0 (nodes r) _ (omega arith) (placed_at b 10 _ n (nodes r) _ (omega arith)
        (placed_none b)))))

pub row_place : (n : ℕ) (r : List ℕ) (k p : ℕ) → fewest_samples ≤ n → row_checks n r ⊳ accepted ≡ refused k p → p < row_words n
row_place n r k p h e = row_placed n r h k p (chain_given (row_checks n r) accepted k p (accepted_other k p) e)

-- ---- the calls on rows: no place of a call reaches twice the words of the largest row

abbrev pub most_places : ℕ
most_places = 2 * row_words most_samples

pub row_within : (n : ℕ) (r : List ℕ) → fewest_samples ≤ n → n ≤ most_samples → Placed most_places (row_checks n r)
row_within n r l m k p g = omega (arith, row_placed n r l k p g)

pub judged_placed : (n : ℕ) (r : List ℕ) → Placed most_places (judge_checks n r)
unfolding judge_checks
judged_placed n r = placed_line most_places 1 (outside fewest_samples most_samples n) _ (omega arith) (λ e. placed_line most_places 3
    (not (eqb (length r) (row_words n))) _ (omega arith) (λ f. let t = (samples_exactly n).0 e in row_within n r t.0 t.1))

-- check 3 of two buffers, and what is asked after it
two_buffers : (n : ℕ) (r q : List ℕ) (cs : List Check) → (fewest_samples ≤ n → n ≤ most_samples → Placed most_places cs)
    → Placed most_places (check1 n ∷ check3_both n r q ∷ cs)
two_buffers n r q cs h = placed_line most_places 1 (outside fewest_samples most_samples n) _ (omega arith) (λ e. placed_line most_places 3
    (not (eqb (length r) (row_words n)) || not (eqb (length q) (row_words n))) _ (omega arith) (λ f. let t = (samples_exactly n).0 e in h t.0 t.1))

pub renumbering_placed : (n : ℕ) (r out : List ℕ) → Placed most_places (renumber_checks n r out)
unfolding renumber_checks
renumbering_placed n r out = two_buffers n r out (row_checks n r) (row_within n r)

pub comparing_placed : (n : ℕ) (r q : List ℕ) → Placed most_places (compare_checks n r q)
unfolding compare_checks
comparing_placed n r q = two_buffers n r q _ (λ l m. placed_append most_places (row_checks n r) (map (moved (row_words n)) (row_checks n q)) (row_within n r l m)
    (λ k p g. omega (arith, placed_moved (row_words n) (row_words n) (row_checks n q) (row_placed n q l) k p g)))
