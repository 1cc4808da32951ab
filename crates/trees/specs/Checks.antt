-- What a row is judged by: checks 1, 3 and 5 to 10 (RULES 7.5), and their order.
use Rattle.std.specs.Prelude.{ℕ, ◌+◌, ◌-◌, ◌*◌, List, [], ◌∷◌, ◌++◌, Bool, ◌&&◌, ◌||◌, not, cond, eqb, ltb, leb, length, get_or}
use Rattle.trees.specs.Lists.{Place, nowhere, at, range, first, count}
use Rattle.trees.specs.Rows.{nodes, parent, root_mark, child_of, ends}

-- An answer: acceptance, the number and the place of a refusal, the counts of comparing, or the length of a text that is written (RULES 7.1).
pub data Verdict : Type 0 where
  accepted : Verdict
  refused : ℕ → ℕ → Verdict
  counted : ℕ → ℕ → ℕ → Verdict
  wrote : ℕ → Verdict

-- A check: its number, and the place at which it applies, if it does (RULES 7.5).
pub record Check : Type 0 where
  pub number : ℕ
  pub fault : Place

-- a check for which no place is named: its place is 0 (RULES 7.3)
abbrev pub line : ℕ → Bool → Check
line k applies = record { number = k; fault = cond applies (at 0) nowhere }

-- a check whose place is the lowest at which it applies (RULES 7.5)
abbrev pub line_at : ℕ → (ℕ → Bool) → List ℕ → Check
line_at k applies places = record { number = k; fault = first applies places }

-- the refusal of a check that applies, and v where it does not
abbrev pub or_else : ℕ → Place → Verdict → Verdict
or_else k nowhere v = v
or_else k (at p) v = refused k p

-- the first check of a list that applies is the verdict, and where none does, it is v (RULES 7.2)
infixr 20 ◌⊳◌
unfoldable pub ◌⊳◌ : List Check → Verdict → Verdict
[] ⊳ v = v
(c ∷ cs) ⊳ v = or_else c.number c.fault (cs ⊳ v)

-- what one check answers by itself
abbrev pub asked : Check → Verdict
asked c = or_else c.number c.fault accepted

-- how few samples there can be, and how many (RULES 1.1)
abbrev pub fewest_samples : ℕ
fewest_samples = 2

abbrev pub most_samples : ℕ
most_samples = 512

-- how many words a row has (RULES 2.1); it has fewer nodes (RULES 1.2)
abbrev pub row_words : ℕ → ℕ
row_words n = 2 * n

-- whether x is below a or above b
abbrev pub outside : ℕ → ℕ → ℕ → Bool
outside a b x = ltb x a || ltb b x

-- whether p is an inner node, of m nodes (RULES 1.2)
abbrev pub is_inner : ℕ → ℕ → ℕ → Bool
is_inner n m p = leb n p && ltb p m

-- check 1: too few samples, or too many (RULES 7.5)
abbrev pub check1 : ℕ → Check
check1 n = line 1 (outside fewest_samples most_samples n)

-- check 3, of one buffer: it is not as long as a row (RULES 7.5)
abbrev pub check3 : ℕ → List ℕ → Check
check3 n r = line 3 (not (eqb (length r) (row_words n)))

-- check 5: too few nodes, or too many (RULES 7.5)
abbrev pub check5 : ℕ → List ℕ → Check
check5 n r = line 5 (outside (n + 1) (row_words n - 1) (nodes r))

-- whether p is wrong as the parent of v: not an inner node, nor, where v is one, the root's mark (check 6, RULES 7.5)
abbrev pub stray : ℕ → ℕ → ℕ → ℕ → Bool
stray n m v p = not (is_inner n m p || (leb n v && eqb p root_mark))

-- check 6: a wrong parent, at the lowest node that has one (RULES 7.5)
abbrev pub check6 : ℕ → List ℕ → Check
check6 n r = line_at 6 (λ v. stray n (nodes r) v (parent r v)) (range 0 (nodes r))

-- check 7: no root among the inner nodes, or more than one (RULES 7.5)
abbrev pub check7 : ℕ → List ℕ → Check
check7 n r = line 7 (not (eqb (count (child_of r root_mark) (range n (nodes r))) 1))

-- check 8: a word after the last node's that is not 0, the lowest of them (RULES 7.5)
abbrev pub check8 : ℕ → List ℕ → Check
check8 n r = line_at 8 (λ w. not (eqb (get_or r w 0) 0)) (range (nodes r + 1) (row_words n))

-- check 9: the lowest node whose way up never comes to the root (RULES 7.5); m steps decide it (`judged_never`)
abbrev pub check9 : ℕ → List ℕ → Check
check9 n r = line_at 9 (λ v. not (ends (nodes r) r v)) (range 0 (nodes r))

-- how many children v has (check 10, RULES 7.5)
abbrev pub children : List ℕ → ℕ → ℕ
children r v = count (child_of r v) (range 0 (nodes r))

-- how few children an inner node can have (check 10, RULES 7.5)
abbrev pub fewest_children : ℕ
fewest_children = 1

-- check 10: the lowest inner node with no child at all (RULES 7.5)
abbrev pub check10 : ℕ → List ℕ → Check
check10 n r = line_at 10 (λ v. ltb (children r v) fewest_children) (range n (nodes r))

-- checks 5 to 8, by rising number (RULES 7.2): they look at the words one by one
abbrev pub word_checks : ℕ → List ℕ → List Check
word_checks n r = check5 n r ∷ check6 n r ∷ check7 n r ∷ check8 n r ∷ []

-- checks 9 and 10, by rising number (RULES 7.2): they look at the tree
abbrev pub tree_checks : ℕ → List ℕ → List Check
tree_checks n r = check9 n r ∷ check10 n r ∷ []

-- checks 5 to 10, by rising number (RULES 7.2)
unfoldable pub row_checks : ℕ → List ℕ → List Check
row_checks n r = word_checks n r ++ tree_checks n r

-- the checks of judging a row (RULES 7.2)
unfoldable pub judge_checks : ℕ → List ℕ → List Check
judge_checks n r = check1 n ∷ check3 n r ∷ row_checks n r

-- what judging a row answers; nothing is written (RULES 7.6)
unfoldable pub judged : ℕ → List ℕ → Verdict
judged n r = judge_checks n r ⊳ accepted
