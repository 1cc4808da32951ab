-- The text of a row (RULES 14.10, 14.11), and what writing it answers and leaves (RULES 7.10, 14.12).
use Rattle.std.specs.Prelude.{ℕ, zero, suc, ◌<◌, ◌≡◌, cond, eqb, ltb, length, drop, get_or}
use mathlib.Core.List.{List, [], ◌∷◌, ◌++◌, Memᴰ}
use Rattle.trees.specs.Lists.{Place, nowhere, at, range, filter, first}
use Rattle.trees.specs.Groups.{lowest}
use Rattle.trees.specs.Rows.{nodes, root_mark, child_of, group_at}
use Rattle.trees.specs.Checks.{accepted, wrote, Check, line, ◌⊳◌, row_words, check1, check3, row_checks}
use Rattle.trees.specs.RowCalls.{check3_both}
use Rattle.trees.specs.Valid.{is_accepted}
use Rattle.trees.specs.Outcomes.{Outcome}
use Rattle.ascii.specs.Decimal.{decimal}
use Rattle.newick.specs.Bytes.{opening_byte, closing_byte, comma_byte, semicolon_byte}

-- the support row, if supports are wanted (RULES 14.11)
pub data Wanted : Type 0 where
  plain : Wanted
  with_words : List ℕ → Wanted

-- what a list's numbers make, one behind the other
unfoldable pub gather : (ℕ → List ℕ) → List ℕ → List ℕ
gather f [] = []
gather f (x ∷ xs) = f x ++ gather f xs

-- the nodes whose smallest sample is s
abbrev pub nodes_at : ℕ → List ℕ → ℕ → List ℕ
nodes_at n r s = filter (λ u. eqb (lowest (group_at n r u)) s) (range 0 (nodes r))

-- the nodes by rising smallest sample
unfoldable pub by_lowest : ℕ → List ℕ → List ℕ
by_lowest n r = gather (nodes_at n r) (range 0 n)

-- the children of a node by rising smallest sample (RULES 14.10)
unfoldable pub children_of : ℕ → List ℕ → ℕ → List ℕ
children_of n r v = filter (child_of r v) (by_lowest n r)

-- a list in which a key rises from each to every later one
abbrev pub RisesBy : (ℕ → ℕ) → List ℕ → Type 0
RisesBy key [] = Unit {0}
RisesBy key (x ∷ xs) = ((y : ℕ) → Memᴰ y xs → key x < key y) × RisesBy key xs

-- texts of nodes parted by commas: those after the first, and all
unfoldable pub commas : (ℕ → List ℕ) → List ℕ → List ℕ
commas f [] = []
commas f (c ∷ cs) = comma_byte ∷ (f c ++ commas f cs)

unfoldable pub listed : (ℕ → List ℕ) → List ℕ → List ℕ
listed f [] = []
listed f (c ∷ cs) = f c ++ commas f cs

-- the word of a node, in decimal, where supports are wanted; behind the root's bracket, the last, none stands (RULES
-- 14.11)
abbrev pub word_text : Wanted → ℕ → List ℕ
word_text plain v = []
word_text (with_words ws) v = decimal (get_or ws (suc v) 0)

abbrev pub mark_text : List ℕ → Wanted → ℕ → List ℕ
mark_text r w v = cond (child_of r root_mark v) [] (word_text w v)

-- the text of a node: of a sample its number, of an inner node a pair (RULES 14.10); at most as many pairs stand in one
-- another as there are nodes
unfoldable pub node_text : ℕ → ℕ → List ℕ → Wanted → ℕ → List ℕ
node_text zero n r w v = decimal v
node_text (suc f) n r w v = cond (ltb v n) (decimal v)
    (opening_byte ∷ (listed (node_text f n r w) (children_of n r v) ++ (closing_byte ∷ mark_text r w v)))

abbrev pub place_or0 : Place → ℕ
place_or0 nowhere = 0
place_or0 (at v) = v

-- the root
abbrev pub root_of : ℕ → List ℕ → ℕ
root_of n r = place_or0 (first (child_of r root_mark) (range n (nodes r)))

-- the text of a row: that of its root, and a semicolon (RULES 14.10)
unfoldable pub written : ℕ → List ℕ → Wanted → List ℕ
written n r w = node_text (nodes r) n r w (root_of n r) ++ (semicolon_byte ∷ [])

-- check 3 of the row, and of the support row where one is wanted (RULES 7.10)
abbrev pub check3_wanted : ℕ → List ℕ → Wanted → Check
check3_wanted n r plain = check3 n r
check3_wanted n r (with_words ws) = check3_both n r ws

-- a support row that is wanted is as long as a row
abbrev pub Fitting : ℕ → Wanted → Type 0
Fitting n plain = Unit {0}
Fitting n (with_words ws) = length ws ≡ row_words n

-- check 3 of the text: it is longer than its buffer (RULES 7.10)
abbrev pub check_room : List ℕ → List ℕ → Check
check_room bytes text = line 3 (ltb (length text) (length bytes))

-- the checks of writing (RULES 7.10)
unfoldable pub write_checks : ℕ → List ℕ → Wanted → List ℕ → List Check
write_checks n r w text = check1 n ∷ check3_wanted n r w ∷ (row_checks n r ++ (check_room (written n r w) text ∷ []))

-- a buffer with a text at its front, and behind it what stood there (RULES 14.12)
abbrev pub filled : List ℕ → List ℕ → List ℕ
filled bytes text = bytes ++ drop (length bytes) text

-- what writing answers, and the buffer that it writes: it is left as it was by a refusal (RULES 7.4, 14.12)
unfoldable pub writing : ℕ → List ℕ → Wanted → List ℕ → Outcome
writing n r w text = record {
  verdict = write_checks n r w text ⊳ wrote (length (written n r w));
  words = cond (is_accepted (write_checks n r w text ⊳ accepted)) (filled (written n r w) text) text;
}
