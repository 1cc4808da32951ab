-- The text of a node by the children that each node has, and by the two tables in which they stand as chains.
use Rattle.std.specs.Prelude.{ℕ, zero, suc, ◌-◌, List, [], ◌∷◌, ◌++◌, cond, eqb, ltb, get_or}
use Rattle.trees.specs.Tables.{table_words}
use Rattle.ascii.specs.Decimal.{decimal}
use Rattle.newick.specs.Bytes.{opening_byte, closing_byte}
use Rattle.newick.specs.RowText.{Wanted, listed, word_text}
use Rattle.writer.specs.Lengths.{wanted_by}

-- what stands behind a child: behind an inner node's closing bracket its word, if words are wanted
abbrev pub behind : ℕ → Wanted → ℕ → List ℕ
behind n w c = cond (ltb c n) [] (word_text w c)

-- the text of a child, where g tells the texts of nodes but for what stands behind them
abbrev pub child_text : (ℕ → List ℕ) → ℕ → Wanted → ℕ → List ℕ
child_text g n w c = g c ++ behind n w c

-- what stands behind the opening bracket of a node with children cs, whose texts are f
abbrev pub in_pair : (ℕ → List ℕ) → List ℕ → List ℕ
in_pair f cs = listed f cs ++ (closing_byte ∷ [])

-- the text of a node, but for what stands behind it
unfoldable pub nest_text : (ℕ → List ℕ) → ℕ → ℕ → Wanted → ℕ → List ℕ
nest_text kids zero n w v = decimal v
nest_text kids (suc f) n w v =
    cond (ltb v n) (decimal v) (opening_byte ∷ in_pair (child_text (nest_text kids f n w) n w) (kids v))

-- the siblings from c on, of which there are at most f
unfoldable pub siblings : ℕ → List ℕ → ℕ → List ℕ
siblings zero next c = []
siblings (suc f) next c = c ∷ cond (eqb (get_or next c 0) 0) [] (siblings f next (get_or next c 0))

-- the children of a node by the tables
abbrev pub kids_in : List ℕ → List ℕ → ℕ → List ℕ
kids_in head next v = siblings table_words next (get_or head v 0)

-- the text of a node by the tables and the words, but for what stands behind it
abbrev pub table_text : List ℕ → List ℕ → ℕ → ℕ → List ℕ → ℕ → List ℕ
table_text head next f n ws = nest_text (kids_in head next) f n (wanted_by ws)

-- and of its child, where f more brackets may stand in one another
abbrev pub table_child : List ℕ → List ℕ → ℕ → ℕ → List ℕ → ℕ → List ℕ
table_child head next f n ws = child_text (table_text head next (f - 1) n ws) n (wanted_by ws)
