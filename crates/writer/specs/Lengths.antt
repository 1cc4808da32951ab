-- How many bytes each node adds to the text of a row (RULES 14).
use Rattle.std.specs.Prelude.{ℕ, ◌+◌, ◌*◌, ◌≤◌, ◌<◌, ◌≡◌, List, [], ◌∷◌, cond, true, ltb, length, get_or}
use Rattle.trees.specs.Lists.{range, weigh}
use Rattle.trees.specs.Rows.{nodes}
use Rattle.ascii.specs.Decimal.{decimal}
use Rattle.newick.specs.RowText.{Wanted, mark_text, written}
use Rattle.newick.specs.RowText.Wanted.{plain, with_words}

-- the support row, or no words where no supports are wanted
abbrev pub wanted_by : List ℕ → Wanted
wanted_by [] = plain
wanted_by (x ∷ ws) = with_words (x ∷ ws)

-- the text of a row, with the words of a support row or with none
abbrev pub text_of : ℕ → List ℕ → List ℕ → List ℕ
text_of n r ws = written n r (wanted_by ws)

-- what node u adds: a sample its digits, an inner node its closing bracket and its mark; and one byte each, which is
-- the bracket before a first child, the comma before another, and for the root the semicolon
abbrev pub bytes_of : ℕ → List ℕ → Wanted → ℕ → ℕ
bytes_of n r w u = 1 + cond (ltb u n) (length (decimal u)) (1 + length (mark_text r w u))

-- what the nodes from a on add together
abbrev pub bytes_from : ℕ → List ℕ → Wanted → ℕ → ℕ
bytes_from n r w a = weigh (bytes_of n r w) (λ u. true) (range a (nodes r))

-- a word is below this number
abbrev pub word_end : ℕ
word_end = 65536

-- the words that are wanted have 16 bits
abbrev pub SmallWords : Wanted → Type 0
SmallWords plain = Unit {0}
SmallWords (with_words ws) = (i : ℕ) → get_or ws i 0 < word_end

-- the most digits of a word
abbrev pub word_most : ℕ
word_most = 5

-- the most bytes that a sample adds, and any node
abbrev pub sample_most : ℕ
sample_most = 4

abbrev pub node_most : ℕ
node_most = 7

-- the most bytes of a text, for each sample
abbrev pub text_most : ℕ
text_most = 11

-- what has been added up to node v, and that it is not too much
pub record BytesLeft (n : ℕ) (r : List ℕ) (w : Wanted) (v bytes : ℕ) : Type 0 where
  pub whole : bytes + bytes_from n r w v ≡ bytes_from n r w 0
  pub few : bytes ≤ node_most * v
  pub within : v ≤ nodes r
