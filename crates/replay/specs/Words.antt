-- Words of 16 bits as bytes, low byte first. Assumes nothing.
use Rattle.std.specs.Prelude.{ℕ, ◌+◌, ◌*◌, ◌/◌, ◌%◌, ◌≤◌, List, [], ◌∷◌, length, get_or, set}

-- how many words a buffer has at most, and that a list has no more
abbrev pub most_words : ℕ
most_words = 32768

abbrev pub Short : List ℕ → Type 0
Short s = length s ≤ most_words

-- bytes that have room for a whole buffer's words
abbrev pub Roomy : List ℕ → Type 0
Roomy s = 2 * most_words ≤ length s

-- the bytes of each word, low byte first
unfoldable pub bytes_of : List ℕ → List ℕ
bytes_of [] = []
bytes_of (w ∷ ws) = (w % 256) ∷ (w / 256) ∷ bytes_of ws

-- the words that the bytes are, two to a word; a last byte that stands alone is no word
unfoldable pub words_of : List ℕ → List ℕ
words_of [] = []
words_of (lo ∷ []) = []
words_of (lo ∷ hi ∷ s) = (lo + 256 * hi) ∷ words_of s

-- the word that stands i words from the start of the bytes
abbrev pub word_at : List ℕ → ℕ → ℕ
word_at s i = get_or s (2 * i) 0 + 256 * get_or s (2 * i + 1) 0

-- the bytes with the word w put i words from their start
abbrev pub word_put : List ℕ → ℕ → ℕ → List ℕ
word_put s i w = set (set s (2 * i) (w % 256)) (2 * i + 1) (w / 256)
