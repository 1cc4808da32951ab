-- The file that the listing program reads (RULES 9.1): when it is bad (RULES 9.3), its header and its slots.
use Rattle.std.specs.Prelude.{ℕ, suc, ◌+◌, ◌*◌, List, [], ◌∷◌, Bool, true, false, ◌&&◌, ◌||◌, not, cond, eqb, length, get_or, Option, None, Some}
use Rattle.trees.specs.Lists.{tabulate}
use Rattle.trees.specs.Checks.{row_words, outside}
use Rattle.ascii.specs.Ascii.{ascii}
use Rattle.file.specs.declared.Sizes.{Sizes}

-- the number of 16 bits at a place, the low byte in front (RULES 9.1)
unfoldable pub word_at : List ℕ → ℕ → ℕ
word_at bytes i = get_or bytes i 0 + 256 * get_or bytes (suc i) 0

-- the version, n and k, which follow the mark, and how many bytes these four have (RULES 9.1)
abbrev pub file_version : List ℕ → ℕ
file_version bytes = word_at bytes 3

abbrev pub file_samples : List ℕ → ℕ
file_samples bytes = word_at bytes 5

abbrev pub file_runs : List ℕ → ℕ
file_runs bytes = word_at bytes 7

abbrev pub head_bytes : ℕ
head_bytes = 9

-- how many bytes a file can have (RULES 1.5)
abbrev pub most_bytes : ℕ
most_bytes = 65529

-- the bytes of a file with k slots (RULES 9.3), and the place of slot k in one with more
unfoldable pub file_bytes : ℕ → ℕ → ℕ
file_bytes n k = head_bytes + 2 * k * (2 * n + 1)

-- whether a text stands at the front
unfoldable pub begins : List ℕ → List ℕ → Bool
begins [] bytes = true
begins (x ∷ text) [] = false
begins (x ∷ text) (y ∷ bytes) = eqb x y && begins text bytes

-- whether a file is refused with 15: too short, too long, the wrong mark, the wrong version, or not as long as its n and k ask (RULES 9.3)
unfoldable pub bad_file : List ℕ → Bool
bad_file bytes =
    outside head_bytes most_bytes (length bytes) || not (begins (ascii "ARB") bytes) || not (eqb (file_version bytes) 1)
    || not (eqb (length bytes) (file_bytes (file_samples bytes) (file_runs bytes)))

-- a file that is good, with n samples and k runs
abbrev pub good : ℕ → ℕ → Option Sizes
good n k = Some (record { samples = n; runs = k })

-- what a file is: bad (RULES 9.3), or good with its n and k (RULES 9.1)
unfoldable pub file_of : List ℕ → Option Sizes
file_of bytes = cond (bad_file bytes) None (good (file_samples bytes) (file_runs bytes))

-- the identifier and the row of slot j (RULES 9.1)
unfoldable pub slot_identifier : List ℕ → ℕ → ℕ → ℕ
slot_identifier bytes n j = word_at bytes (file_bytes n j)

unfoldable pub slot_row : List ℕ → ℕ → ℕ → List ℕ
slot_row bytes n j = tabulate (row_words n) (λ i. word_at bytes (file_bytes n j + 2 + 2 * i)) 0
