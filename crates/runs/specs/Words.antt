-- The study's words (RULES 6): header, slots, zeros; what is read off them; capacity.
use Rattle.std.specs.Prelude.{ℕ, ◌+◌, ◌-◌, ◌*◌, ◌/◌, min, List, [], ◌∷◌, ◌++◌, Bool, eqb, length, get_or, take, drop}
use Rattle.trees.specs.Lists.{tabulate, zeros}
use Rattle.trees.specs.Checks.{row_words}
use Rattle.trees.specs.Reporting.{Run}

-- the mark: ARB in ASCII (RULES 6.1)
abbrev pub mark : List ℕ
mark = 65 ∷ 82 ∷ 66 ∷ []

-- the version (RULES 6.1)
abbrev pub version : ℕ
version = 1

-- the header: mark and version (RULES 6.1), n, k and two zeros (RULES 6.2)
abbrev pub header : ℕ → ℕ → List ℕ
header n k = mark ++ (version ∷ n ∷ k ∷ 0 ∷ 0 ∷ [])

-- where n and k stand, and what they are in a study's words (RULES 6.2)
abbrev pub samples_at : ℕ
samples_at = 4

abbrev pub in_force_at : ℕ
in_force_at = 5

abbrev pub samples : List ℕ → ℕ
samples w = get_or w samples_at 0

abbrev pub in_force : List ℕ → ℕ
in_force w = get_or w in_force_at 0

-- how many words come before the first slot (RULES 6.3)
abbrev pub header_words : ℕ
header_words = 8

-- where the row stands in its slot, after the identifier, and the slot's width (RULES 6.3)
abbrev pub row_offset : ℕ
row_offset = 1

abbrev pub slot_words : ℕ → ℕ
slot_words n = row_words n + row_offset

-- a run as a slot, and the run that words begin with (RULES 6.3)
abbrev pub slot : Run → List ℕ
slot run = run.identifier ∷ run.row

abbrev pub read_run : ℕ → List ℕ → Run
read_run n ws = record { identifier = get_or ws 0 0; row = take (row_words n) (drop row_offset ws) }

-- the slots of runs, one after the other (RULES 6.3)
unfoldable pub slots : List Run → List ℕ
slots [] = []
slots (r ∷ rs) = slot r ++ slots rs

-- the word at which slot i begins (RULES 6.3)
abbrev pub slot_start : ℕ → ℕ → ℕ
slot_start n i = header_words + i * slot_words n

-- the run in slot i (RULES 6.3)
abbrev pub run_at : ℕ → List ℕ → ℕ → Run
run_at n w i = read_run n (drop (slot_start n i) w)

-- The runs in force, read off a study's words (RULES 6.2, 6.3).
unfoldable pub runs : List ℕ → List Run
runs w = tabulate (in_force w) (run_at (samples w) w) 0

-- words, and 0 from there to the end (RULES 6.5)
abbrev pub padded : ℕ → List ℕ → List ℕ
padded len ws = ws ++ zeros (len - length ws)

-- The words of a study of len words over n samples with these runs in force (RULES 6.1 to 6.5).
unfoldable pub encode : ℕ → ℕ → List Run → List ℕ
encode len n rs = padded len (header n (length rs) ++ slots rs)

-- how many runs can be in force (RULES 1.4), and the highest identifier (RULES 1.3)
abbrev pub most_runs : ℕ
most_runs = 1024

abbrev pub most_identifier : ℕ
most_identifier = 65535

-- how many runs there can be (RULES 6.6): none in fewer words than a header has (`capacity_short`)
unfoldable pub capacity : ℕ → ℕ → ℕ
capacity len n = min most_runs ((len - header_words) / slot_words n)

-- whether k has reached the capacity (check 12, RULES 7.5)
abbrev pub full : List ℕ → Bool
full w = eqb (in_force w) (capacity (length w) (samples w))
