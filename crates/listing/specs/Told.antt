-- What the code makes of a file, and what it stands for.
use Rattle.std.specs.Prelude.{ℕ, ◌≤◌, List, length, take, Result, Ok, Err}
use Rattle.trees.specs.Checks.{most_samples, row_words}
use Rattle.trees.specs.Valid.{Standard}
use Rattle.runs.specs.Formed.{Kept}
use Rattle.judge.specs.Verdicts.{Answer, number_of}
use Rattle.file.specs.declared.Sizes.{Sizes}
use Rattle.listing.specs.Listing.{Listed, refusal, tree, study_words, reports}
use Rattle.listing.specs.declared.told.Refused.{Refused}

-- the n and the k of a study to which nothing was refused, or the first refusal
abbrev pub Told : Type 0
Told = Result Sizes Refused

-- an answer to a call for a slot
abbrev pub told_of : Answer → ℕ → Sizes → Told
told_of (Ok _) slot z = Ok z
told_of (Err r) slot z = Err (record { why = r; slot = slot })

-- what is listed once the study's words are ready to be reported
abbrev pub goes_on : Told → List ℕ → Listed
goes_on (Err x) w = refusal (number_of x.why.reason) x.slot x.why.place
goes_on (Ok z) w = reports z.samples z.runs w

-- words that are ready are a study over n samples
abbrev pub Loaded : Told → List ℕ → Type 0
Loaded (Err x) w = Unit {0}
Loaded (Ok z) w = Kept study_words z.samples w

-- what is listed once both rows stand in their buffers
abbrev pub shows : Told → List ℕ → List ℕ → Listed
shows (Err x) agreed support = refusal (number_of x.why.reason) x.slot x.why.place
shows (Ok z) agreed support = tree z.samples z.runs (take (row_words z.samples) agreed) (take (row_words z.samples) support)

-- the words of each of the two buffers
abbrev pub row_room : ℕ
row_room = row_words most_samples

-- the agreed row is standard, and the support row as long
abbrev pub Printable : Told → List ℕ → List ℕ → Type 0
Printable (Err x) agreed support = Unit {0}
Printable (Ok z) agreed support = Standard z.samples (take (row_words z.samples) agreed) × (row_words z.samples ≤ length support)
