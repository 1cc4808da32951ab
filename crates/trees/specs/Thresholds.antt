-- The threshold of a report: what it may be, and what 0 stands for (RULES 5.7, 5.8).
use Rattle.std.specs.Prelude.{ℕ, ◌≤◌, cond, eqb}

-- how low a threshold can be, and how high (RULES 5.7)
abbrev pub least_threshold : ℕ
least_threshold = 50

abbrev pub most_threshold : ℕ
most_threshold = 100

-- t lies between them
abbrev pub InRange : ℕ → Type 0
InRange t = (least_threshold ≤ t) × (t ≤ most_threshold)

-- the threshold of a report for which none is named (RULES 5.8)
abbrev pub default_threshold : ℕ
default_threshold = 50

-- the threshold that p stands for: 0 names none (RULES 5.8)
unfoldable pub threshold : ℕ → ℕ
threshold p = cond (eqb p 0) default_threshold p
