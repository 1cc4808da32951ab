-- The majority rule at a threshold (RULES 5.1), and how many runs it needs to look at.
use Rattle.std.specs.Prelude.{ℕ, ◌-◌, ◌*◌, ◌/◌, Bool, ◌||◌, cond, eqb, ltb}
use Rattle.trees.specs.Reporting.{support, total, Rule}

-- a threshold is in per cent of the runs in force (RULES 5.1)
abbrev pub percent : ℕ
percent = 100

-- whether a group that s of k runs hold is shown at threshold t: 100s > tk, or all hold it (RULES 5.1)
unfoldable pub is_shown : ℕ → ℕ → ℕ → Bool
is_shown t k s = ltb (t * k) (percent * s) || eqb s k

-- the rule: the same of the runs in force and a group (RULES 5.1)
abbrev pub majority : ℕ → Rule
majority t n rs g = is_shown t (total rs) (support n rs g)

-- How many of k runs are tried: more than can miss a group that is shown (`majority_early`), and one at least.
unfoldable pub references : ℕ → ℕ → ℕ
references t k = let tried = k - (t * k) / percent in cond (eqb tried 0) 1 tried
