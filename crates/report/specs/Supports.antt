-- The support row word by word.
use Rattle.std.specs.Prelude.{ℕ, ◌-◌, List, cond, ltb, leb}
use Rattle.trees.specs.Tables.{entry}

-- word w of the support row (RULES 5.5), by a table of the inner nodes: k runs hold the single samples
abbrev pub support_word : ℕ → ℕ → ℕ → List ℕ → ℕ → ℕ
support_word n m k holders w = cond (ltb m w) 0 (cond (leb w n) k (entry holders (w - 1)))
