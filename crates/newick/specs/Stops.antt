-- The place of refusal 17 (RULES 7.5), over the grammar.
use Rattle.std.specs.Prelude.{ℕ, suc, ◌≤◌, ◌<◌, List, ◌++◌, length, take}
use Rattle.newick.specs.Grammar.{OfForm}

-- some text of the form begins with these bytes
abbrev pub Begins : List ℕ → Type 0
Begins a = (rest : List ℕ) × OfForm (a ++ rest)

-- The text l is not of the form, and stops being so at q: up to q it begins as some text of the form does, and, if there
-- is a byte at q, none begins with that byte too.
pub record FirstStop (l : List ℕ) (q : ℕ) : Type 0 where
  pub within : q ≤ length l
  pub goes : Begins (take q l)
  pub never : q < length l → Begins (take (suc q) l) → ⊥
  pub early : OfForm l → ⊥
