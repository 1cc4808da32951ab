-- The runs in force: their order, look-up by identifier, and the list with one run more or one fewer.
use Rattle.std.specs.Prelude.{ℕ, List, [], ◌∷◌, Bool, true, false, ◌&&◌, cond, eqb, ltb}
use Rattle.std.proofs.Math.Option.{Option, some, none}
use Rattle.trees.specs.Reporting.{Run}

-- whether each of a list passes a test
unfoldable pub every : {A : Type 0} → (A → Bool) → List A → Bool
every t [] = true
every t (x ∷ xs) = t x && every t xs

-- runs sorted by identifier, no two the same (RULES 6.4): each is above the one before it, the first above b
unfoldable pub rising : ℕ → List Run → Bool
rising b [] = true
rising b (r ∷ rs) = ltb b r.identifier && rising r.identifier rs

-- the run with this identifier, if there is one
unfoldable pub find : ℕ → List Run → Option Run
find i [] = none
find i (r ∷ rs) = cond (eqb i r.identifier) (some r) (find i rs)

-- whether there is one
abbrev pub is_some : {A : Type 0} → Option A → Bool
is_some none = false
is_some (some a) = true

-- whether an identifier is in force (checks 11 and 13, RULES 7.5)
abbrev pub present : ℕ → List Run → Bool
present i rs = is_some (find i rs)

-- a run put in before the first with a higher identifier (RULES 6.4)
unfoldable pub insert_run : Run → List Run → List Run
insert_run r [] = r ∷ []
insert_run r (x ∷ xs) = cond (ltb r.identifier x.identifier) (r ∷ x ∷ xs) (x ∷ insert_run r xs)

-- the run with this identifier left out (RULES D3)
unfoldable pub delete_run : ℕ → List Run → List Run
delete_run i [] = []
delete_run i (x ∷ xs) = cond (eqb i x.identifier) xs (x ∷ delete_run i xs)
