-- Runs of bytes. Assumes nothing: these are definitions.
use Rattle.std.specs.Prelude.{ℕ, zero, suc, ◌-◌, Bool, true, false, cond, List, [], ◌∷◌}
use Rattle.ascii.specs.Decimal.{value_after}
use Rattle.newick.specs.Bytes.{nought_byte}
use Rattle.newick.specs.Tree.{Mark}
use Rattle.newick.specs.Tree.Mark.{unmarked, marked}

abbrev pub one_more : Bool → ℕ → ℕ
one_more true n = suc n
one_more false n = zero

-- how many bytes at the front pass the test
unfoldable pub lead : (ℕ → Bool) → List ℕ → ℕ
lead t [] = zero
lead t (b ∷ l) = one_more (t b) (lead t l)

-- those bytes
unfoldable pub run : (ℕ → Bool) → List ℕ → List ℕ
run t [] = []
run t (b ∷ l) = cond (t b) (b ∷ run t l) []

-- the mark that a run of digits makes
abbrev pub mark_of : List ℕ → Mark
mark_of [] = unmarked
mark_of (b ∷ l) = marked (value_after (b - nought_byte) l)
