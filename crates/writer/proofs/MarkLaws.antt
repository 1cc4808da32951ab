-- What stands behind a node's closing bracket, by the words that are wanted. Assumes nothing.
use Prim.Native.Nat.{ℕ, ◌+◌, ◌<◌}
use mathlib.Core.Path.{◌≡◌, refl}
use mathlib.Core.Logic.{⊎_elim}
use mathlib.Core.List.{List, [], ◌∷◌}
use mathlib.Core.Bool.{Bool, true, false, ◌||◌, cond}
use native.Mathlib.Numerals.{add-one}
use native.Mathlib.Omega.{arith}
use lib.Dec.{eqb, ltb}
use lib.ListN.{length, get_or}
use borrow.Author.Tests.{eqb-true, eqb-false}
use Rattle.trees.specs.Rows.{parent, root_mark}
use Rattle.trees.proofs.BoolLaws.{or_cases, or_none}
use Rattle.ascii.specs.Decimal.{decimal}
use Rattle.newick.specs.RowText.{word_text, mark_text}
use Rattle.writer.specs.Lengths.{wanted_by}
use Rattle.writer.specs.Nesting.{behind}

either : (b : Bool) → ◌≡◌ {A = List ℕ} (cond b [] []) []
either true = refl
either false = refl

-- no words, no digits; and else those of the word
word_none : (ws : List ℕ) (v : ℕ) → eqb (length ws) 0 ≡ true → word_text (wanted_by ws) v ≡ []
word_none [] v e = refl
word_none (x ∷ ws) v e = absurd (omega (arith, eqb-true (length (x ∷ ws)) 0 e))

word_some : (ws : List ℕ) (v : ℕ) → eqb (length ws) 0 ≡ false → word_text (wanted_by ws) v ≡ decimal (get_or ws (v + 1) 0)
word_some [] v e = absurd (eqb-false 0 0 e refl)
word_some (x ∷ ws) v e = rw (add-one v)

module _ (ws : List ℕ) (v : ℕ) where
  pub words_there : eqb (length ws) 0 ≡ false → 0 < length ws
  words_there e = omega (arith, eqb-false (length ws) 0 e)

  -- z is what the root has in place of a parent
  module _ (r : List ℕ) (z : ℕ) (is : z ≡ root_mark) where
    pub mark_none : eqb (length ws) 0 || eqb (parent r v) z ≡ true → mark_text r (wanted_by ws) v ≡ []
    mark_none e = ⊎_elim (λ q. rw (word_none ws v q) (either (eqb (parent r v) root_mark))) (λ q. let k = rw is at q in rw k)
        (or_cases (eqb (length ws) 0) (eqb (parent r v) z) e)

    pub mark_some : eqb (length ws) 0 || eqb (parent r v) z ≡ false → mark_text r (wanted_by ws) v ≡ decimal (get_or ws (v + 1) 0)
    mark_some e = let t = or_none (eqb (length ws) 0) (eqb (parent r v) z) e in rw (← is, t.1) (word_some ws v t.0)

  module _ (n : ℕ) where
    pub behind_none : ltb v n || eqb (length ws) 0 ≡ true → behind n (wanted_by ws) v ≡ []
    behind_none e = ⊎_elim (λ q. rw q) (λ q. rw (word_none ws v q) (either (ltb v n))) (or_cases (ltb v n) (eqb (length ws) 0) e)

    pub behind_some : ltb v n || eqb (length ws) 0 ≡ false → behind n (wanted_by ws) v ≡ decimal (get_or ws (v + 1) 0)
    behind_some e = let t = or_none (ltb v n) (eqb (length ws) 0) e in rw t.0 (word_some ws v t.1)
