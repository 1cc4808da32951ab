-- Where opening, adding and withdrawing refuse, the place is 0 or a node or word of the row. Assumes nothing.
use Rattle.std.specs.Prelude.{ℕ, List, [], ◌∷◌, Bool, not, eqb, ltb, length}
use Rattle.std.proofs.Common.{arith}
use Rattle.std.proofs.lemmas.Bool.{not-false}
use Rattle.trees.specs.Checks.{Check, line, fewest_samples, most_samples, row_words, outside, row_checks}
use Rattle.trees.proofs.ChainLaws.{line_passes}
use Rattle.trees.proofs.PlacedLaws.{Placed, placed_none, placed_line, placed_append, most_places, row_within}
use Rattle.runs.specs.Runs.{present}
use Rattle.runs.specs.Words.{samples, runs, capacity, full}
use Rattle.runs.specs.Formed.{well_formed}
use Rattle.runs.specs.Calls.{check11, check12, open_checks, add_formed_checks, add_checks, withdraw_formed_checks, withdraw_checks}
use Rattle.runs.proofs.FormedLaws.{formed_to}

-- one line more in front
pub front : (number : ℕ) (t : Bool) (cs : List Check) → Placed most_places cs → Placed most_places (line number t ∷ cs)
front number t cs f = placed_line most_places number t cs (omega arith) (λ e. f)

pub opened_placed : (n : ℕ) (w : List ℕ) → Placed most_places (open_checks n w)
unfolding open_checks
opened_placed n w = front 1 (outside fewest_samples most_samples n) _ (front 3 (ltb (capacity (length w) n) 1) _ (placed_none most_places))

pub added_placed : (w : List ℕ) (i : ℕ) (row : List ℕ) → Placed most_places (add_checks w i row)
unfolding add_checks add_formed_checks
added_placed w i row = placed_line most_places 2 (not (well_formed w)) _ (omega arith) (λ e.
    let f = formed_to w (not-false (well_formed w) (line_passes 2 (not (well_formed w)) e)) in
    front 3 (not (eqb (length row) (row_words (samples w)))) _ (front 4 (eqb i 0) _
    (placed_append most_places (row_checks (samples w) row) (check11 w i ∷ check12 w ∷ []) (row_within (samples w) row f.least f.most)
    (front 11 (present i (runs w)) _ (front 12 (full w) _ (placed_none most_places))))))

pub withdrawn_placed : (w : List ℕ) (i : ℕ) → Placed most_places (withdraw_checks w i)
unfolding withdraw_checks withdraw_formed_checks
withdrawn_placed w i = front 2 (not (well_formed w)) _ (front 4 (eqb i 0) _ (front 13 (not (present i (runs w))) _ (placed_none most_places)))
