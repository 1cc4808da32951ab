-- The three counts of two rows, by way of their standard rows: the nodes after the root that have a mate, and what is left of each row. Assumes nothing.
use Prim.Native.Nat.{ℕ, ◌+◌, ◌-◌, ◌≤◌, ◌<◌}
use mathlib.Core.Path.{◌≡◌, sym, ap, ◌∙◌}
use mathlib.Core.List.{List}
use mathlib.Core.Bool.{not, true}
use native.Mathlib.Omega.{arith}
use lib.Dec.{eqb}
use lib.ListN.{length, get_or, take}
use lib.Seq.{length-take-le}
use Rattle.trees.specs.Lists.{range, count}
use Rattle.trees.specs.Rows.{nodes, group_at, holds}
use Rattle.trees.specs.Checks.{counted, judged, most_samples, row_words}
use Rattle.trees.specs.Valid.{Standard, is_accepted, standard}
use Rattle.trees.specs.Numbering.{renumbered}
use Rattle.trees.specs.Comparing.{shared, alone, nontrivial, compared}
use Rattle.trees.specs.Tables.{Tabled, table_words}
use Rattle.trees.specs.Mates.{no_mate, mate_of}
use Rattle.trees.proofs.ListLaws.{in-range, count_same}
use Rattle.trees.proofs.RowLaws.{inner_two}
use Rattle.trees.proofs.NumberingLaws.{renumbered_standard}
use Rattle.trees.proofs.StandardLaws.{standard_from}
use Rattle.judge.proofs.KnownRows.{known_valid}
use Rattle.trees.proofs.MateLaws.{mate_holds}
use Rattle.trees.proofs.ComparingLaws.{shared_comm, shared_alone, nontrivial_strict, compared_renumbered, nontrivial_nodes, shared_standard}

-- a table has room for a row
pub row_room : (n : ℕ) (t : List ℕ) → length t ≡ table_words → n ≤ most_samples → length (take (row_words n) t) ≡ row_words n
row_room n t e h = length-take-le (row_words n) t (omega arith)

-- ---- valid rows, by way of their standard rows

pub accepted_most : (n : ℕ) (r : List ℕ) → is_accepted (judged n r) ≡ true → n ≤ most_samples
accepted_most n r e = (known_valid n r e).most

pub made_standard : (n : ℕ) (r : List ℕ) {x : List ℕ} → is_accepted (judged n r) ≡ true → x ≡ renumbered n r → standard n x ≡ true
made_standard n r ok e = rw e (standard_from n (renumbered n r) (renumbered_standard n r (known_valid n r ok)))

pub made_compared : (n k : ℕ) (r q : List ℕ) {x y : List ℕ} → is_accepted (judged n r) ≡ true → is_accepted (judged k q) ≡ true → k ≡ n → x ≡ renumbered n r
    → y ≡ renumbered k q → compared n x y ≡ compared n r q
made_compared n k r q a b h d e = rw (d, e, h) (sym (compared_renumbered n r q (known_valid n r a) (rw h at (known_valid k q b))))

-- ---- standard rows

module _ (n : ℕ) (r q : List ℕ) (a : Standard n r) (b : Standard n q) where
  -- the nodes that have a mate are those whose group the other row holds
  pub mates_held : (t : List ℕ) → Tabled (mate_of n r q) n (nodes r) t
      → count (λ v. not (eqb (get_or t v 0) no_mate)) (range (n + 1) (nodes r)) ≡ count (λ v. holds n (group_at n r v) q) (range (n + 1) (nodes r))
  mates_held t is = count_same _ _ (range (n + 1) (nodes r)) (λ v m. let i = in-range (n + 1) (nodes r) v m in held v (omega arith) i.1)
    where
      held : (v : ℕ) → n < v → v < nodes r → not (eqb (get_or t v 0) no_mate) ≡ holds n (group_at n r v) q
      held v h k = ap (λ (x : ℕ). not (eqb x no_mate)) (is.is v (omega arith) k) ∙ mate_holds n r q v b (inner_two n r a v (omega arith) k)

  module _ (k : ℕ) (e : k ≡ count (λ v. holds n (group_at n r v) q) (range (n + 1) (nodes r))) where
    is_shared : k ≡ shared (nontrivial n r) (nontrivial n q)
    is_shared = e ∙ sym (shared_standard n r q a b)

    -- with the trivial groups and those that stand alone they are all nodes of either row
    first_nodes : n + 1 + k + alone (nontrivial n r) (nontrivial n q) ≡ nodes r
    first_nodes = omega (arith, is_shared, shared_alone (nontrivial n r) (nontrivial n q), nontrivial_nodes n r a)

    second_nodes : n + 1 + k + alone (nontrivial n q) (nontrivial n r) ≡ nodes q
    second_nodes = omega (
      arith,
      is_shared,
      shared_comm (nontrivial n r) (nontrivial n q) (nontrivial_strict n r) (nontrivial_strict n q),
      shared_alone (nontrivial n q) (nontrivial n r),
      nontrivial_nodes n q b,
    )

    pub known_first : n + 1 + k ≤ nodes r
    known_first = omega (arith, first_nodes)

    pub known_second : n + 1 + k ≤ nodes q
    known_second = omega (arith, second_nodes)

    pub counts_compared : counted k (nodes r - (n + 1 + k)) (nodes q - (n + 1 + k)) ≡ compared n r q
    unfolding compared
    counts_compared = cc (is_shared, first, second)
      where
        first : nodes r - (n + 1 + k) ≡ alone (nontrivial n r) (nontrivial n q)
        first = omega (arith, first_nodes)

        second : nodes q - (n + 1 + k) ≡ alone (nontrivial n q) (nontrivial n r)
        second = omega (arith, second_nodes)
