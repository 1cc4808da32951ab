-- Falls is what its test says, and a standard row falls. Assumes nothing.
use Rattle.std.specs.Prelude.{ℕ, ◌≤◌, ◌<◌, ◌≡◌, refl, List, true, not, cond, eqb, ltb, length}
use Rattle.std.proofs.Common.{zero-le, ap, ⊎_elim, arith, eqb-true, lt-ltb, le-ltb, eq-eqb, ne_eqb}
use Rattle.std.proofs.lemmas.Bool.{not-false}
use Rattle.trees.specs.Rows.{nodes, parent, root_mark}
use Rattle.trees.specs.Checks.{most_samples, row_words, is_inner}
use Rattle.trees.specs.Valid.{Standard}
use Rattle.trees.specs.Falls.{Falls, rightful, misplaced, falling}
use Rattle.trees.proofs.NeverLaws.{Tri, less, equal, more, tri, never_to, never_from}
use Rattle.trees.proofs.CheckLaws.{inner_to, inner_from}
use Rattle.trees.proofs.StandardLaws.{parent_below}

-- ---- the test is the record

pub falls_to : (n : ℕ) (r : List ℕ) → n ≤ most_samples → length r ≡ row_words n → n < nodes r → nodes r < row_words n → falling n r ≡ true → Falls n r
unfolding rightful
falls_to n r a w l h e = record {
  most = a;
  words = w;
  low = l;
  high = h;
  leaf = λ s k. inner_to n (nodes r) (parent r s) (rw (ne_eqb s n (λ q. omega arith), lt-ltb s n k) at (fine s (omega arith)));
  root = eqb-true (parent r n) root_mark (rw (eq-eqb n n refl) at (fine n l));
  down = λ v k m. inner_to n v (parent r v) (rw (ne_eqb v n (λ q. omega arith), le-ltb v n (omega arith)) at (fine v m));
}
  where
    fine : (v : ℕ) → v < nodes r → cond (eqb v n) (eqb (parent r v) root_mark) (is_inner n (cond (ltb v n) (nodes r) v) (parent r v)) ≡ true
    fine v k = not-false _ (never_to (misplaced n r) 0 (nodes r) e v zero-le k)

pub falls_from : (n : ℕ) (r : List ℕ) → Falls n r → falling n r ≡ true
unfolding rightful
falls_from n r ok = never_from (misplaced n r) 0 (nodes r) (λ v a h. ap not (go v h (tri v n)))
  where
    go : (v : ℕ) → v < nodes r → Tri v n → cond (eqb v n) (eqb (parent r v) root_mark) (is_inner n (cond (ltb v n) (nodes r) v) (parent r v)) ≡ true
    go v h (less k) = let p = ok.leaf v k in rw (ne_eqb v n (λ q. omega arith), lt-ltb v n k) (inner_from n (nodes r) (parent r v) p.0 p.1)
    go v h (equal k) = rw (k, eq-eqb n n refl) (eq-eqb (parent r n) root_mark ok.root)
    go v h (more k) = let p = ok.down v k h in rw (ne_eqb v n (λ q. omega arith), le-ltb v n (omega arith)) (inner_from n v (parent r v) p.0 p.1)

-- a standard row falls
pub standard_falls : (n : ℕ) (r : List ℕ) → Standard n r → Falls n r
standard_falls n r std = record {
  most = std.valid.most;
  words = std.valid.words;
  low = std.valid.low;
  high = std.valid.high;
  leaf = std.valid.leaf;
  root = ⊎_elim (λ q. q.1) (λ q. absurd (omega (arith, q.1, q.2))) (parent_below n r std n (omega arith) std.valid.low);
  down = λ v h k. ⊎_elim (λ q. absurd (omega (arith, q.0))) (λ q. (q.1, q.2)) (parent_below n r std v (omega arith) k);
}

-- a falling row has fewer nodes than a table has words
pub few : (n : ℕ) (r : List ℕ) → Falls n r → nodes r < row_words most_samples
few n r ok = omega (arith, ok.most, ok.high)
