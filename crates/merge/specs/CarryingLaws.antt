-- Carrying node by node, and that kept nodes which have settled are apart. Assumes nothing.
use Rattle.std.specs.Prelude.{ℕ, ◌+◌, ◌≤◌, ◌<◌, ◌≡◌, refl, ◌⊎◌, List, Bool, true, false, length, set}
use Rattle.std.proofs.Common.{sym, ap, ◌∙◌, inl, inr, eq-or-lt_of_le, arith, length-set, get_or-set_same, get_or-set_other}
use Rattle.std.proofs.lemmas.Bool.{false≢true}
use Rattle.trees.specs.Rows.{nodes, group_at}
use Rattle.trees.specs.Valid.{Standard}
use Rattle.trees.specs.Tables.{table_words, entry}
use Rattle.trees.specs.Merging.{flagged}
use Rattle.trees.proofs.NodeLaws.{node_distinct}
use Rattle.trees.proofs.FallsLaws.{few, standard_falls}
use Rattle.merge.specs.Settling.{Settled}
use Rattle.merge.specs.Carrying.{Apart, Carried}

module _ {n : ℕ} {keep : List Bool} {num from old : List ℕ} where
  pub carried_start : length old ≡ table_words → Carried n keep num from old n old
  carried_start l = record { words = l; given = λ u a h e. absurd (omega arith); rest = λ x none. refl }

  -- a kept node's word is stored at its number
  pub carried_kept : {m v x y : ℕ} {t : List ℕ} → Apart n m keep num → Carried n keep num from old v t
      → n ≤ v → v < m → flagged keep v ≡ true → x ≡ entry num v → y ≡ entry from v
      → Carried n keep num from old (v + 1) (set t x y)
  carried_kept {m} {v} {x} {y} {t} apart c a h e p q = record {
    words = length-set t x y ∙ c.words;
    given = λ u b k f. go u b f (eq-or-lt_of_le (omega arith));
    rest = λ z none. other z (λ d. none v a (omega arith) e (omega arith)) ∙ c.rest z (λ u b k. none u b (omega arith));
  }
    where
      other : (z : ℕ) → (z ≡ x → ⊥) → entry (set t x y) z ≡ entry t z
      other z d = get_or-set_other t x z y 0 d

      apart_from : (u : ℕ) → n ≤ u → u < v → flagged keep u ≡ true → entry num u ≡ x → ⊥
      apart_from u b k f d = omega (arith, apart.one u v b (omega arith) f a h e (d ∙ p))

      go : (u : ℕ) → n ≤ u → flagged keep u ≡ true → (u ≡ v) ⊎ (u < v)
          → entry (set t x y) (entry num u) ≡ entry from u
      go u b f (inl d) = rw (d, ← p) (get_or-set_same t x y 0 (omega (arith, c.words, apart.fits v a h e)) ∙ q)
      go u b f (inr d) = other (entry num u) (apart_from u b d f) ∙ c.given u b d f

  -- any other node leaves all as it is
  pub carried_other : {v : ℕ} {t : List ℕ} → Carried n keep num from old v t → flagged keep v ≡ false
      → Carried n keep num from old (v + 1) t
  carried_other {v} {t} c e = record {
    words = c.words;
    given = λ u b k f. c.given u b (before u f (eq-or-lt_of_le (omega arith))) f;
    rest = λ x none. c.rest x (λ u b k. none u b (omega arith));
  }
    where
      before : (u : ℕ) → flagged keep u ≡ true → (u ≡ v) ⊎ (u < v) → u < v
      before u f (inl d) = absurd (false≢true (sym e ∙ ap (flagged keep) (sym d) ∙ f))
      before u f (inr d) = d

-- the kept nodes of a standard row that have settled in another have different numbers
pub settled_apart : {n : ℕ} {a : List ℕ} {keep : List Bool} {num out : List ℕ}
    → Standard n a → Standard n out → Settled n a keep num out → Apart n (nodes a) keep num
settled_apart {n} {a} {keep} {num} {out} first second s = record {
  fits = λ v l h e. omega (arith, s.high v l h e, few _ _ (standard_falls _ _ second));
  one = λ v w l h e k j f q. node_distinct n a first v w h j
      (sym (s.same v l h e) ∙ ap (group_at n out) q ∙ s.same w k j f);
}
