-- A climb step by step; a node that comes to the root may be marked, and then fewer are unmarked. Assumes nothing.
use Rattle.std.specs.Prelude.{ℕ, ◌-◌, ◌<◌, ◌≡◌, refl, List, Bool, true, false, not, eqb, get_or, set, replicate}
use Rattle.std.proofs.Common.{suc, zero, zero-le, sym, ◌∙◌, ⊎_elim, arith, length-set, get_or-set_same, get_or-set_other, eqb-true, eq-eqb, ap}
use Rattle.std.proofs.lemmas.Bool.{eqb-false, false≢true}
use Rattle.std.proofs.lemmas.List.{length-replicate}
use Rattle.trees.specs.Lists.{range}
use Rattle.trees.specs.Rows.{nodes, parent, root_mark, child_of, ends}
use Rattle.trees.specs.Tables.{table_words}
use Rattle.trees.proofs.BoolLaws.{decide}
use Rattle.trees.proofs.WayLaws.{ends_none, ends_step}
use Rattle.trees.proofs.ScanLaws.{ends_root, ends_parent}
use Rattle.trees.proofs.ListLaws.{range_in, weigh_one, weigh_apart}
use Rattle.quick.specs.Layout.{LaidOut}
use Rattle.quick.specs.Marking.{Marked, Climbed, MarkedTo, unmarked}

-- ---- a climb

module _ (r : List ℕ) (v left at : ℕ) (c : Climbed r v left at) where
  pub climbed_up : LaidOut r → 0 < left → child_of r root_mark at ≡ false → Climbed r v (left - 1) (parent r at)
  climbed_up o h e = record {
    node = o.closed at c.node e;
    within = sym (ends_parent r left at h e) ∙ c.within;
    ever = ends_step r (nodes r) o.closed at c.node e ∙ c.ever;
  }

  pub climbed_root : 0 < left → child_of r root_mark at ≡ true → true ≡ ends (nodes r) r v
  climbed_root h e = sym (ends_root r left at h e) ∙ c.within

  pub climbed_known : (marks : List Bool) → Marked r marks → get_or marks at false ≡ true → true ≡ ends (nodes r) r v
  climbed_known marks k d = sym (k.known at c.node d) ∙ c.ever

  pub climbed_out : left ≡ 0 → false ≡ ends (nodes r) r v
  climbed_out e = sym (ends_none r at) ∙ rw e at c.within

-- ---- marks

none_marked : (n v : ℕ) → get_or (replicate n false) v false ≡ false
none_marked zero v = refl
none_marked (suc n) zero = refl
none_marked (suc n) (suc v) = none_marked n v

pub marked_none : (r : List ℕ) → Marked r (replicate table_words false)
marked_none r = record {
  words = length-replicate table_words false;
  known = λ v h d. absurd (false≢true (sym (none_marked table_words v) ∙ d));
}

module _ (r : List ℕ) (marks : List Bool) (is-marked : Marked r marks) (v : ℕ) (x : Bool) where
  pub marked_more : ends (nodes r) r v ≡ true → Marked r (set marks v x)
  marked_more e = record {
    words = length-set marks v x ∙ is-marked.words;
    known = λ u h d. ⊎_elim
        (λ q. rw (eqb-true u v q) e)
        (λ q. is-marked.known u h (sym (get_or-set_other marks v u x false (eqb-false u v q)) ∙ d))
        (decide (eqb u v));
  }

  pub unmarked_fewer : nodes r < table_words → v < nodes r → x ≡ true → get_or marks v false ≡ false → unmarked r (set marks v x) < unmarked r marks
  unmarked_fewer f h d e = omega (
    arith,
    weigh_one (λ u. 1) (λ u. eqb u v) (range 0 (nodes r)) v (range_in 0 (nodes r) v zero-le h) (eq-eqb v v refl),
    weigh_apart (λ u. 1) (λ u. eqb u v) (λ u. not (get_or (set marks v x) u false)) (λ u. not (get_or marks u false)) (range 0 (nodes r))
        (λ u i q. (here u (eqb-true u v q), there u (eqb-true u v q)))
        (λ u i q. ⊎_elim (λ k. here u (eqb-true u v k)) (λ k. rw (get_or-set_other marks v u x false (eqb-false u v k)) at q) (decide (eqb u v))),
  )
    where
      here : (u : ℕ) → u ≡ v → not (get_or marks u false) ≡ true
      here u q = rw q (ap not e)

      there : (u : ℕ) → u ≡ v → not (get_or (set marks v x) u false) ≡ false
      there u q = rw (q, get_or-set_same marks v x false (omega (arith, is-marked.words)), d) refl

pub marked_up : (r : List ℕ) (marks : List Bool) (at : ℕ) (x : Bool) → LaidOut r → MarkedTo r at marks → child_of r root_mark at ≡ false → MarkedTo r (parent r at) (set marks at x)
marked_up r marks at x o k e = record {
  node = o.closed at k.node e;
  comes = ends_step r (nodes r) o.closed at k.node e ∙ k.comes;
  marked = marked_more r marks k.marked at x k.comes;
}
