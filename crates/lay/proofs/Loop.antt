-- A subtree that is a sample, and the loop over the subtrees of a pair: its start, a comma, the closing bracket, a stop. Assumes nothing.
use Prim.Native.Nat.{ℕ, ◌+◌, ◌-◌, ◌≤◌}
use mathlib.Core.Path.{◌≡◌, sym, ◌∙◌}
use mathlib.Core.Logic.{⊎_elim}
use Rattle.std.specs.Prelude.{Result, Ok, Err}
use mathlib.Core.List.{List}
use native.Mathlib.Omega.{arith}
use lib.ListN.{get_or}
use Rattle.trees.specs.Tables.{table_words}
use Rattle.newick.specs.Tree.{Forest, hold}
use Rattle.newick.specs.Tree.Tree.{leaf}
use Rattle.newick.specs.Tree.Held.{nothing}
use Rattle.newick.specs.Bytes.{comma_byte}
use Rattle.scan.specs.declared.Stop.{Stop}
use Rattle.scan.specs.declared.numbers.Number.{Number}
use Rattle.scan.specs.Scanning.{Lone, Opens, Stuck}
use Rattle.lay.specs.declared.keep.Kept.{Kept}
use Rattle.lay.specs.declared.tables.Standing.{Standing}
use Rattle.trees.proofs.BoolLaws.{decide}
use Rattle.std.proofs.lemmas.Bool.{eqb-false}
use Rattle.std.specs.Prelude.{eqb}
use Rattle.lay.specs.Laying.{node_of}
use Rattle.lay.proofs.LayLaws.{grow_few, next_grown}
use Rattle.lay.specs.Keeping.{LaidTo, Laid, Takes, Parts, Closed, After, Paired}
use Rattle.lay.proofs.InsideLaws.{inside_again, inside_closes, inside_unclosed, inside_ends, inside_stuck}
use Rattle.lay.proofs.KeepingLaws.{along_start, along_sub, after_comma, after_shut, lays_leaf}

pub leaf_laid : (l : List ℕ) (p d : ℕ) (x : Number) (kept : Kept) (row : List ℕ) (marks : List Standing) (kept' : Kept) (marks' : List Standing) → Lone l p x
    → Takes x.value kept marks kept' marks' → kept.next ≤ table_words → LaidTo l p d kept row marks x.end kept' row marks'
leaf_laid l p d x kept row marks kept' marks' h T k = record {
  whole = record {
    later = h.later;
    within = h.within;
    fresh = h.fresh;
    tree = leaf x.value;
    goes = λ s u. h.goes s;
  };
  lays = lays_leaf x.value kept marks kept' marks' row T h.small k;
}

pub loop_start : (l : List ℕ) (p d a : ℕ) (kept : Kept) (row : List ℕ) (marks : List Standing) → Opens l p d a → 1 ≤ kept.next → kept.next ≤ table_words
    → Paired l p d kept row marks (a + 1) 0 kept row marks
loop_start l p d a kept row marks s h k = record {
  some = s.some;
  inside = record { after = omega (arith, s.later); within = omega (arith, s.within); held = nothing; goes = s.goes };
  along = along_start kept row marks h k;
}

module _ (l : List ℕ) (p d : ℕ) (kept₀ : Kept) (row₀ : List ℕ) (marks₀ : List Standing) (j v : ℕ) (kept : Kept) (row : List ℕ) (marks : List Standing)
    (P : Paired l p d kept₀ row₀ marks₀ j v kept row marks) where
  pub loop_stops : (q : ℕ) → Stuck l j (d - 1) q → Stuck l p d q
  loop_stops q s = inside_stuck l p d j q P.some P.inside s

  -- after a subtree
  module _ (e : ℕ) (kept₁ : Kept) (row₁ : List ℕ) (marks₁ : List Standing) (L : LaidTo l j (d - 1) kept row marks e kept₁ row₁ marks₁) where
    abbrev f : Forest
    f = hold P.inside.held L.whole.tree

    after : After f kept₀ row₀ marks₀ v kept₁ row₁ marks₁
    after = along_sub P.inside.held L.whole.tree kept₀ row₀ marks₀ v kept kept₁ row marks row₁ marks₁
        P.along L.lays

    -- at a byte: a comma
    module _ (b : ℕ) (i : b ≡ get_or l e 0) (c : b ≡ comma_byte) where
      pub loop_again : (r : ℕ) (kept₂ : Kept) (row₂ : List ℕ) → Parts v kept₁ row₁ r kept₂ row₂
          → Paired l p d kept₀ row₀ marks₀ (e + 1) r kept₂ row₂ marks₁ × (1 ≤ r)
      unfolding inside_again
      loop_again r kept₂ row₂ q =
          let low : 1 ≤ kept₂.next = omega (
            arith,
            q.next,
            (next_grown v kept₁.next).0,
            L.lays.next,
            (grow_few L.whole.tree kept.next).0,
            P.along.low,
          ) in
          let A = after_comma f kept₀ row₀ marks₀ v kept₁ row₁ marks₁ after r kept₂ row₂ q low in
          let named : 1 ≤ node_of v kept₁.next = ⊎_elim (λ z. rw z (omega (arith, L.lays.next, (grow_few L.whole.tree kept.next).0, P.along.low)))
          (λ z. rw z (omega (arith, eqb-false v 0 z))) (decide (eqb v 0)) in (
            record {
              some = P.some;
              inside = inside_again l p d j e P.some P.inside L.whole (sym i ∙ c);
              along = A;
            },
            omega (arith, q.node, named),
          )

    -- at another byte: the closing bracket with what follows it, or a stop
    pub loop_closes : (r : Result ℕ Stop) (kept₂ : Kept) (row₂ : List ℕ) → (get_or l e 0 ≡ comma_byte → ⊥) → Closed l e v kept₁ row₁ r kept₂ row₂
        → Laid l p d kept₀ row₀ marks₀ r kept₂ row₂ marks₁
    unfolding inside_closes
    loop_closes (Ok g) kept₂ row₂ b q =
        let M = after_shut f kept₀ row₀ marks₀ v kept₁ row₁ marks₁ after q.marked.mark kept₂ row₂ q.shuts in
        record {
          whole = inside_closes l p d j e P.some P.inside L.whole g q.bracket q.marked;
          lays = M;
        }
    loop_closes (Err g) kept₂ row₂ b q = ⊎_elim
        (λ w. rw w.0 (inside_ends l p d j e P.some P.inside L.whole w.1 b))
        (λ w. inside_unclosed l p d j e P.some P.inside L.whole g w.0 w.1) q
