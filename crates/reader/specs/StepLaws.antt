-- The steps of reading a text come to what the text is: a tree, or a place where it stops being of the form. Assumes nothing.
use Rattle.std.specs.Prelude.{ℕ, ◌+◌, ◌≤◌, ◌<◌, ◌≡◌, ◌⊎◌, true, false, List, eqb, get_or, Result, Ok, Err}
use Rattle.std.proofs.Common.{arith, sym, ap, subst, ◌∙◌, inl, inr, eqb-true, eq-eqb, ne_eqb}
use Rattle.std.proofs.Math.Path.{refl}
use Rattle.std.proofs.Math.ListN.{length}
use Rattle.std.proofs.lemmas.Bool.{eqb-false}
use Rattle.trees.proofs.BoolLaws.{decide}
use Rattle.newick.specs.Tree.{Tree, depth}
use Rattle.newick.specs.Tree.Stack.{top}
use Rattle.newick.proofs.ByteLaws.{kind_all}
use Rattle.newick.specs.Bytes.{semicolon_byte, kind_of, is_blank}
use Rattle.newick.specs.Walk.{parsed, final, step, shut, next, last}
use Rattle.newick.specs.Walk.State.{measured, done}
use Rattle.newick.specs.Walk.Move.{stuck}
use Rattle.newick.specs.Walk.Parse.{reads, stops}
use Rattle.newick.specs.Grammar.{most_open}
use Rattle.scan.specs.declared.Stop.{Stop}
use Rattle.scan.specs.Scanning.{past, from, Fresh, Stuck}
use Rattle.scan.specs.RunLaws.{look_within, past_within, past_next, from_to, from_stuck, from_end, from_stops}
use Rattle.scan.specs.StateLaws.{clash, blanks_on}
use Rattle.lay.specs.declared.keep.Kept.{Kept}
use Rattle.lay.specs.declared.tables.Standing.{Standing}
use Rattle.lay.specs.Keeping.{Whole, LaidTo, Laid}
use Rattle.reader.specs.declared.held.Reader.{Reader}
use Rattle.reader.specs.Steps.{semicolon_from, blanks_from, end_from, Goes, Reads, WholeOf, Texts}

-- ---- the steps

module _ (l : List ℕ) (p : Result ℕ Stop) (at : ℕ) (e : p ≡ Ok at) where
  pub semicolon_yes : (b : ℕ) → b ≡ get_or l at 0 → b ≡ semicolon_byte → Ok (at + 1) ≡ semicolon_from l p
  semicolon_yes b f g = rw (e, eq-eqb (get_or l at 0) semicolon_byte (sym f ∙ g)) refl

  pub semicolon_no : (b : ℕ) → b ≡ get_or l at 0 → (b ≡ semicolon_byte → ⊥) → Err (record { at = at }) ≡ semicolon_from l p
  semicolon_no b f g = rw (e, ne_eqb (get_or l at 0) semicolon_byte (λ q. g (f ∙ q))) refl

  pub blanks_past : (a : ℕ) → a ≡ past is_blank l at → Ok a ≡ blanks_from l p
  blanks_past a f = rw e (ap Ok f)

  pub end_yes : at ≡ length l → Ok at ≡ end_from l p
  end_yes f = rw (e, eq-eqb at (length l) f) refl

  pub end_no : (q : ℕ) → q ≡ at → (at ≡ length l → ⊥) → Err (record { at = q }) ≡ end_from l p
  end_no q g f = rw (e, ne_eqb at (length l) f, g) refl

-- a subtree with all brackets left, from where a reader stands
pub reads_at : (r : Reader) (d : ℕ) (kept : Kept) (row : List ℕ) (marks : List Standing) (p : Result ℕ Stop) (kept' : Kept)
    (row' : List ℕ) (marks' : List Standing) (o : Result Unit Stop) (r' : Reader) → d ≡ most_open
    → Laid r.text.now r.at d kept row marks p kept' row' marks' → Goes r o r' p → Reads r kept row marks o r' kept' row' marks'
reads_at r d kept row marks p kept' row' marks' o r' f L g =
    (p, subst (λ (i : ℕ). Laid r.text.now r.at i kept row marks p kept' row' marks') f L, g)

-- ---- what follows the tree

module _ (l : List ℕ) (e : ℕ) (t : Tree) where
  top_stops : Fresh l e → (get_or l e 0 ≡ semicolon_byte → ⊥) → from l e (measured top t) ≡ stops e
  unfolding step final shut next
  top_stops n f =
      from_stops l e (measured top t)
      (λ w. kind_all (λ c. step (measured top t) c ≡ stuck) (get_or l e 0)
      (λ z. clash z (n w)) (λ z. refl) (λ z. refl) (λ z. refl) (λ z. refl) (λ z. absurd (f z)) (λ z. refl) (λ z. refl) refl)
      refl

  module _ (b : get_or l e 0 ≡ semicolon_byte) where
    abbrev f : ℕ
    f = past is_blank l (e + 1)

    to_done : from l e (measured top t) ≡ from l f (done t)
    unfolding step kind_of last
    to_done = from_to l e (measured top t) (done t) (look_within l e semicolon_byte b (omega arith)) (rw b)
        ∙ blanks_on l (e + 1) f (done t) refl refl

    f_within : f ≤ length l
    f_within = past_within is_blank l (e + 1) (omega (arith, look_within l e semicolon_byte b (omega arith)))

    top_more : (f ≡ length l → ⊥) → from l e (measured top t) ≡ stops f
    unfolding step
    top_more n =
        let h : f < length l = omega (arith, f_within, n) in
        to_done ∙ from_stuck l f (done t) h (kind_all (λ c. step (done t) c ≡ stuck) (get_or l f 0)
        (λ z. clash z (past_next is_blank l (e + 1) f refl h)) (λ z. refl) (λ z. refl) (λ z. refl) (λ z. refl) (λ z. refl) (λ z. refl)
        (λ z. refl) refl)

    top_ends : f ≡ length l → from l e (measured top t) ≡ reads t
    unfolding final
    top_ends h = to_done ∙ from_end l f (done t) (omega (arith, h))

-- ---- the whole text

text_stops : (l : List ℕ) (q : ℕ) → Stuck l 0 most_open q → parsed l ≡ stops q
unfolding parsed depth
text_stops l q w = w top refl

text_reads : (l : List ℕ) (e : ℕ) (w : Whole l 0 most_open e) → parsed l ≡ from l e (measured top w.tree)
unfolding parsed depth
text_reads l e w = w.goes top refl

module _ (l : List ℕ) (kept : Kept) (row : List ℕ) (marks : List Standing) (kept' : Kept) (row' : List ℕ) (marks' : List Standing) where
  -- a tree up to e, and what follows it
  after_tree : (e : ℕ) → LaidTo l 0 most_open kept row marks e kept' row' marks'
      → Texts l kept row marks (end_from l (blanks_from l (semicolon_from l (Ok e)))) kept' row' marks'
  after_tree e L = go (decide (eqb (get_or l e 0) semicolon_byte)) (decide (eqb (past is_blank l (e + 1)) (length l)))
    where
      t : Tree
      t = L.whole.tree

      go : (eqb (get_or l e 0) semicolon_byte ≡ true) ⊎ (eqb (get_or l e 0) semicolon_byte ≡ false)
          → (eqb (past is_blank l (e + 1)) (length l) ≡ true) ⊎ (eqb (past is_blank l (e + 1)) (length l) ≡ false)
          → Texts l kept row marks (end_from l (blanks_from l (semicolon_from l (Ok e)))) kept' row' marks'
      go (inr a) d =
          rw a (text_reads l e L.whole ∙ top_stops l e L.whole.tree L.whole.fresh (eqb-false (get_or l e 0) semicolon_byte a))
      go (inl a) (inl d) = rw (a, d) (record {
        tree = L.whole.tree;
        lays = L.lays;
        read = text_reads l e L.whole
            ∙ top_ends l e L.whole.tree (eqb-true (get_or l e 0) semicolon_byte a) (eqb-true (past is_blank l (e + 1)) (length l) d);
      })
      go (inl a) (inr d) = rw (a, d) (text_reads l e L.whole
          ∙ top_more l e L.whole.tree (eqb-true (get_or l e 0) semicolon_byte a) (eqb-false (past is_blank l (e + 1)) (length l) d))

  after_subtree : (p : Result ℕ Stop) → Laid l 0 most_open kept row marks p kept' row' marks'
      → Texts l kept row marks (end_from l (blanks_from l (semicolon_from l p))) kept' row' marks'
  after_subtree (Ok e) L = after_tree e L
  after_subtree (Err q) L = text_stops l q.at L

  -- what the steps come to
  pub composed : (r : Result ℕ Stop) → WholeOf l kept row marks r kept' row' marks' → Texts l kept row marks r kept' row' marks'
  composed r C = subst (λ (z : Result ℕ Stop). Texts l kept row marks z kept' row' marks') (sym C.2) (after_subtree C.0 C.1)
