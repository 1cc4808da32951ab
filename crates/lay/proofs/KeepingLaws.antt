-- What has been laid, step by step: behind an opening bracket or a comma, after a subtree, and at the closing bracket. Assumes nothing.
use Rattle.std.specs.Prelude.{ℕ, zero, suc, ◌+◌, ◌≤◌, ◌<◌, ◌≡◌, refl, ◌⊎◌, List, [], ◌∷◌, ◌++◌, Bool, true, false, length, set}
use Rattle.std.proofs.Common.{sym, ◌∙◌, inl, inr, ⊎_elim, add-one, arith, eqb-true}
use Rattle.std.proofs.Math.Path.{ap}
use Rattle.std.proofs.Math.Dec.{eqb}
use Rattle.trees.proofs.BoolLaws.{decide}
use Rattle.trees.specs.Checks.{most_samples}
use Rattle.trees.specs.Lists.{weigh}
use Rattle.trees.proofs.ListLaws.{weigh_append}
use Rattle.trees.specs.Tables.{table_words}
use Rattle.newick.specs.Tree.{Mark, Tree, Forest, Held, hold}
use Rattle.newick.specs.Tree.Tree.{leaf, pair}
use Rattle.newick.specs.Tree.Held.{nothing, some}
use Rattle.newick.specs.Meaning.{samples, samples_in, times}
use Rattle.newick.specs.Grammar.{sample_bound}
use Rattle.lay.specs.Laying.{Link, link, sets, Braid, node_of, then_by, grow, spread, tally, least}
use Rattle.lay.proofs.TallyLaws.{sets_append, tally_append, least_append, length_tally}
use Rattle.lay.proofs.LaidRow.{length_links}
use Rattle.lay.specs.declared.keep.Kept.{Kept}
use Rattle.lay.specs.declared.tables.Standing.{Standing}
use Rattle.lay.specs.Keeping.{Lays, Takes, Parts, Shuts, spread_held, samples_held, Along}
use Rattle.lay.specs.Keeping.{After}

-- ---- one subtree more

spread_hold : (h : Held) (t : Tree) (k : ℕ) → spread (hold h t) k ≡ then_by (spread_held h k) (grow t (spread_held h k).next)
unfolding grow
spread_hold nothing t k = refl
spread_hold (some f) t k = refl

samples_hold : (h : Held) (t : Tree) → samples_in (hold h t) ≡ samples_held h ++ samples t
unfolding samples
samples_hold nothing t = refl
samples_hold (some f) t = refl

pub along_start : (c : Kept) (row : List ℕ) (marks : List Standing) → 1 ≤ c.next → c.next ≤ table_words → Along nothing c row marks 0 c row marks
unfolding sets tally least weigh
along_start c row marks h k = record {
  links = refl;
  stands = refl;
  node = refl;
  next = refl;
  large = refl;
  small = omega arith;
  most = k;
  low = h;
  below = λ x i. absurd (omega arith);
}

pub along_sub : (h : Held) (t : Tree) (c : Kept) (row₀ : List ℕ) (marks₀ : List Standing) (v : ℕ) (d g : Kept) (row : List ℕ) (marks : List Standing) (row' : List ℕ)
    (marks' : List Standing)
    → Along h c row₀ marks₀ v d row marks → Lays t d row marks g row' marks' → After (hold h t) c row₀ marks₀ v g row' marks'
along_sub h t c row₀ marks₀ v d g row marks row' marks' A L =
    let b = spread_held h c.next in
    let e = spread_hold h t c.next in
    record {
      links = L.links ∙ ap (λ (k : ℕ). sets (grow t k).links row) A.next ∙ ap (sets (grow t b.next).links) A.links
          ∙ sym (sets_append b.links (grow t b.next).links row₀) ∙ ap (λ (z : Braid). sets z.links row₀) (sym e);
      stands = L.stands ∙ ap (tally (samples t)) A.stands ∙ sym (tally_append (samples_held h) (samples t) marks₀)
          ∙ ap (λ (xs : List ℕ). tally xs marks₀) (sym (samples_hold h t));
      node = A.node ∙ ap (λ (z : Braid). z.node) (sym e);
      root = L.root ∙ ap (λ (k : ℕ). (grow t k).root) A.next ∙ ap (λ (z : Braid). z.root) (sym e);
      next = L.next ∙ ap (λ (k : ℕ). (grow t k).next) A.next ∙ ap (λ (z : Braid). z.next) (sym e);
      large =
          L.large ∙ ap (least most_samples (samples t)) A.large ∙ sym (least_append most_samples (samples_held h) (samples t) c.large)
          ∙ ap (λ (xs : List ℕ). least most_samples xs c.large) (sym (samples_hold h t));
      small = L.small;
      most = L.most;
      below = λ x i. either_of x (times x (samples_held h)) (times x (samples t)) (A.below x) (L.below x)
          (omega (arith, i, ap (times x) (samples_hold h t), weigh_append (λ y. 1) (eqb x) (samples_held h) (samples t)));
    }
  where
    either_of : (x i j : ℕ) → (1 ≤ i → x < sample_bound) → (1 ≤ j → x < sample_bound) → 1 ≤ i + j → x < sample_bound
    either_of x zero j f e u = e (omega arith)
    either_of x (suc i) j f e u = f (omega arith)

-- ---- a comma and a closing bracket

last_link : (ls : List Link) (c p : ℕ) (row₀ row : List ℕ) → row ≡ sets ls row₀ → set row (c + 1) p ≡ sets (ls ++ (link c p ∷ [])) row₀
unfolding sets
last_link ls c p row₀ row e =
    ap (λ (z : List ℕ). set z (c + 1) p) e ∙ ap (λ (i : ℕ). set (sets ls row₀) i p) (add-one c) ∙ sym (sets_append ls (link c p ∷ []) row₀)

module _ (f : Forest) (c : Kept) (row₀ : List ℕ) (marks₀ : List Standing) (v : ℕ) (kept : Kept) (row : List ℕ) (marks : List Standing)
    (A : After f c row₀ marks₀ v kept row marks) where
  abbrev b : Braid
  b = spread f c.next

  pub after_comma : (r : ℕ) (kept' : Kept) (row' : List ℕ) → Parts v kept row r kept' row' → 1 ≤ kept'.next
      → Along (some f) c row₀ marks₀ r kept' row' marks
  after_comma r kept' row' P low =
      let w : node_of v kept.next ≡ node_of b.node b.next = rw (A.node, A.next) refl in record {
        links = P.links ∙ ap (λ (x : ℕ). set row (x + 1) (node_of v kept.next)) A.root ∙ ap (set row (b.root + 1)) w
            ∙ last_link b.links b.root (node_of b.node b.next) row₀ row A.links;
        stands = A.stands;
        node = P.node ∙ w;
        next = P.next ∙ rw (A.node, A.next) refl;
        large = P.large ∙ A.large;
        small = P.small;
        most = P.most;
        low = low;
        below = A.below;
      }

  pub after_shut : (μ : Mark) (kept' : Kept) (row' : List ℕ) → Shuts v kept row kept' row'
      → Lays (pair f μ) c row₀ marks₀ kept' row' marks
  unfolding grow samples
  after_shut μ kept' row' S = go (decide (eqb b.node 0))
    where
      nd : (x : Bool) → eqb b.node 0 ≡ x → eqb v 0 ≡ x
      nd x e = ap (λ (i : ℕ). eqb i 0) A.node ∙ e

      go : (eqb b.node 0 ≡ true) ⊎ (eqb b.node 0 ≡ false) → Lays (pair f μ) c row₀ marks₀ kept' row' marks
      go (inl e) = let z = nd true e in record {
        links = S.links ∙ rw (z, e) A.links;
        stands = A.stands;
        root = S.root ∙ rw (z, e) A.root;
        next = S.next ∙ A.next;
        large = S.large ∙ A.large;
        small = S.small;
        most = omega (arith, S.next, A.most);
        below = A.below;
      }
      go (inr e) = let z = nd false e in record {
        links = S.links ∙ rw (z, e) (ap (λ (x : ℕ). set row (x + 1) v) A.root ∙ ap (set row (b.root + 1)) A.node
            ∙ last_link b.links b.root b.node row₀ row A.links);
        stands = A.stands;
        root = S.root ∙ rw (z, e) A.node;
        next = S.next ∙ A.next;
        large = S.large ∙ A.large;
        small = S.small;
        most = omega (arith, S.next, A.most);
        below = A.below;
      }

-- ---- a sample

pub lays_leaf : (x : ℕ) (kept : Kept) (marks : List Standing) (kept' : Kept) (marks' : List Standing) (row : List ℕ) → Takes x kept marks kept' marks'
    → x < sample_bound → kept.next ≤ table_words → Lays (leaf x) kept row marks kept' row marks'
unfolding grow samples sets tally least weigh
lays_leaf x kept marks kept' marks' row T h k = record {
  links = refl;
  stands = T.stands;
  root = T.root;
  next = T.next;
  large = T.large;
  small = omega (arith, T.root, h);
  most = omega (arith, T.next);
  below =
      λ y i. ⊎_elim (λ e. omega (arith, eqb-true y x e, h)) (λ e. absurd (omega (arith, rw e at i))) (decide (eqb y x));
}

-- ---- the sizes

pub lays_lent : (t : Tree) (c : Kept) (row : List ℕ) (marks : List Standing) (g : Kept) (row' : List ℕ) (marks' : List Standing)
    → length row ≡ table_words → length marks ≡ most_samples → Lays t c row marks g row' marks'
    → (length row' ≡ table_words) × (length marks' ≡ most_samples)
lays_lent t c row marks g row' marks' e f L = (
  ap length L.links ∙ length_links (grow t c.next).links row ∙ e,
  ap length L.stands ∙ length_tally (samples t) marks ∙ f,
)

pub along_lent : (h : Held) (c : Kept) (row₀ : List ℕ) (marks₀ : List Standing) (v : ℕ) (d : Kept) (row : List ℕ) (marks : List Standing)
    → length row₀ ≡ table_words → length marks₀ ≡ most_samples → Along h c row₀ marks₀ v d row marks
    → (length row ≡ table_words) × (length marks ≡ most_samples)
along_lent h c row₀ marks₀ v d row marks e f A = (
  ap length A.links ∙ length_links (spread_held h c.next).links row₀ ∙ e,
  ap length A.stands ∙ length_tally (samples_held h) marks₀ ∙ f,
)
