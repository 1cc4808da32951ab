-- What a climb does to a table at each step, and what the climbs from all samples have gathered. Assumes nothing.
use Prim.Native.Nat.{ℕ, suc, ◌+◌, ◌-◌, ◌≤◌, ◌<◌, zero-le}
use Rattle.std.specs.Prelude.{◌≡◌, refl, ◌⊎◌, List, ◌∷◌, Bool, true, false, not, cond, eqb, length, set, replicate}
use Rattle.std.proofs.Common.{sym, ap, ◌∙◌, inl, inr, ⊎_elim, add-zero, add-one, arith, length-set, get_or-set_same, get_or-set_other, eqb-true, eq-eqb, ne_eqb}
use Rattle.std.proofs.lemmas.Bool.{false≢true, eqb-false, not-true}
use Rattle.std.proofs.Math.Nat.{sub_self, sub-zero}
use Rattle.std.proofs.Math.ListN.{get_or, length-replicate}
use Rattle.std.proofs.lemmas.List.{get_or-replicate}
use Rattle.trees.specs.Lists.{tabulate, range, count}
use Rattle.trees.specs.Groups.{Group, size, lowest}
use Rattle.trees.specs.Rows.{nodes, parent, root_mark, child_of, meets, group_at}
use Rattle.trees.specs.Valid.{Valid}
use Rattle.trees.specs.Tables.{table_words, rank_in}
use Rattle.trees.specs.Renaming.{node_rank}
use Rattle.trees.specs.Measuring.{on_way, group_from, TablesFrom}
use Rattle.trees.proofs.BoolLaws.{and_l, and_r, true_eq, not_yes, decide}
use Rattle.trees.proofs.ListLaws.{length_tabulate, range_in, weigh_one, weigh_apart}
use Rattle.trees.proofs.WayLaws.{here, up, met_to, meets_refl, meets_more, no_loop}
use Rattle.trees.proofs.RowLaws.{length_group, no_mark, above_child, parent_range, valid_rooted}
use Rattle.trees.proofs.TableLaws.{size_length}

no_larger : {n : ℕ} (g : Group) → length g ≡ n → size g ≤ n
no_larger g l = omega (arith, size_length g)

-- ---- the way up, one step shorter

module _ (n : ℕ) (r : List ℕ) (ok : Valid n r) (x : ℕ) (h : x < nodes r) where
  not_mark : eqb x root_mark ≡ false
  not_mark = no_mark n r (valid_rooted n r ok) x h

  pub way_here : on_way r x x ≡ true
  way_here = rw (not_mark, meets_refl r (nodes r) x)

  pub way_past : on_way r x (parent r x) ≡ false
  way_past = not_yes _ (λ e. let p = not-true (child_of r root_mark x) (and_l (not (child_of r root_mark x)) (meets (nodes r) r x (parent r x)) e) in
      no_loop r (suc (nodes r)) (nodes r) (nodes r) x (parent r x) (omega arith) (and_r (not (child_of r root_mark x)) _ e) refl p
      (ok.reach (parent r x) (parent_range n r ok x h p).1))

  pub way_other : (v : ℕ) → (v ≡ x → ⊥) → on_way r v (parent r x) ≡ on_way r v x
  way_other v d = rw not_mark (true_eq _ _ longer shorter)
    where
      longer : on_way r v (parent r x) ≡ true → meets (nodes r) r v x ≡ true
      longer e = above_child n r (valid_rooted n r ok) v x h (not-true _ (and_l (not (child_of r root_mark x)) (meets (nodes r) r v (parent r x)) e))
          (and_r (not (child_of r root_mark x)) _ e)

      shorter : meets (nodes r) r v x ≡ true → on_way r v (parent r x) ≡ true
      shorter m = elim (met_to r (nodes r) v x (meets_more r (nodes r) (suc (nodes r)) v x (omega arith) m))
          [ here e ↦ absurd (d (sym e)) | up e q ↦ rw (e, q) ]

-- how many nodes are on the way from x on
pub steps : List ℕ → ℕ → ℕ
steps r x = count (λ v. on_way r v x) (range 0 (nodes r))

pub steps_fall : (n : ℕ) (r : List ℕ) (ok : Valid n r) (x : ℕ) → x < nodes r → steps r (parent r x) < steps r x
unfolding steps
steps_fall n r ok x h = omega (
  arith,
  weigh_one (λ v. 1) (λ v. eqb v x) (range 0 (nodes r)) x (range_in 0 (nodes r) x zero-le h) (eq-eqb x x refl),
  weigh_apart (λ v. 1) (λ v. on_way r v (parent r x)) (λ v. eqb v x) (λ v. on_way r v x) (range 0 (nodes r))
      (λ v m e. let d : v ≡ x → ⊥ = (λ q. false≢true (sym (way_past n r ok x h) ∙ (rw q at e))) in (sym (way_other n r ok x h v d) ∙ e, ne_eqb v x d))
      (λ v m e. rw (eqb-true v x e) (way_here n r ok x h)),
)

-- ---- a table on a climb

-- f is put at each node on the way from s to before x: with the rest of the way it is put at each of the whole way
pub record Climbed (f : ℕ → ℕ) (r : List ℕ) (s x : ℕ) (t₀ t : List ℕ) : Type 0 where
  pub with_rest : (v : ℕ) → v < nodes r → cond (on_way r v x) (f (get_or t v 0)) (get_or t v 0) ≡ cond (on_way r v s) (f (get_or t₀ v 0)) (get_or t₀ v 0)

climb_start : (f : ℕ → ℕ) (r : List ℕ) (s : ℕ) (t : List ℕ) → Climbed f r s s t t
climb_start f r s t = record { with_rest = λ v h. refl }

module _ (n : ℕ) (r : List ℕ) (ok : Valid n r) (f : ℕ → ℕ) (s x : ℕ) (t₀ t : List ℕ) (so_far : Climbed f r s x t₀ t) where
  climb_step : x < nodes r → x < length t → Climbed f r s (parent r x) t₀ (set t x (f (get_or t x 0)))
  climb_step h l = record { with_rest = λ v k. go v k (decide (eqb v x)) }
    where
      u : List ℕ
      u = set t x (f (get_or t x 0))

      go : (v : ℕ) → v < nodes r → (eqb v x ≡ true) ⊎ (eqb v x ≡ false)
          → cond (on_way r v (parent r x)) (f (get_or u v 0)) (get_or u v 0) ≡ cond (on_way r v s) (f (get_or t₀ v 0)) (get_or t₀ v 0)
      go v k (inl e) = rw (eqb-true v x e, way_past n r ok x h, get_or-set_same t x (f (get_or t x 0)) 0 l) (rw (way_here n r ok x h) at (so_far.with_rest x h))
      go v k (inr e) = let d = eqb-false v x e in rw (way_other n r ok x h v d, get_or-set_other t x v (f (get_or t x 0)) 0 d) (so_far.with_rest v k)

  climb_here : x < nodes r → f (get_or t x 0) ≡ cond (on_way r x s) (f (get_or t₀ x 0)) (get_or t₀ x 0)
  climb_here h = rw (way_here n r ok x h) at (so_far.with_rest x h)

  climb_end : x ≡ root_mark → s < nodes r → (v : ℕ) → v < nodes r → get_or t v 0 ≡ cond (meets (nodes r) r v s) (f (get_or t₀ v 0)) (get_or t₀ v 0)
  climb_end e h v k = rw (e, not_mark n r ok s h) at (so_far.with_rest v k)

-- ---- the tables of sizes and smallest samples

-- on the climb from s, which has come to x: one more at each node passed, and s as its smallest sample
pub record OnClimb (r : List ℕ) (s x : ℕ) (sizes₀ lows₀ sizes lows : List ℕ) : Type 0 where
  pub at_node : (x ≡ root_mark) ⊎ (x < nodes r)
  pub sizes_words : length sizes ≡ table_words
  pub lows_words : length lows ≡ table_words
  pub sized : Climbed (λ k. k + 1) r s x sizes₀ sizes
  pub lowest-at : Climbed (λ k. s) r s x lows₀ lows

group_cons : (n : ℕ) (r : List ℕ) (s v : ℕ) → s < n → group_from n r s v ≡ meets (nodes r) r v s ∷ group_from n r (suc s) v
unfolding group_from tabulate
group_cons n r s v h = let e : n - s ≡ suc (n - suc s) = omega arith in rw e

size_cons : (b : Bool) (g : Group) → size (b ∷ g) ≡ cond b (size g + 1) (size g)
unfolding size
size_cons true g = omega arith
size_cons false g = refl

lowest_cons : (s : ℕ) (b : Bool) (g : Group) → s + lowest (b ∷ g) ≡ cond b s (suc s + lowest g)
unfolding lowest
lowest_cons s true g = omega arith
lowest_cons s false g = omega arith

module _ (n : ℕ) (r : List ℕ) (ok : Valid n r) where
  -- before the first climb no node has a sample
  pub tables_none : TablesFrom n r n (replicate table_words 0) (replicate table_words n)
  unfolding group_from tabulate size lowest
  tables_none = record {
    sizes_words = length-replicate {A = ℕ} table_words 0;
    lows_words = length-replicate table_words n;
    sized = record { is = λ v a h. rw sub_self (get_or-replicate {A = ℕ} table_words v 0 0 (omega (arith, ok.high, ok.most))) };
    lowest-at = record { is = λ v a h. rw (sub_self, add-zero) (get_or-replicate table_words v n 0 (omega (arith, ok.high, ok.most))) };
  }

  -- ---- one climb

  pub climbing_start : (s : ℕ) (sizes lows : List ℕ) → s < n → TablesFrom n r (s + 1) sizes lows → OnClimb r s s sizes lows sizes lows
  climbing_start s sizes lows h so_far = record {
    at_node = inr (omega (arith, ok.low));
    sizes_words = so_far.sizes_words;
    lows_words = so_far.lows_words;
    sized = climb_start (λ k. k + 1) r s sizes;
    lowest-at = climb_start (λ k. s) r s lows;
  }

  module _ (s x : ℕ) (sizes₀ lows₀ sizes lows : List ℕ) (on : OnClimb r s x sizes₀ lows₀ sizes lows) where
    pub climbing_step : x < nodes r → OnClimb r s (parent r x) sizes₀ lows₀ (set sizes x (get_or sizes x 0 + 1)) (set lows x s)
    climbing_step h = record {
      at_node = ⊎_elim (λ e. inl (eqb-true _ _ e)) (λ e. inr (parent_range n r ok x h e).1) (decide (child_of r root_mark x));
      sizes_words = length-set sizes x (get_or sizes x 0 + 1) ∙ on.sizes_words;
      lows_words = length-set lows x s ∙ on.lows_words;
      sized = climb_step n r ok (λ k. k + 1) s x sizes₀ sizes on.sized h (omega (arith, on.sizes_words, ok.high, ok.most));
      lowest-at = climb_step n r ok (λ k. s) s x lows₀ lows on.lowest-at h (omega (arith, on.lows_words, ok.high, ok.most));
    }

    module _ (so_far : TablesFrom n r (s + 1) sizes₀ lows₀) where
      -- no size is beyond n
      pub climbing_room : x < nodes r → get_or sizes x 0 ≤ n
      unfolding group_from
      climbing_room h = go (on_way r x s) (climb_here n r ok (λ k. k + 1) s x sizes₀ sizes on.sized h)
        where
          few : get_or sizes₀ x 0 ≤ n - (s + 1)
          few = rw (so_far.sized.is x zero-le h) (no_larger _ (length_tabulate (n - (s + 1)) _ (s + 1)))

          go : (b : Bool) → get_or sizes x 0 + 1 ≡ cond b (get_or sizes₀ x 0 + 1) (get_or sizes₀ x 0) → get_or sizes x 0 ≤ n
          go true e = omega (arith, few)
          go false e = omega (arith, few)

      pub climbing_end : s < n → x ≡ root_mark → TablesFrom n r s sizes lows
      climbing_end h e = let l : s < nodes r = omega (arith, ok.low) in record {
        sizes_words = on.sizes_words;
        lows_words = on.lows_words;
        sized = record {
          is = λ v i k. climb_end n r ok (λ k. k + 1) s x sizes₀ sizes on.sized e l v k
              ∙ rw (so_far.sized.is v i k, add-one s, group_cons n r s v h) (sym (size_cons (meets (nodes r) r v s) (group_from n r (suc s) v)));
        };
        lowest-at = record {
          is = λ v i k. climb_end n r ok (λ k. s) s x lows₀ lows on.lowest-at e l v k
              ∙ rw (so_far.lowest-at.is v i k, add-one s, group_cons n r s v h) (sym (lowest_cons s (meets (nodes r) r v s) (group_from n r (suc s) v)));
        };
      }

  -- ---- all climbs

  group_all : (v : ℕ) → group_from n r 0 v ≡ group_at n r v
  unfolding group_from group_at
  group_all v = rw sub-zero

  -- after the climb from the first sample the tables give sizes and ranks
  module _ (sizes lows : List ℕ) (all : TablesFrom n r 0 sizes lows) (v : ℕ) (h : v < nodes r) where
    pub tables_size : get_or sizes v 0 ≡ size (group_at n r v)
    tables_size = all.sized.is v zero-le h ∙ ap size (group_all v)

    pub tables_few : get_or sizes v 0 ≤ n
    tables_few = rw tables_size (no_larger (group_at n r v) (length_group n r v))

    pub tables_rank : rank_in n sizes lows v ≡ node_rank n r v
    tables_rank = rw tables_size (omega (arith, all.lowest-at.is v zero-le h, ap lowest (group_all v)))
