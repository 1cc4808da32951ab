-- Runs of bytes, and the reading byte by byte and over a run. Assumes nothing.
use Rattle.std.specs.Prelude.{ℕ, zero, suc, ◌+◌, ◌≤◌, ◌<◌, max, ◌≡◌, refl, Bool, true, false, List, [], ◌∷◌, length, drop, get_or, ltb}
use Rattle.std.proofs.Common.{add-zero, add-suc, suc-add, add-one, arith, sym, ap, ◌∙◌, ⊎_elim, drop_of_length-le, length-drop, drop-cons, drop-drop, get_or-drop, ltb-true, ltb-false}
use Rattle.std.proofs.lemmas.Bool.{false≢true}
use Rattle.trees.proofs.BoolLaws.{decide}
use Rattle.newick.specs.Lead.{lead, one_more}
use Rattle.newick.specs.Bytes.{kind_of}
use Rattle.newick.specs.Walk.{State, walk, final, step}
use Rattle.newick.specs.Walk.Move.{stuck, to}
use Rattle.newick.specs.Walk.Parse.{stops}
use Rattle.scan.specs.Scanning.{past, Skipping, from}

-- ---- the byte at a place

pub look_past : (l : List ℕ) (p : ℕ) → length l ≤ p → ◌≡◌ {A = ℕ} 0 (get_or l p 0)
look_past l p h = sym (past_it l p h)
  where
    past_it : (l : List ℕ) (p : ℕ) → length l ≤ p → get_or l p 0 ≡ 0
    past_it [] p h = refl
    past_it (x ∷ l) zero h = absurd (omega arith)
    past_it (x ∷ l) (suc p) h = past_it l p (omega arith)

-- a byte that passes a test which 0 does not, and one that is not 0, stand within the text
pub passes_within : (t : ℕ → Bool) (l : List ℕ) (p : ℕ) → t 0 ≡ false → t (get_or l p 0) ≡ true → p < length l
passes_within t l p z e = ⊎_elim (ltb-true p (length l))
    (λ q. absurd (false≢true (sym z ∙ ap t (look_past l p (ltb-false p (length l) q)) ∙ e))) (decide (ltb p (length l)))

pub look_within : (l : List ℕ) (p b : ℕ) → get_or l p 0 ≡ b → 0 < b → p < length l
look_within l p b e h = ⊎_elim (ltb-true p (length l))
    (λ q. absurd (omega (arith, look_past l p (ltb-false p (length l) q), e))) (decide (ltb p (length l)))

-- ---- runs

past_end : (t : ℕ → Bool) (l : List ℕ) (p : ℕ) → length l ≤ p → past t l p ≡ p
unfolding lead
past_end t l p h = rw (drop_of_length-le l h) (add-zero p)

pub past_stop : (t : ℕ → Bool) (l : List ℕ) (p : ℕ) → t (get_or l p 0) ≡ false → past t l p ≡ p
unfolding lead
past_stop t l p e = ⊎_elim (λ q. rw (drop-cons l p 0 (ltb-true p (length l) q), e) (add-zero p))
    (λ q. past_end t l p (ltb-false p (length l) q)) (decide (ltb p (length l)))

pub past_more : (t : ℕ → Bool) (l : List ℕ) (p : ℕ) → p < length l → t (get_or l p 0) ≡ true → past t l p ≡ past t l (p + 1)
unfolding lead
past_more t l p h e = rw (drop-cons l p 0 h, e, add-one p) (add-suc p (lead t (drop (suc p) l)) ∙ sym (suc-add p (lead t (drop (suc p) l))))

lead_most : (t : ℕ → Bool) (m : List ℕ) → lead t m ≤ length m
unfolding lead
lead_most t [] = omega arith
lead_most t (b ∷ m) = go (t b) (lead_most t m)
  where
    go : (x : Bool) → lead t m ≤ length m → one_more x (lead t m) ≤ suc (length m)
    go true h = omega (arith, h)
    go false h = omega arith

pub past_within : (t : ℕ → Bool) (l : List ℕ) (p : ℕ) → p ≤ length l → past t l p ≤ length l
past_within t l p h = omega (arith, lead_most t (drop p l), length-drop p l)

-- the byte past a run does not pass the test
lead_next : (t : ℕ → Bool) (m : List ℕ) → lead t m < length m → t (get_or m (lead t m) 0) ≡ false
unfolding lead
lead_next t [] h = absurd (omega arith)
lead_next t (b ∷ m) h = go (t b) refl (lead_next t m) h
  where
    go : (x : Bool) → t b ≡ x → (lead t m < length m → t (get_or m (lead t m) 0) ≡ false) → one_more x (lead t m) < suc (length m)
        → t (get_or (b ∷ m) (one_more x (lead t m)) 0) ≡ false
    go true e f i = f (omega arith)
    go false e f i = e

pub past_next : (t : ℕ → Bool) (l : List ℕ) (p a : ℕ) → a ≡ past t l p → a < length l → t (get_or l a 0) ≡ false
past_next t l p a e = rw e (λ h. rw⁻¹ (get_or-drop p l (lead t (drop p l)) 0) (lead_next t (drop p l) (omega (arith, length-drop p l))))

-- ---- a run that is passed by

pub skip_start : (t : ℕ → Bool) (l : List ℕ) (p : ℕ) → Skipping t l p p
skip_start t l p = record { same = refl }

module _ (t : ℕ → Bool) (l : List ℕ) (p i : ℕ) (s : Skipping t l p i) where
  -- at a byte that passes, at one that does not, and at the end
  pub skip_on : i < length l → true ≡ t (get_or l i 0) → Skipping t l p (i + 1)
  skip_on h e = record { same = s.same ∙ past_more t l i h (sym e) }

  pub skip_end : false ≡ t (get_or l i 0) → i ≡ past t l p
  skip_end e = sym (s.same ∙ past_stop t l i (sym e))

  pub skip_past : length l ≤ i → i ≡ past t l p
  skip_past h = sym (s.same ∙ past_end t l i h)

  -- where a range over the text ends
  pub skip_all : length l ≤ i → (p ≤ length l → i ≤ length l) → max p (length l) ≡ past t l p
  skip_all h k = ⊎_elim
      (λ q. let w = ltb-true p (length l) q in
      let e : max p (length l) ≡ i = omega arith in e ∙ skip_past h)
      (λ q. let w = ltb-false p (length l) q in
      let e : max p (length l) ≡ p = omega arith in e ∙ sym (past_end t l p w)) (decide (ltb p (length l)))

-- ---- the reading

-- one byte of it
pub from_to : (l : List ℕ) (p : ℕ) (s s' : State) → p < length l → step s (kind_of (get_or l p 0)) ≡ to s' → from l p s ≡ from l (p + 1) s'
unfolding walk
from_to l p s s' h e = rw (drop-cons l p 0 h, e, add-one p)

pub from_stuck : (l : List ℕ) (p : ℕ) (s : State) → p < length l → step s (kind_of (get_or l p 0)) ≡ stuck → from l p s ≡ stops p
unfolding walk
from_stuck l p s h e = rw (drop-cons l p 0 h, e)

pub from_end : (l : List ℕ) (p : ℕ) (s : State) → length l ≤ p → from l p s ≡ final s p
unfolding walk
from_end l p s h = rw (drop_of_length-le l h)

-- two states that have the same move at the byte of a place go on alike
pub from_same : (l : List ℕ) (p : ℕ) (s s' : State) → (p < length l → step s (kind_of (get_or l p 0)) ≡ step s' (kind_of (get_or l p 0)))
    → final s p ≡ final s' p → from l p s ≡ from l p s'
unfolding walk
from_same l p s s' f e = ⊎_elim (λ q. let h = ltb-true p (length l) q in rw (drop-cons l p 0 h, f h))
    (λ q. let h = ltb-false p (length l) q in from_end l p s h ∙ e ∙ sym (from_end l p s' h)) (decide (ltb p (length l)))

-- a place at which a state has no move
pub from_stops : (l : List ℕ) (p : ℕ) (s : State) → (p < length l → step s (kind_of (get_or l p 0)) ≡ stuck) → final s p ≡ stops p
    → from l p s ≡ stops p
from_stops l p s f e = ⊎_elim (λ q. let h = ltb-true p (length l) q in
    from_stuck l p s h (f h)) (λ q. from_end l p s (ltb-false p (length l) q) ∙ e) (decide (ltb p (length l)))

-- a run of bytes at which a state stays
walk_run : (t : ℕ → Bool) (s : State) → ((b : ℕ) → t b ≡ true → step s (kind_of b) ≡ to s) → (m : List ℕ) (p : ℕ)
    → walk s p m ≡ walk s (p + lead t m) (drop (lead t m) m)
unfolding lead walk
walk_run t s f [] p = rw (add-zero p)
walk_run t s f (b ∷ m) p = go (t b) refl (walk_run t s f m (suc p))
  where
    go : (x : Bool) → t b ≡ x → walk s (suc p) m ≡ walk s (suc p + lead t m) (drop (lead t m) m)
        → walk s p (b ∷ m) ≡ walk s (p + one_more x (lead t m)) (drop (one_more x (lead t m)) (b ∷ m))
    go true e h = rw (f b e, add-suc p (lead t m), sym (suc-add p (lead t m))) h
    go false e h = rw (add-zero p)

pub from_run : (t : ℕ → Bool) (l : List ℕ) (p : ℕ) (s : State) → ((b : ℕ) → t b ≡ true → step s (kind_of b) ≡ to s)
    → from l p s ≡ from l (past t l p) s
from_run t l p s f = walk_run t s f (drop p l) p ∙ ap (walk s (past t l p)) (drop-drop (lead t (drop p l)) p l)
