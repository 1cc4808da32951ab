-- Groups by their samples: equality is decided, one group within another, sizes, single samples, the whole, and that these are trivial.
-- Assumes nothing.
use Rattle.trees.specs.Groups.{under, over, aside}
use Rattle.trees.specs.Groups.{Within, Apart, Agree}
use Rattle.std.specs.Prelude.{ℕ, zero, suc, ◌≤◌, ◌<◌, ◌≡◌, refl, ◌↔◌, ◌⊎◌, [], ◌∷◌, Bool, true, false, ◌&&◌, ◌||◌, not, eqb, length}
use Rattle.std.proofs.Common.{zero-le, suc-le-suc, sym, ap, ◌∙◌, inl, inr, ⊎_elim, le_of_suc-le-suc, zero-add, arith, ext_get_or, eqb-true, eq-eqb}
use Rattle.std.proofs.lemmas.Bool.{false≢true, eqb-false, not-true}
use Rattle.std.proofs.Math.Nat.{suc_inj}
use Rattle.std.proofs.lemmas.List.{length-replicate, get_or-replicate}
use Rattle.trees.specs.Groups.{Group, has, whole, single, size, lowest, trivial, within, apart, agree, conflict, same}
use Rattle.trees.proofs.BoolLaws.{and_l, and_r, and_both, or_cases, or_l, or_r, not_yes}
use Rattle.trees.proofs.ListLaws.{length_tabulate, get_d_tabulate}

-- ---- `same` decides equality

pub same_refl : (g : Group) → same g g ≡ true
unfolding same
same_refl [] = refl
same_refl (true ∷ g) = same_refl g
same_refl (false ∷ g) = same_refl g

pub same_eq : (g h : Group) → same g h ≡ true → g ≡ h
unfolding same
same_eq [] [] e = refl
same_eq [] (y ∷ h) e = cc
same_eq (x ∷ g) [] e = cc
same_eq (true ∷ g) (true ∷ h) e = cc (same_eq g h e)
same_eq (true ∷ g) (false ∷ h) e = cc
same_eq (false ∷ g) (true ∷ h) e = cc
same_eq (false ∷ g) (false ∷ h) e = cc (same_eq g h e)

pub eq_same : (g h : Group) → g ≡ h → same g h ≡ true
eq_same g h e = rw e (same_refl h)

-- groups of one length with the same samples are one group
pub group_ext : (g h : Group) → length g ≡ length h → ((s : ℕ) → has g s ≡ has h s) → g ≡ h
group_ext g h l e = ext_get_or false g h l (λ s k. e s)

-- ---- samples

pub has_lt : (g : Group) (s : ℕ) → has g s ≡ true → s < length g
has_lt [] s e = absurd (false≢true e)
has_lt (x ∷ g) zero e = omega arith
has_lt (x ∷ g) (suc s) e = suc-le-suc (has_lt g s e)

-- the smallest sample of a group that is not empty is in it
pub lowest_has : (g : Group) → 0 < size g → has g (lowest g) ≡ true
unfolding size lowest
lowest_has [] z = absurd (omega arith)
lowest_has (true ∷ g) z = refl
lowest_has (false ∷ g) z = lowest_has g z

-- and no sample of it is smaller
pub lowest_least : (g : Group) (s : ℕ) → has g s ≡ true → lowest g ≤ s
unfolding lowest
lowest_least [] s e = zero-le
lowest_least (true ∷ g) s e = zero-le
lowest_least (false ∷ g) zero e = absurd (false≢true e)
lowest_least (false ∷ g) (suc s) e = suc-le-suc (lowest_least g s e)

pub size_one : (g : Group) (s : ℕ) → has g s ≡ true → 1 ≤ size g
unfolding size
size_one [] s e = absurd (false≢true e)
size_one (true ∷ g) s e = omega arith
size_one (false ∷ g) zero e = absurd (false≢true e)
size_one (false ∷ g) (suc s) e = size_one g s e

pub size_two : (g : Group) (s t : ℕ) → has g s ≡ true → has g t ≡ true → (s ≡ t → ⊥) → 2 ≤ size g
unfolding size
size_two [] s t e f d = absurd (false≢true e)
size_two (true ∷ g) zero zero e f d = absurd (d refl)
size_two (true ∷ g) zero (suc t) e f d = suc-le-suc (size_one g t f)
size_two (true ∷ g) (suc s) t e f d = suc-le-suc (size_one g s e)
size_two (false ∷ g) zero t e f d = absurd (false≢true e)
size_two (false ∷ g) (suc s) zero e f d = absurd (false≢true f)
size_two (false ∷ g) (suc s) (suc t) e f d = size_two g s t e f (λ q. d (ap suc q))

-- a group of two has a sample beside any given one
pub another : (g : Group) (s : ℕ) → 2 ≤ size g → (t : ℕ) × (has g t ≡ true) × (t ≡ s → ⊥)
unfolding size
another [] s h = absurd (omega arith)
another (true ∷ g) zero h = (suc (lowest g), lowest_has g (omega arith), λ e. omega arith)
another (true ∷ g) (suc s) h = (0, refl, λ e. omega arith)
another (false ∷ g) zero h = (suc (lowest g), lowest_has g (omega arith), λ e. omega arith)
another (false ∷ g) (suc s) h = let r = another g s h in (suc r.0, r.1, λ e. r.2 (omega arith))

-- a larger group has a sample that a smaller one has not
pub extra : (g h : Group) → size h < size g → (t : ℕ) × (has g t ≡ true) × (has h t ≡ false)
unfolding size
extra [] h l = absurd (omega arith)
extra (true ∷ g) [] l = (0, refl, refl)
extra (false ∷ g) [] l = let r = extra g [] l in (suc r.0, r.1, refl)
extra (true ∷ g) (true ∷ h) l = let r = extra g h (le_of_suc-le-suc l) in (suc r.0, r.1, r.2)
extra (true ∷ g) (false ∷ h) l = (0, refl, refl)
extra (false ∷ g) (true ∷ h) l = let r = extra g h (omega arith) in (suc r.0, r.1, r.2)
extra (false ∷ g) (false ∷ h) l = let r = extra g h l in (suc r.0, r.1, r.2)

-- ---- one group within another

pub within_to : (g h : Group) → within g h ≡ true → Within g h
unfolding within
within_to [] h e s f = absurd (false≢true f)
within_to (x ∷ g) [] e zero f = absurd (false≢true (sym (not-true x (and_l (not x) (within g []) e)) ∙ f))
within_to (x ∷ g) [] e (suc s) f = within_to g [] (and_r (not x) (within g []) e) s f
within_to (x ∷ g) (y ∷ h) e zero f = ⊎_elim (λ q. absurd (false≢true (sym (not-true x q) ∙ f))) (λ q. q)
    (or_cases (not x) y (and_l (not x || y) (within g h) e))
within_to (x ∷ g) (y ∷ h) e (suc s) f = within_to g h (and_r (not x || y) (within g h) e) s f

pub within_from : (g h : Group) → Within g h → within g h ≡ true
unfolding within
within_from [] h f = refl
within_from (x ∷ g) [] f = and_both (not x) (within g []) (ap not (not_yes x (λ e. false≢true (f 0 e)))) (within_from g [] (λ s. f (suc s)))
within_from (x ∷ g) (y ∷ h) f = and_both (not x || y) (within g h) (go x (f 0)) (within_from g h (λ s. f (suc s)))
  where
    go : (z : Bool) → (z ≡ true → y ≡ true) → not z || y ≡ true
    go true k = k refl
    go false k = refl

pub apart_to : (g h : Group) → apart g h ≡ true → Apart g h
unfolding apart
apart_to [] h e s f = absurd (false≢true f)
apart_to (x ∷ g) [] e s f = refl
apart_to (x ∷ g) (y ∷ h) e zero f = not_yes y (λ q. false≢true (sym (not-true (x && y) (and_l (not (x && y)) (apart g h) e)) ∙ and_both x y f q))
apart_to (x ∷ g) (y ∷ h) e (suc s) f = apart_to g h (and_r (not (x && y)) (apart g h) e) s f

pub apart_from : (g h : Group) → Apart g h → apart g h ≡ true
unfolding apart
apart_from [] h f = refl
apart_from (x ∷ g) [] f = refl
apart_from (x ∷ g) (y ∷ h) f = and_both (not (x && y)) (apart g h)
    (ap not (not_yes (x && y) (λ e. false≢true (sym (f 0 (and_l x y e)) ∙ and_r x y e)))) (apart_from g h (λ s. f (suc s)))

pub within_size : (g h : Group) → Within g h → size g ≤ size h
unfolding size
within_size [] h f = zero-le
within_size (true ∷ g) [] f = absurd (false≢true (f 0 refl))
within_size (false ∷ g) [] f = within_size g [] (λ s. f (suc s))
within_size (true ∷ g) (true ∷ h) f = suc-le-suc (within_size g h (λ s. f (suc s)))
within_size (true ∷ g) (false ∷ h) f = absurd (false≢true (f 0 refl))
within_size (false ∷ g) (true ∷ h) f = omega (arith, within_size g h (λ s. f (suc s)))
within_size (false ∷ g) (false ∷ h) f = within_size g h (λ s. f (suc s))

-- a group within another of its length and of no greater size is that other
pub within_eq : (g h : Group) → length g ≡ length h → Within g h → size h ≤ size g → g ≡ h
unfolding size
within_eq [] [] l f z = refl
within_eq [] (y ∷ h) l f z = absurd (omega arith)
within_eq (x ∷ g) [] l f z = absurd (omega arith)
within_eq (true ∷ g) (true ∷ h) l f z = cc (within_eq g h (suc_inj l) (λ s. f (suc s)) (le_of_suc-le-suc z))
within_eq (true ∷ g) (false ∷ h) l f z = absurd (false≢true (f 0 refl))
within_eq (false ∷ g) (true ∷ h) l f z = absurd (omega (arith, within_size g h (λ s. f (suc s))))
within_eq (false ∷ g) (false ∷ h) l f z = cc (within_eq g h (suc_inj l) (λ s. f (suc s)) z)

-- ---- groups that agree

pub agree_to : (g h : Group) → agree g h ≡ true → Agree g h
agree_to g h e = ⊎_elim (λ q. ⊎_elim (λ p. under (within_to g h p)) (λ p. over (within_to h g p)) (or_cases (within g h) (within h g) q))
    (λ q. aside (apart_to g h q)) (or_cases (within g h || within h g) (apart g h) e)

pub agree_from : (g h : Group) → Agree g h → agree g h ≡ true
agree_from g h (under f) = or_l (within g h || within h g) (apart g h) (or_l (within g h) (within h g) (within_from g h f))
agree_from g h (over f) = or_l (within g h || within h g) (apart g h) (or_r (within g h) (within h g) (within_from h g f))
agree_from g h (aside f) = or_r (within g h || within h g) (apart g h) (apart_from g h f)

-- conflict is exactly that they do not agree
pub conflict_to : (g h : Group) → conflict g h ≡ true → Agree g h → ⊥
conflict_to g h e a = false≢true (sym (not-true (agree g h) e) ∙ agree_from g h a)

pub conflict_from : (g h : Group) → (Agree g h → ⊥) → conflict g h ≡ true
conflict_from g h f = ap not (not_yes (agree g h) (λ e. f (agree_to g h e)))

-- ---- the whole

pub has_whole : (n s : ℕ) → s < n → has (whole n) s ≡ true
has_whole n s h = get_or-replicate n s true false h

pub size_whole : (n : ℕ) → size (whole n) ≡ n
unfolding size
size_whole zero = refl
size_whole (suc n) = ap suc (size_whole n)

pub within_whole : (n : ℕ) (g : Group) → length g ≡ n → Within g (whole n)
within_whole n g l s e = has_whole n s (omega (arith, has_lt g s e))

-- a group with as many samples as its length is the whole
pub size_all : (n : ℕ) (g : Group) → length g ≡ n → n ≤ size g → g ≡ whole n
size_all n g l z = within_eq g (whole n) (l ∙ sym (length-replicate n true)) (within_whole n g l) (rw size_whole z)

-- ---- single samples

pub has_single : (n s t : ℕ) → t < n → has (single n s) t ≡ eqb t s
has_single n s t h = get_d_tabulate n (λ u. eqb u s) 0 t false h ∙ ap (λ (u : ℕ). eqb u s) (zero-add t)

pub single_has : (n s t : ℕ) → has (single n s) t ≡ true → t ≡ s
single_has n s t e = eqb-true t s (sym (has_single n s t (omega (arith, has_lt (single n s) t e, length_tabulate n (λ u. eqb u s) 0))) ∙ e)

pub single_small : (n s : ℕ) → size (single n s) ≤ 1
single_small n s = go (size (single n s)) refl
  where
    go : (k : ℕ) → size (single n s) ≡ k → k ≤ 1
    go zero q = zero-le
    go (suc zero) q = omega arith
    go (suc (suc k)) q = let t = another (single n s) s (omega arith) in absurd (t.2 (single_has n s t.0 t.1))

pub single_own : (n s : ℕ) → s < n → has (single n s) s ≡ true
single_own n s h = has_single n s s h ∙ eq-eqb s s refl

-- a group of one sample is that sample's
pub size_single : (n : ℕ) (g : Group) → length g ≡ n → size g ≡ 1 → g ≡ single n (lowest g)
size_single n g l z = within_eq g (single n (lowest g)) (l ∙ sym (length_tabulate n (λ u. eqb u (lowest g)) 0)) inside
    (omega (arith, single_small n (lowest g)))
  where
    inside : Within g (single n (lowest g))
    inside s e = has_single n (lowest g) s (omega (arith, has_lt g s e)) ∙ one (eqb s (lowest g)) refl
      where
        one : (b : Bool) → eqb s (lowest g) ≡ b → b ≡ true
        one true q = refl
        one false q = absurd (omega (arith, size_two g s (lowest g) e (lowest_has g (omega arith)) (eqb-false s (lowest g) q)))

-- ---- the trivial groups

-- exactly the single samples and the whole (RULES 3.3)
pub trivial_exactly : (n : ℕ) (g : Group) → length g ≡ n → (trivial g ≡ true) ↔ (((s : ℕ) × (s < n) × (g ≡ single n s)) ⊎ (g ≡ whole n))
trivial_exactly n g l = (λ e. to (or_cases (eqb (size g) 1) (eqb (size g) (length g)) e), from)
  where
    to : (eqb (size g) 1 ≡ true) ⊎ (eqb (size g) (length g) ≡ true) → ((s : ℕ) × (s < n) × (g ≡ single n s)) ⊎ (g ≡ whole n)
    to (inl e) = let z = eqb-true (size g) 1 e in inl (lowest g, omega (arith, has_lt g (lowest g) (lowest_has g (omega arith))), size_single n g l z)
    to (inr e) = inr (size_all n g l (omega (arith, eqb-true (size g) (length g) e)))

    from : ((s : ℕ) × (s < n) × (g ≡ single n s)) ⊎ (g ≡ whole n) → trivial g ≡ true
    from (inl t) =
        let o = size_one (single n t.0) t.0 (single_own n t.0 t.1) in
        or_l (eqb (size g) 1) (eqb (size g) (length g)) (eq-eqb (size g) 1 (omega (arith, ap size t.2, single_small n t.0)))
    from (inr e) = or_r (eqb (size g) 1) (eqb (size g) (length g)) (eq-eqb (size g) (length g) (ap size e ∙ size_whole n ∙ sym l))
