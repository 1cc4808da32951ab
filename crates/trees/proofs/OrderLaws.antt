-- `before` is a strict total order of all groups, and of groups that agree it is that of RULES 4.1. Assumes nothing.
use Rattle.std.specs.Prelude.{ℕ, suc, ◌≤◌, ◌<◌, ◌≡◌, refl, ◌↔◌, ◌⊎◌, [], ◌∷◌, Bool, true, false, ◌&&◌, ◌||◌, eqb, ltb, length}
use Rattle.std.proofs.Common.{sym, ap, ◌∙◌, inl, inr, ⊎_elim, true≢false, eq-or-lt_of_le, arith, ltb-true, ltb-false, eqb-true, lt-ltb, le-ltb, eq-eqb}
use Rattle.std.proofs.lemmas.Bool.{false≢true}
use Rattle.std.proofs.Math.Dec.{leb-suc-suc}
use Rattle.trees.specs.Groups.{Group, has, size, lowest, list_first, before}
use Rattle.trees.proofs.BoolLaws.{and_l, and_r, and_both, or_cases, or_r, not_yes}
use Rattle.trees.proofs.GroupLaws.{within_eq}
use Rattle.trees.specs.Groups.{under, over, aside}
use Rattle.trees.specs.Groups.{Apart, Agree}

-- ---- sample lists

list_irrefl : (g : Group) → list_first g g ≡ false
unfolding list_first
list_irrefl [] = refl
list_irrefl (true ∷ g) = list_irrefl g
list_irrefl (false ∷ g) = list_irrefl g

list_trans : (g h k : Group) → list_first g h ≡ true → list_first h k ≡ true → list_first g k ≡ true
unfolding list_first
list_trans [] [] k p q = cc
list_trans [] (y ∷ h) [] p q = q
list_trans [] (y ∷ h) (z ∷ k) p q = refl
list_trans (x ∷ g) [] k p q = cc
list_trans (x ∷ g) (y ∷ h) [] p q = cc
list_trans (true ∷ g) (true ∷ h) (true ∷ k) p q = list_trans g h k p q
list_trans (true ∷ g) (true ∷ h) (false ∷ k) p q = refl
list_trans (true ∷ g) (false ∷ h) (true ∷ k) p q = cc
list_trans (true ∷ g) (false ∷ h) (false ∷ k) p q = refl
list_trans (false ∷ g) (true ∷ h) (z ∷ k) p q = cc
list_trans (false ∷ g) (false ∷ h) (true ∷ k) p q = q
list_trans (false ∷ g) (false ∷ h) (false ∷ k) p q = list_trans g h k p q

data Lists (g h : Group) : Type 0 where
  first : list_first g h ≡ true → Lists g h
  equal : g ≡ h → Lists g h
  later : list_first h g ≡ true → Lists g h

lists : (g h : Group) → Lists g h
unfolding list_first
lists [] [] = Lists.equal refl
lists [] (y ∷ h) = Lists.first refl
lists (x ∷ g) [] = Lists.later refl
lists (true ∷ g) (false ∷ h) = Lists.first refl
lists (false ∷ g) (true ∷ h) = Lists.later refl
lists (true ∷ g) (true ∷ h) = elim (lists g h) [
  | Lists.first e ↦ Lists.first e
  | Lists.equal e ↦ Lists.equal
      (ap (λ (l : Group). true ∷ l) e)
  | Lists.later e ↦ Lists.later e
]
lists (false ∷ g) (false ∷ h) = elim (lists g h) [
  | Lists.first e ↦ Lists.first e
  | Lists.equal e ↦ Lists.equal
      (ap (λ (l : Group). false ∷ l) e)
  | Lists.later e ↦ Lists.later e
]

-- ---- by size, then by list

data Before (g h : Group) : Type 0 where
  larger : size h < size g → Before g h
  level : size g ≡ size h → list_first g h ≡ true → Before g h

before_to : (g h : Group) → before g h ≡ true → Before g h
unfolding before
before_to g h e = go (or_cases (ltb (size h) (size g)) (eqb (size g) (size h) && list_first g h) e)
  where
    go : (ltb (size h) (size g) ≡ true) ⊎ (eqb (size g) (size h) && list_first g h ≡ true) → Before g h
    go (inl p) = larger (ltb-true _ _ p)
    go (inr q) = level (eqb-true _ _ (and_l _ (list_first g h) q)) (and_r (eqb (size g) (size h)) _ q)

before_from : (g h : Group) → Before g h → before g h ≡ true
unfolding before
before_from g h (larger p) = rw (lt-ltb _ _ p)
before_from g h (level p q) = or_r (ltb (size h) (size g)) (eqb (size g) (size h) && list_first g h) (rw (eq-eqb _ _ p) q)

pub before_larger : (g h : Group) → size h < size g → before g h ≡ true
before_larger g h p = before_from g h (larger p)

pub before_irrefl : (g : Group) → before g g ≡ true → ⊥
before_irrefl g e = elim (before_to g g e) [ larger p ↦ omega arith | level p q ↦ false≢true (sym (list_irrefl g) ∙ q) ]

pub before_trans : (g h k : Group) → before g h ≡ true → before h k ≡ true → before g k ≡ true
before_trans g h k e f = before_from g k (go (before_to g h e) (before_to h k f))
  where
    go : Before g h → Before h k → Before g k
    go (larger p) (larger q) = larger (omega arith)
    go (larger p) (level q r) = larger (omega arith)
    go (level p r) (larger q) = larger (omega arith)
    go (level p r) (level q s) = level (p ∙ q) (list_trans g h k r s)

pub data Order (g h : Group) : Type 0 where
  first : before g h ≡ true → Order g h
  equal : g ≡ h → Order g h
  later : before h g ≡ true → Order g h

-- of any two groups one comes first, or they are one
pub order : (g h : Group) → Order g h
order g h = go (ltb (size h) (size g)) refl (ltb (size g) (size h)) refl (lists g h)
  where
    go : (a : Bool) → ltb (size h) (size g) ≡ a → (b : Bool) → ltb (size g) (size h) ≡ b → Lists g h → Order g h
    go true p b q l = first (before_from g h (larger (ltb-true _ _ p)))
    go false p true q l = later (before_from h g (larger (ltb-true _ _ q)))
    go false p false q (Lists.first e) = first (before_from g h (level (omega (arith, ltb-false)) e))
    go false p false q (Lists.equal e) = equal e
    go false p false q (Lists.later e) = later (before_from h g (level (omega (arith, ltb-false)) e))

pub before_size : (g h : Group) → before g h ≡ true → size h ≤ size g
before_size g h e = elim (before_to g h e) [ larger p ↦ omega arith | level p q ↦ omega arith ]

-- ---- of groups that agree

-- no tie can remain: groups that agree, of one size and not the same, have no sample in common (RULES 4.3)
pub level_apart : (g h : Group) → length g ≡ length h → Agree g h → (g ≡ h → ⊥) → size g ≡ size h → Apart g h
level_apart g h l (under f) x z = absurd (x (within_eq g h l f (omega arith)))
level_apart g h l (over f) x z = absurd (x (sym (within_eq h g (sym l) f (omega arith))))
level_apart g h l (aside f) x z = f

list_lowest : (g h : Group) → Apart g h → 0 < size g → 0 < size h → list_first g h ≡ ltb (lowest g) (lowest h)
unfolding list_first size lowest
list_lowest [] h f a b = absurd (omega arith)
list_lowest (x ∷ g) [] f a b = absurd (omega arith)
list_lowest (true ∷ g) (true ∷ h) f a b = absurd (true≢false (f 0 refl))
list_lowest (true ∷ g) (false ∷ h) f a b = sym (lt-ltb 0 (suc (lowest h)) (omega arith))
list_lowest (false ∷ g) (true ∷ h) f a b = sym (le-ltb (suc (lowest g)) 0 (omega arith))
list_lowest (false ∷ g) (false ∷ h) f a b = list_lowest g h (λ s. f (suc s)) a b ∙ sym (leb-suc-suc (suc (lowest g)) (lowest h))

-- larger groups first, and of one size that with the smaller smallest sample (RULES 4.1)
pub before_falling : (g h : Group) → length g ≡ length h → Agree g h → (g ≡ h → ⊥) → 0 < size g → 0 < size h
    → before g h ≡ (ltb (size h) (size g) || (eqb (size g) (size h) && ltb (lowest g) (lowest h)))
unfolding before
before_falling g h l a x p q = go (eqb (size g) (size h)) refl
  where
    go : (b : Bool) → eqb (size g) (size h) ≡ b → ltb (size h) (size g) || (b && list_first g h) ≡ (ltb (size h) (size g) || (b && ltb (lowest g) (lowest h)))
    go true e = ap (λ (c : Bool). ltb (size h) (size g) || c) (list_lowest g h (level_apart g h l a x (eqb-true _ _ e)) p q)
    go false e = refl

-- larger, or of the same size and with a smaller smallest sample (RULES 4.1)
abbrev pub Earlier : Group → Group → Type 0
Earlier g h = (size h < size g) ⊎ ((size g ≡ size h) × (lowest g < lowest h))

-- of groups that agree `before` is this order
pub before_earlier : (g h : Group) → length g ≡ length h → Agree g h → 0 < size g → 0 < size h → (before g h ≡ true) ↔ Earlier g h
before_earlier g h l a p q = (to, from)
  where
    to : before g h ≡ true → Earlier g h
    to e = ⊎_elim (λ s. inl (ltb-true _ _ s))
        (λ t. inr (eqb-true _ _ (and_l _ (ltb (lowest g) (lowest h)) t), ltb-true _ _ (and_r (eqb (size g) (size h)) _ t)))
        (or_cases (ltb (size h) (size g)) (eqb (size g) (size h) && ltb (lowest g) (lowest h))
        (sym (before_falling g h l a (λ x. before_irrefl h (rw x at e)) p q) ∙ e))

    from : Earlier g h → before g h ≡ true
    from (inl s) = before_larger g h s
    from (inr t) = before_falling g h l a (λ x. omega (arith, ap lowest x, t.1)) p q
        ∙ or_r (ltb (size h) (size g)) (eqb (size g) (size h) && ltb (lowest g) (lowest h)) (and_both _ _ (eq-eqb _ _ t.0) (lt-ltb _ _ t.1))

-- of two groups that agree the earlier holds all of the later, or none of it
pub all_or_none : (g h : Group) → length g ≡ length h → before g h ≡ true → Agree g h → (s t : ℕ) → has h s ≡ true → has h t ≡ true → has g s ≡ has g t
all_or_none g h l b (under f) s t p q = let e : g ≡ h = within_eq g h l f (before_size g h b) in cc
all_or_none g h l b (over f) s t p q = cc (f s p, f t q)
all_or_none g h l b (aside f) s t p q = none s p ∙ sym (none t q)
  where
    none : (u : ℕ) → has h u ≡ true → has g u ≡ false
    none u p = not_yes _ (λ e. false≢true (sym (f u e) ∙ p))

-- of two groups that agree and share a sample the earlier is larger
pub sharing_larger : (g h : Group) → length g ≡ length h → before g h ≡ true → Agree g h → (s : ℕ) → has g s ≡ true → has h s ≡ true → size h < size g
sharing_larger g h l b a s p q = go (eq-or-lt_of_le (before_size g h b))
  where
    go : (size h ≡ size g) ⊎ (size h < size g) → size h < size g
    go (inr z) = z
    go (inl z) = absurd (true≢false (sym q ∙ level_apart g h l a (λ e. before_irrefl h (rw e at b)) (sym z) s p))
