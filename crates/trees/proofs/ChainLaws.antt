-- A chain of checks refuses with a number exactly when its check applies and every check before it passes, for any list of checks. Assumes nothing.
use Rattle.std.specs.Prelude.{ℕ, ◌≡◌, refl, ◌↔◌, List, [], ◌∷◌, ◌++◌, map, Bool, true, false, ◌&&◌, not, eqb}
use Rattle.std.proofs.Common.{sym, ap, ◌∙◌, arith}
use Rattle.std.proofs.lemmas.Bool.{eqb-false, not-true}
use Rattle.trees.specs.Lists.{Place, nowhere, at, range}
use Rattle.trees.specs.Checks.{Verdict, accepted, refused, counted, wrote, Check, line, line_at, or_else, ◌⊳◌, asked}
use Rattle.trees.proofs.BoolLaws.{and_l, and_r}
use Rattle.trees.proofs.ListLaws.{Lowest, first_lowest, lowest_first}

-- ---- a chain, link by link

pub chain_append : (cs ds : List Check) (v : Verdict) → (cs ++ ds) ⊳ v ≡ cs ⊳ (ds ⊳ v)
unfolding ◌⊳◌
chain_append [] ds v = refl
chain_append (c ∷ cs) ds v = ap (or_else c.number c.fault) (chain_append cs ds v)

-- a refusal ends the chain, and is passed on as it is
pub chain_stop : (c : Check) (cs : List Check) (v : Verdict) (k p : ℕ) → asked c ≡ refused k p → (c ∷ cs) ⊳ v ≡ refused k p
unfolding ◌⊳◌
chain_stop c cs v k p e = go c.fault e
  where
    go : (f : Place) → or_else c.number f accepted ≡ refused k p → or_else c.number f (cs ⊳ v) ≡ refused k p
    go nowhere q = cc
    go (at i) q = q

-- after an acceptance the rest decides
pub chain_go : (c : Check) (cs : List Check) (v : Verdict) → asked c ≡ accepted → (c ∷ cs) ⊳ v ≡ cs ⊳ v
unfolding ◌⊳◌
chain_go c cs v e = go c.fault e
  where
    go : (f : Place) → or_else c.number f accepted ≡ accepted → or_else c.number f (cs ⊳ v) ≡ (cs ⊳ v)
    go nowhere q = refl
    go (at i) q = cc

pub chain_end : (v : Verdict) → [] ⊳ v ≡ v
unfolding ◌⊳◌
chain_end v = refl

pub asked_passes : (c : Check) → asked c ≡ accepted → c.fault ≡ nowhere
asked_passes c e = go c.fault e
  where
    go : (f : Place) → or_else c.number f accepted ≡ accepted → f ≡ nowhere
    go nowhere q = refl
    go (at i) q = cc

-- ---- acceptance: every check passes

abbrev pub Passed : List Check → Type 0
Passed [] = Unit {0}
Passed (c ∷ cs) = (c.fault ≡ nowhere) × Passed cs

pub passed_chain : (cs : List Check) (v : Verdict) → Passed cs → cs ⊳ v ≡ v
unfolding ◌⊳◌
passed_chain [] v h = refl
passed_chain (c ∷ cs) v h = rw h.0 (passed_chain cs v h.1)

-- a verdict that is no refusal
abbrev pub Unrefused : Verdict → Type 0
Unrefused v = (k p : ℕ) → v ≡ refused k p → ⊥

pub accepted_other : Unrefused accepted
accepted_other k p e = let z : ◌≡◌ {A = ℕ} 0 1 = cc in omega arith

pub counted_other : (a b c : ℕ) → Unrefused (counted a b c)
counted_other a b c k p e = let z : ◌≡◌ {A = ℕ} 0 1 = cc in omega arith

pub wrote_other : (a : ℕ) → Unrefused (wrote a)
wrote_other a k p e = let z : ◌≡◌ {A = ℕ} 0 1 = cc in omega arith

-- checks that do not refuse pass
pub unrefused_passed : (cs : List Check) (v : Verdict) → Unrefused (cs ⊳ v) → Passed cs
unfolding ◌⊳◌
unrefused_passed [] v x = tt
unrefused_passed (c ∷ cs) v x = go c.fault refl x (unrefused_passed cs v)
  where
    go : (f : Place) → c.fault ≡ f → Unrefused (or_else c.number f (cs ⊳ v)) → (Unrefused (cs ⊳ v) → Passed cs) → (c.fault ≡ nowhere) × Passed cs
    go nowhere p y r = (p, r y)
    go (at i) p y r = absurd (y c.number i refl)

pub chain_passed : (cs : List Check) → cs ⊳ accepted ≡ accepted → Passed cs
chain_passed cs e = unrefused_passed cs accepted (λ k p q. accepted_other k p (sym e ∙ q))

-- ---- refusal: one check applies, and every earlier one passes

pub data Given (k p : ℕ) : List Check → Type 0 where
  here : {c : Check} {cs : List Check} → c.number ≡ k → c.fault ≡ at p → Given k p (c ∷ cs)
  later : {c : Check} {cs : List Check} → c.fault ≡ nowhere → Given k p cs → Given k p (c ∷ cs)

pub chain_given : (cs : List Check) (v : Verdict) (k p : ℕ) → (v ≡ refused k p → ⊥) → cs ⊳ v ≡ refused k p → Given k p cs
unfolding ◌⊳◌
chain_given [] v k p x e = absurd (x e)
chain_given (c ∷ cs) v k p x e = go c.fault refl e (λ q. chain_given cs v k p x q)
  where
    go : (f : Place) → c.fault ≡ f → or_else c.number f (cs ⊳ v) ≡ refused k p → (cs ⊳ v ≡ refused k p → Given k p cs) → Given k p (c ∷ cs)
    go nowhere q d r = later q (r d)
    go (at i) q d r = let a : c.number ≡ k = cc in let b : i ≡ p = cc in here a (q ∙ ap at b)

pub given_chain : (cs : List Check) (v : Verdict) (k p : ℕ) → Given k p cs → cs ⊳ v ≡ refused k p
unfolding ◌⊳◌
given_chain [] v k p x' = elim x' [ ]
given_chain (c ∷ cs) v k p (here a b) = rw (b, a)
given_chain (c ∷ cs) v k p (later a g) = rw a (given_chain cs v k p g)

-- ---- the same, of the list as a whole

-- When a list refuses with k at p: a check of it has this number and applies there, and every check that stands before it passes.
pub record Exactly (k p : ℕ) (cs : List Check) : Type 0 where
  pub before : List Check
  pub check : Check
  pub rest : List Check
  pub stands : cs ≡ before ++ (check ∷ rest)
  pub number : check.number ≡ k
  pub applies : check.fault ≡ at p
  pub earlier : Passed before

given_exactly : (cs : List Check) (k p : ℕ) → Given k p cs → Exactly k p cs
given_exactly [] k p x' = elim x' [ ]
given_exactly (c ∷ cs) k p (here a b) = record { before = []; check = c; rest = cs; stands = refl; number = a; applies = b; earlier = tt }
given_exactly (c ∷ cs) k p (later a g) =
    let w = given_exactly cs k p g in
    record {
      before = c ∷ w.before;
      check = w.check;
      rest = w.rest;
      stands = ap (λ (ds : List Check). c ∷ ds) w.stands;
      number = w.number;
      applies = w.applies;
      earlier = (a, w.earlier);
    }

exactly_given : (bs : List Check) (c : Check) (ds : List Check) (k p : ℕ) → c.number ≡ k → c.fault ≡ at p → Passed bs → Given k p (bs ++ (c ∷ ds))
exactly_given [] c ds k p a f h = here a f
exactly_given (b ∷ bs) c ds k p a f h = later h.0 (exactly_given bs c ds k p a f h.1)

-- THE CHAIN LAW (RULES D1), for any list of checks: it refuses with a number exactly when its check applies and every check that stands before it passes
pub refused_exactly : (cs : List Check) (v : Verdict) → Unrefused v → (k p : ℕ) → (cs ⊳ v ≡ refused k p) ↔ Exactly k p cs
refused_exactly cs v x k p = (
  λ q. given_exactly cs k p (chain_given cs v k p (x k p) q),
  λ w. given_chain cs v k p (rw w.stands (exactly_given w.before w.check w.rest k p w.number w.applies w.earlier)),
)

-- ---- what holds of a chain's verdict

-- what holds of every refusal that the checks can give, and of v where all of them pass, holds of the verdict
pub chain_holds : (P : Verdict → Type 0) (cs : List Check) (v : Verdict) → ((k p : ℕ) → Given k p cs → P (refused k p)) → (Passed cs → P v) → P (cs ⊳ v)
unfolding ◌⊳◌
chain_holds P [] v h y = y tt
chain_holds P (c ∷ cs) v h y = go c.fault refl (λ q. chain_holds P cs v (λ k p g. h k p (later q g)) (λ x. y (q, x)))
  where
    go : (f : Place) → c.fault ≡ f → (c.fault ≡ nowhere → P (cs ⊳ v)) → P (or_else c.number f (cs ⊳ v))
    go nowhere q r = r q
    go (at i) q r = h c.number i (here refl q)

-- ---- the numbers of a list

abbrev pub numbers : List Check → List ℕ
numbers cs = map (λ c. c.number) cs

-- whether no check has number k
unfoldable pub lacks : ℕ → List Check → Bool
lacks k [] = true
lacks k (c ∷ cs) = not (eqb c.number k) && lacks k cs

-- there is no refusal with a number that no check has
pub given_lacks : (cs : List Check) (k p : ℕ) → lacks k cs ≡ true → Given k p cs → ⊥
unfolding lacks
given_lacks [] k p e x'' = elim x'' [ ]
given_lacks (c ∷ cs) k p e (here a f) = eqb-false c.number k (not-true _ (and_l (not (eqb c.number k)) (lacks k cs) e)) a
given_lacks (c ∷ cs) k p e (later f g) = given_lacks cs k p (and_r (not (eqb c.number k)) (lacks k cs) e) g

-- where a list refuses with a number that one check alone has, that check applies, and those before it pass
pub given_alone : (bs : List Check) (c : Check) (ds : List Check) (k p : ℕ) → lacks k bs ≡ true → lacks k ds ≡ true
    → Given k p (bs ++ (c ∷ ds)) → Passed bs × (c.fault ≡ at p)
unfolding lacks
given_alone [] c ds k p e l (here a f) = (tt, f)
given_alone [] c ds k p e l (later f g) = absurd (given_lacks ds k p l g)
given_alone (b ∷ bs) c ds k p e l (here a f) = absurd (eqb-false b.number k (not-true _ (and_l (not (eqb b.number k)) (lacks k bs) e)) a)
given_alone (b ∷ bs) c ds k p e l (later f g) =
    let t = given_alone bs c ds k p (and_r (not (eqb b.number k)) (lacks k bs) e) l g in
    ((f, t.0), t.1)

-- ---- checks and places

-- the place of such a check is the lowest at which it applies (RULES 7.5)
pub place_lowest : (k : ℕ) (t : ℕ → Bool) (a b p : ℕ) → ((line_at k t (range a b)).fault ≡ at p) ↔ Lowest t a b p
place_lowest k t a b p = (first_lowest t a b p, lowest_first t a b p)

pub line_passes : (k : ℕ) (b : Bool) → (line k b).fault ≡ nowhere → b ≡ false
line_passes k true e = cc
line_passes k false e = refl

pub line_pass : (k : ℕ) (b : Bool) → b ≡ false → (line k b).fault ≡ nowhere
line_pass k b e = rw e

pub passed_append : (cs ds : List Check) → Passed cs → Passed ds → Passed (cs ++ ds)
passed_append [] ds h k = k
passed_append (c ∷ cs) ds h k = (h.0, passed_append cs ds h.1 k)

pub passed_split : (cs ds : List Check) → Passed (cs ++ ds) → Passed cs × Passed ds
passed_split [] ds h = (tt, h)
passed_split (c ∷ cs) ds h = let t = passed_split cs ds h.1 in ((h.0, t.0), t.1)
