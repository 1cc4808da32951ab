-- What the walk reads is the language of the grammar, and where it stops is the place of refusal 17. Assumes nothing.
use Rattle.std.specs.Prelude.{ℕ, suc, ◌+◌, ◌≤◌, ◌<◌, ◌≡◌, refl, ◌↔◌, List, [], ◌∷◌, ◌++◌, length, take, drop, ltb, Bool, true, false}
use Rattle.std.proofs.Common.{arith, sym, ap, subst, ◌∙◌, append_assoc, length-append, take-append-drop, take_at, take-take, ltb-true, ltb-false}
use Rattle.std.proofs.Math.Seq.{append_snoc}
use Rattle.newick.specs.Tree.{Tree}
use Rattle.newick.specs.Tree.Stack.{top}
use Rattle.newick.specs.Grammar.{Text, OfForm}
use Rattle.newick.specs.Walk.{Parse, parsed}
use Rattle.newick.specs.Walk.State.{want}
use Rattle.newick.specs.Walk.Parse.{reads, stops}
use Rattle.newick.specs.Stops.{Begins, FirstStop}
use Rattle.newick.proofs.WalkLaws.{Halts, halts}
use Rattle.newick.proofs.Complete.{complete}
use Rattle.newick.proofs.Sound.{sound}

-- exactly the texts of the form are read, each with its tree (RULES 14.2 to 14.6)
pub form_exactly : (l : List ℕ) (t : Tree) → (parsed l ≡ reads t) ↔ Text l t
form_exactly l t = (sound l t, complete)

stops_not : (o : Parse) (t : Tree) (q : ℕ) → o ≡ stops q → o ≡ reads t → ⊥
stops_not o t q e d = let z : ◌≡◌ {A = ℕ} 0 1 = cc in omega arith

never_at : (l : List ℕ) (q : ℕ) (h : Halts (want top) 0 l q) (after : List ℕ) → h.after ≡ after → q < length l → Begins (take (suc q) l)
    → ⊥
unfolding parsed
never_at l q h [] e w x = let z : length l ≡ length h.before + 0 = ap length h.split ∙ length-append h.before h.after
    ∙ ap (λ (r : List ℕ). length h.before + length r) e in omega (arith, h.place)
never_at l q h (b ∷ rest) e w x =
    let s : l ≡ (h.before ++ (b ∷ [])) ++ rest = h.split ∙ ap (h.before ++◌) e ∙ sym (append_snoc h.before b rest) in
    let k : length (h.before ++ (b ∷ [])) ≡ suc q = length-append h.before (b ∷ []) ∙ omega (arith, h.place) in
    let t : take (suc q) l ≡ h.before ++ (b ∷ []) = ap (take (suc q)) s ∙ take_at (h.before ++ (b ∷ [])) rest (suc q) k in
    stops_not (parsed (take (suc q) l ++ x.0)) x.1.0 q (ap parsed (ap (◌++ x.0) t ∙ append_snoc h.before b x.0)
    ∙ h.never b rest x.0 e) (complete x.1.1)

-- a reading that stops at q, stops at the first such place
pub stops_first : (l : List ℕ) (q : ℕ) → parsed l ≡ stops q → FirstStop l q
unfolding parsed
stops_first l q e =
    let h = halts l (want top) 0 q e in
    let n : length h.before ≡ q = omega (arith, h.place) in
    let p : take q l ≡ h.before = ap (take q) h.split ∙ take_at h.before h.after q n in
    record {
      within = let z = ap length h.split ∙ length-append h.before h.after in omega (arith, h.place);
      goes = (h.more, (h.goes.tree, sound (take q l ++ h.more) h.goes.tree (rw p h.goes.read)));
      never = never_at l q h h.after refl;
      early = λ f. stops_not (parsed l) f.0 q e (complete f.1);
    }

-- what goes on from a longer part of a text goes on from a shorter one
shorter : (l : List ℕ) (q r : ℕ) → q ≤ r → Begins (take r l) → Begins (take q l)
shorter l q r h x =
    let e : take q l ++ (drop q (take r l) ++ x.0) ≡ take r l ++ x.0 =
    sym (append_assoc (take q l) (drop q (take r l)) x.0) ∙ ap (λ (m : List ℕ). (m ++ drop q (take r l)) ++ x.0)
    (sym (take-take q r l h))
    ∙ ap (◌++ x.0) (take-append-drop q (take r l)) in
    (drop q (take r l) ++ x.0, subst OfForm (sym e) x.1)

not_before : (l : List ℕ) (q r : ℕ) → FirstStop l q → FirstStop l r → q < r → ⊥
not_before l q r a b h = a.never (omega (arith, b.within)) (shorter l (suc q) r h b.goes)

-- there is one such place
pub first_unique : (l : List ℕ) (q r : ℕ) → FirstStop l q → FirstStop l r → q ≡ r
first_unique l q r a b = go (ltb q r) refl (ltb r q) refl
  where
    go : (x : Bool) → ltb q r ≡ x → (y : Bool) → ltb r q ≡ y → q ≡ r
    go true e y d = absurd (not_before l q r a b (ltb-true q r e))
    go false e true d = absurd (not_before l r q b a (ltb-true r q d))
    go false e false d = let u : r ≤ q = ltb-false q r e in let v : q ≤ r = ltb-false r q d in omega arith

-- the walk stops at q exactly if that is the place of refusal 17 (RULES 7.5)
pub stop_exactly : (l : List ℕ) (q : ℕ) → (parsed l ≡ stops q) ↔ FirstStop l q
stop_exactly l q = (stops_first l q, go (parsed l) refl)
  where
    go : (o : Parse) → parsed l ≡ o → FirstStop l q → parsed l ≡ stops q
    go (reads t) e f = absurd (f.early (t, sound l t e))
    go (stops p) e f = e ∙ ap stops (first_unique l p q (stops_first l p e) f)
