-- Tables store by store, folds over the samples of two groups that share none, and least keys. Assumes nothing.
use Rattle.std.specs.Prelude.{ℕ, zero, suc, ◌+◌, ◌-◌, ◌≤◌, ◌<◌, min, ◌≡◌, refl, ◌⊎◌, List, [], ◌∷◌, Bool, true, false, cond, eqb, ltb, length, get_or, set}
use Rattle.std.proofs.Common.{zero-le, suc-le-suc, ap, ◌∙◌, inl, inr, ⊎_elim, zero-add, arith, length-set, get_or-set_same, get_or-set_other, eqb-true, ne_eqb, ltb-true}
use Rattle.std.proofs.lemmas.Bool.{false≢true, eqb-false}
use Rattle.trees.specs.Lists.{tabulate}
use Rattle.trees.specs.Groups.{Group, has, size, lowest}
use Rattle.trees.specs.Rows.{root_mark, group_at}
use Rattle.trees.specs.Tables.{Tabled, Flags, Remade, table_words, entry, over, least_of, one, own, seeded, Keys, least_at}
use Rattle.trees.proofs.BoolLaws.{decide}
use Rattle.trees.proofs.GroupLaws.{lowest_has, lowest_least}
use Rattle.trees.proofs.RowLaws.{group_has}

-- ---- tables

-- a word stored: the table is that of a function which differs there alone
pub tabled_store : (f g : ℕ → ℕ) (a b i x : ℕ) (t : List ℕ) → Tabled f a b t → i < length t → x ≡ g i → ((v : ℕ) → a ≤ v → v < b → (v ≡ i → ⊥) → f v ≡ g v)
    → Tabled g a b (set t i x)
tabled_store f g a b i x t d l e h = record { is = λ v j k. ⊎_elim (λ q. here v (eqb-true v i q)) (λ q. there v j k (eqb-false v i q)) (decide (eqb v i)) }
  where
    here : (v : ℕ) → v ≡ i → get_or (set t i x) v 0 ≡ g v
    here v q = rw q (get_or-set_same t i x 0 l ∙ e)

    there : (v : ℕ) → a ≤ v → v < b → (v ≡ i → ⊥) → get_or (set t i x) v 0 ≡ g v
    there v j k q = get_or-set_other t i v x 0 q ∙ d.is v j k ∙ h v j k q

-- one word more
pub tabled_more : (f : ℕ → ℕ) (a b x : ℕ) (t : List ℕ) → Tabled f a b t → b < length t → x ≡ f b → Tabled f a (b + 1) (set t b x)
tabled_more f a b x t d l e = tabled_store (entry t) f a (b + 1) b x t (record { is = λ v j k. refl }) l e (λ v j k q. d.is v j (omega arith))

pub tabled_none : (f : ℕ → ℕ) (a : ℕ) (t : List ℕ) → Tabled f a a t
tabled_none f a t = record { is = λ v h k. absurd (omega arith) }

-- one flag more
pub flags_more : (f : ℕ → Bool) (a b : ℕ) (x : Bool) (t : List Bool) → Flags f a b t → b < length t → x ≡ f b → Flags f a (b + 1) (set t b x)
flags_more f a b x t d l e = record { is = λ v j k. ⊎_elim (λ q. here v (eqb-true v b q)) (λ q. there v j k (eqb-false v b q)) (decide (eqb v b)) }
  where
    here : (v : ℕ) → v ≡ b → get_or (set t b x) v false ≡ f v
    here v q = rw q (get_or-set_same t b x false l ∙ e)

    there : (v : ℕ) → a ≤ v → v < b + 1 → (v ≡ b → ⊥) → get_or (set t b x) v false ≡ f v
    there v j k q = get_or-set_other t b v x false q ∙ d.is v j (omega arith)

pub flags_none : (f : ℕ → Bool) (a : ℕ) (t : List Bool) → Flags f a a t
flags_none f a t = record { is = λ v h k. absurd (omega arith) }

-- a table made anew, word by word
pub remade_start : (f : ℕ → ℕ) (a b : ℕ) (t : List ℕ) → length t ≡ table_words → Remade f t a b a t
remade_start f a b t l = record { low = omega arith; long = l; done = tabled_none f a t; rest = record { is = λ v h k. refl } }

pub remade_more : (f : ℕ → ℕ) (old : List ℕ) (a b v x : ℕ) (t : List ℕ) → v < b → b ≤ table_words → x ≡ f v → Remade f old a b v t
    → Remade f old a b (v + 1) (set t v x)
remade_more f old a b v x t h l e i = record {
  low = omega (arith, i.low);
  long = simp length-set i.long;
  done = tabled_more f a v x t i.done (omega (arith, i.long)) e;
  rest = record { is = λ u j k. get_or-set_other t v u x 0 (λ y. omega arith) ∙ i.rest.is u (omega arith) k };
}

-- a table that a pass starts with is settled by the keys of the samples
pub seed_same : (n : ℕ) (k l : ℕ → ℕ) (e m : ℕ) (t : List ℕ) → ((s : ℕ) → s < n → k s ≡ l s) → Tabled (seeded n k e) 0 m t → Tabled (seeded n l e) 0 m t
seed_same n k l e m t f i = record { is = λ v a b. i.is v a b ∙ go v (ltb v n) refl }
  where
    go : (v : ℕ) (b : Bool) → ltb v n ≡ b → cond b (k v) e ≡ cond b (l v) e
    go v true q = f v (ltb-true v n q)
    go v false q = refl

-- ---- folds

-- what `op` satisfies for the order not to matter
pub record Folds (op : ℕ → ℕ → ℕ) (e : ℕ) : Type 0 where
  pub assoc : (a b c : ℕ) → op a (op b c) ≡ op (op a b) c
  pub swap : (a b c : ℕ) → op a (op b c) ≡ op b (op a c)
  pub none : e ≡ op e e

pub adds : Folds ◌+◌ 0
adds = record { assoc = λ a b c. omega arith; swap = λ a b c. omega arith; none = refl }

pub mins : Folds min root_mark
mins = record { assoc = λ a b c. omega arith; swap = λ a b c. omega arith; none = refl }

pub size_over : (g : Group) (s : ℕ) → size g ≡ over ◌+◌ 0 one g s
unfolding size over
size_over [] s = refl
size_over (true ∷ g) s = omega (arith, size_over g (suc s))
size_over (false ∷ g) s = size_over g (suc s)

pub size_length : (g : Group) → size g ≤ length g
unfolding size
size_length [] = zero-le
size_length (true ∷ g) = suc-le-suc (size_length g)
size_length (false ∷ g) = omega (arith, size_length g)

-- of three tests the third passes where one of the first two does, and these never both pass
pub data Split : Bool → Bool → Bool → Type 0 where
  neither : Split false false false
  left : Split true false true
  right : Split false true true

pub over_join : (op : ℕ → ℕ → ℕ) (e : ℕ) → Folds op e → (k : ℕ → ℕ) (p q u : ℕ → Bool) (n s : ℕ) → ((t : ℕ) → s ≤ t → t < s + n → Split (p t) (q t) (u t))
    → over op e k (tabulate n u s) s ≡ op (over op e k (tabulate n p s) s) (over op e k (tabulate n q s) s)
unfolding over tabulate
over_join op e f k p q u zero s h = f.none
over_join op e f k p q u (suc n) s h = go (p s) (q s) (u s) (h s (omega arith) (omega arith))
    (over_join op e f k p q u n (suc s) (λ t a b. h t (omega arith) (omega arith)))
  where
    P : ℕ
    P = over op e k (tabulate n p (suc s)) (suc s)

    Q : ℕ
    Q = over op e k (tabulate n q (suc s)) (suc s)

    U : ℕ
    U = over op e k (tabulate n u (suc s)) (suc s)

    go : (a b c : Bool) → Split a b c → U ≡ op P Q → cond c (op (k s) U) U ≡ op (cond a (op (k s) P) P) (cond b (op (k s) Q) Q)
    go false false true x7 i = elim x7 [ ]
    go false true false x7 i = elim x7 [ ]
    go true false false x6 i = elim x6 [ ]
    go true true c x6 i = elim x6 [ ]
    go false false false neither i = i
    go true false true left i = ap (op (k s)) i ∙ f.assoc (k s) P Q
    go false true true right i = ap (op (k s)) i ∙ f.swap (k s) P Q

-- over one sample, and over none
pub over_none : (op : ℕ → ℕ → ℕ) (e : ℕ) (k : ℕ → ℕ) (p n s : ℕ) → (p < s) ⊎ (s + n ≤ p) → over op e k (tabulate n (λ t. eqb t p) s) s ≡ e
unfolding over tabulate
over_none op e k p zero s h = refl
over_none op e k p (suc n) s h = rw (ne_eqb s p (λ q. ⊎_elim (λ a. omega arith) (λ a. omega arith) h))
    (over_none op e k p n (suc s) (⊎_elim (λ a. inl (omega arith)) (λ a. inr (omega arith)) h))

pub over-one : (op : ℕ → ℕ → ℕ) (e : ℕ) (k : ℕ → ℕ) (p n s : ℕ) → s ≤ p → p < s + n → over op e k (tabulate n (λ t. eqb t p) s) s ≡ op (k p) e
unfolding over tabulate
over-one op e k p zero s h l = absurd (omega arith)
over-one op e k p (suc n) s h l = go (eqb s p) refl (λ q. over-one op e k p n (suc s) q (omega arith))
  where
    go : (b : Bool) → eqb s p ≡ b → (suc s ≤ p → over op e k (tabulate n (λ t. eqb t p) (suc s)) (suc s) ≡ op (k p) e)
        → cond b (op (k s) (over op e k (tabulate n (λ t. eqb t p) (suc s)) (suc s))) (over op e k (tabulate n (λ t. eqb t p) (suc s)) (suc s)) ≡ op (k p) e
    go true x r = let y : s ≡ p = eqb-true s p x in rw (y, over_none op e k p n (suc p) (inl (omega arith)))
    go false x r = let y : s ≡ p → ⊥ = eqb-false s p x in r (omega arith)

-- ---- least keys

next : (k : ℕ → ℕ) (s t : ℕ) → k (suc s + t) ≡ k (s + suc t)
next k s t = ap k (omega arith)

here : (k : ℕ → ℕ) (s : ℕ) → k (s + 0) ≡ k s
here k s = ap k (omega arith)

le_from : (k : ℕ → ℕ) (g : Group) (s t : ℕ) → has g t ≡ true → over min root_mark k g s ≤ k (s + t)
unfolding over
le_from k [] s t e = absurd (false≢true e)
le_from k (true ∷ g) s zero e = omega (arith, here k s)
le_from k (true ∷ g) s (suc t) e = omega (arith, next k s t, le_from k g (suc s) t e)
le_from k (false ∷ g) s zero e = absurd (false≢true e)
le_from k (false ∷ g) s (suc t) e = omega (arith, next k s t, le_from k g (suc s) t e)

ge_from : (c : ℕ) (k : ℕ → ℕ) (g : Group) (s : ℕ) → c ≤ root_mark → ((t : ℕ) → has g t ≡ true → c ≤ k (s + t)) → c ≤ over min root_mark k g s
unfolding over
ge_from c k [] s h f = h
ge_from c k (true ∷ g) s h f = omega (arith, here k s, f 0 refl, ge_from c k g (suc s) h (λ t e. omega (arith, next k s t, f (suc t) e)))
ge_from c k (false ∷ g) s h f = ge_from c k g (suc s) h (λ t e. omega (arith, next k s t, f (suc t) e))

-- no key of a sample is less
pub least_le : (k : ℕ → ℕ) (g : Group) (t : ℕ) → has g t ≡ true → least_of k g ≤ k t
least_le k g t e = omega (arith, le_from k g 0 t e, ap k (zero-add t))

-- what is below all keys is below the least
pub least_ge : (c : ℕ) (k : ℕ → ℕ) (g : Group) → c ≤ root_mark → ((t : ℕ) → has g t ≡ true → c ≤ k t) → c ≤ least_of k g
least_ge c k g h f = ge_from c k g 0 h (λ t e. omega (arith, f t e, ap k (zero-add t)))

-- with each sample its own key it is the smallest sample
pub least_lowest : (g : Group) → 0 < size g → lowest g ≤ root_mark → least_of (λ s. s) g ≡ lowest g
least_lowest g h l = omega (arith, least_le (λ s. s) g (lowest g) (lowest_has g h), least_ge (lowest g) (λ s. s) g l (λ t i. lowest_least g t i))

cap : (k : ℕ → ℕ) (g : Group) (s : ℕ) → over min root_mark k g s ≤ root_mark
unfolding over
cap k [] s = omega arith
cap k (true ∷ g) s = omega (arith, cap k g (suc s))
cap k (false ∷ g) s = cap k g (suc s)

-- the keys of the samples settle it
pub least_keys : (k l : ℕ → ℕ) (g : Group) → ((t : ℕ) → has g t ≡ true → k t ≡ l t) → least_of k g ≡ least_of l g
least_keys k l g f = omega (
  arith,
  least_ge (least_of k g) l g (cap k g 0) (λ t e. omega (arith, f t e, least_le k g t e)),
  least_ge (least_of l g) k g (cap l g 0) (λ t e. omega (arith, f t e, least_le l g t e)),
)

-- numbers of samples are keys
pub tabled_keys : (n : ℕ) (t : List ℕ) → Tabled own 0 n t → Keys n t
tabled_keys n t i = record { low = λ s h. omega (arith, i.is s zero-le h) }

-- so are places counted from the end
pub end_keys : (n : ℕ) (start t : List ℕ) → Keys n start → Tabled (λ s. n - 1 - entry start s) 0 n t → Keys n t
end_keys n start t k i = record { low = λ s h. omega (arith, i.is s zero-le h) }

-- least keys by a table of the keys
pub tabled_least : (n : ℕ) (r key : List ℕ) (k : ℕ → ℕ) (m : ℕ) {t : List ℕ} → Tabled k 0 n key → Tabled (least_at n r (entry key)) 0 m t
    → Tabled (least_at n r k) 0 m t
tabled_least n r key k m d i = record { is = λ v a b. i.is v a b ∙ least_keys (entry key) k (group_at n r v) (λ s e. d.is s zero-le (group_has n r v s e).0) }
