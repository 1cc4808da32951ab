-- Rising lists of runs: look-up after insertion and deletion, what these keep, and that look-ups settle the list. Assumes nothing.
use Rattle.std.specs.Prelude.{ℕ, suc, ◌≤◌, ◌<◌, ◌≡◌, ◌⊎◌, Bool, true, false, cond, eqb, ltb, length}
use Rattle.std.proofs.Math.Path.{refl, ap}
use Rattle.std.proofs.Common.{sym, ◌∙◌, inl, inr, ⊎_elim, le_of_eq, arith, eqb-true, ltb-true, ltb-false, lt-ltb, le-ltb, eq-eqb, ne_eqb}
use mathlib.Core.List.{List, [], ◌∷◌, Memᴰ}
use Rattle.std.proofs.Math.Option.{Option, some, none, none-ne-some, some-injective}
use Rattle.std.proofs.lemmas.Bool.{false≢true, eqb-false}
use Rattle.trees.specs.Reporting.{Run}
use Rattle.trees.proofs.BoolLaws.{and_l, and_r, and_both, decide}
use Rattle.trees.proofs.NeverLaws.{Tri, less, equal, more, tri}
use Rattle.runs.specs.Runs.{every, rising, find, is_some, present, insert_run, delete_run}
use Rattle.runs.specs.Formed.{Rising}

-- ---- tests of all members

module _ {A : Type 0} where
  pub every_to : (t : A → Bool) (xs : List A) → every t xs ≡ true → (x : A) → Memᴰ x xs → t x ≡ true
  unfolding every
  every_to t [] e x x4 = elim x4 [ ]
  every_to t (y ∷ xs) e x (Memᴰ.head q) = ap t q ∙ and_l (t y) (every t xs) e
  every_to t (y ∷ xs) e x (Memᴰ.tail m) = every_to t xs (and_r (t y) (every t xs) e) x m

  pub every_from : (t : A → Bool) (xs : List A) → ((x : A) → Memᴰ x xs → t x ≡ true) → every t xs ≡ true
  unfolding every
  every_from t [] h = refl
  every_from t (x ∷ xs) h = and_both (t x) (every t xs) (h x (Memᴰ.head refl)) (every_from t xs (λ y m. h y (Memᴰ.tail m)))

pub rising_to : (b : ℕ) (rs : List Run) → rising b rs ≡ true → Rising b rs
unfolding rising
rising_to b [] e = tt
rising_to b (r ∷ rs) e =
    let i : ℕ = r.identifier in
    (ltb-true b i (and_l (ltb b i) (rising i rs) e), rising_to i rs (and_r (ltb b i) (rising i rs) e))

pub rising_from : (b : ℕ) (rs : List Run) → Rising b rs → rising b rs ≡ true
unfolding rising
rising_from b [] h = refl
rising_from b (r ∷ rs) h = and_both _ _ (lt-ltb b r.identifier h.0) (rising_from r.identifier rs h.1)

-- ---- look-up

-- an identifier that no run of a list has
abbrev pub Absent : ℕ → List Run → Type 0
Absent i rs = find i rs ≡ none

same? : (a b : ℕ) → (a ≡ b) ⊎ (a ≡ b → ⊥)
same? a b = ⊎_elim (λ e. inl (eqb-true a b e)) (λ e. inr (eqb-false a b e)) (decide (eqb a b))

pub find_here : (i : ℕ) (r : Run) (rs : List Run) → i ≡ r.identifier → find i (r ∷ rs) ≡ some r
unfolding find
find_here i r rs e = rw (eq-eqb i r.identifier e)

pub find_past : (i : ℕ) (r : Run) (rs : List Run) → (i ≡ r.identifier → ⊥) → find i (r ∷ rs) ≡ find i rs
unfolding find
find_past i r rs d = rw (ne_eqb i r.identifier d)

-- an identifier that is absent from a list is not its first, and is absent from the rest
pub absent_head : (i : ℕ) (r : Run) (rs : List Run) → Absent i (r ∷ rs) → i ≡ r.identifier → ⊥
absent_head i r rs a e = none-ne-some r (sym a ∙ find_here i r rs e)

pub absent_tail : (i : ℕ) (r : Run) (rs : List Run) → Absent i (r ∷ rs) → Absent i rs
absent_tail i r rs a = sym (find_past i r rs (absent_head i r rs a)) ∙ a

pub absent_member : (i : ℕ) (rs : List Run) (r : Run) → Absent i rs → Memᴰ r rs → i ≡ r.identifier → ⊥
absent_member i [] r a x3 e = elim x3 [ ]
absent_member i (x ∷ rs) r a (Memᴰ.head q) e = absent_head i x rs a (e ∙ ap (λ (y : Run). y.identifier) q)
absent_member i (x ∷ rs) r a (Memᴰ.tail m) e = absent_member i rs r (absent_tail i x rs a) m e

-- what is found stands in the list, and has the identifier
data Found (i : ℕ) (r x : Run) (rs : List Run) : Type 0 where
  first : i ≡ x.identifier → r ≡ x → Found i r x rs
  later : find i rs ≡ some r → Found i r x rs

found : (i : ℕ) (x : Run) (rs : List Run) (r : Run) → find i (x ∷ rs) ≡ some r → Found i r x rs
found i x rs r e =
    ⊎_elim (λ q. first q (some-injective r x (sym e ∙ find_here i x rs q))) (λ d. later (sym (find_past i x rs d) ∙ e))
    (same? i x.identifier)

pub find_member : (i : ℕ) (rs : List Run) (r : Run) → find i rs ≡ some r → Memᴰ r rs
unfolding find
find_member i [] r e = absurd (none-ne-some r e)
find_member i (x ∷ rs) r e = go (found i x rs r e) (find_member i rs r)
  where
    go : Found i r x rs → (find i rs ≡ some r → Memᴰ r rs) → Memᴰ r (x ∷ rs)
    go (first p q) f = Memᴰ.head q
    go (later q) f = Memᴰ.tail (f q)

pub find_named : (i : ℕ) (rs : List Run) (r : Run) → find i rs ≡ some r → r.identifier ≡ i
unfolding find
find_named i [] r e = absurd (none-ne-some r e)
find_named i (x ∷ rs) r e = go (found i x rs r e) (find_named i rs r)
  where
    go : Found i r x rs → (find i rs ≡ some r → r.identifier ≡ i) → r.identifier ≡ i
    go (first p q) f = ap (λ (y : Run). y.identifier) q ∙ sym p
    go (later q) f = f q

-- an identifier is found or absent
find_cases : (i : ℕ) (rs : List Run) → Absent i rs ⊎ ((r : Run) × (find i rs ≡ some r))
find_cases i rs = go (find i rs) refl
  where
    go : (o : Option Run) → find i rs ≡ o → Absent i rs ⊎ ((r : Run) × (find i rs ≡ some r))
    go none e = inl e
    go (some r) e = inr (r, e)

pub absent_none : (i : ℕ) (rs : List Run) → present i rs ≡ false → Absent i rs
absent_none i rs e = ⊎_elim (λ a. a) (λ t. absurd (false≢true (sym e ∙ ap is_some t.1))) (find_cases i rs)

pub present_some : (i : ℕ) (rs : List Run) → present i rs ≡ true → (r : Run) × (find i rs ≡ some r)
present_some i rs e = ⊎_elim (λ a. absurd (false≢true (ap is_some (sym a) ∙ e))) (λ t. t) (find_cases i rs)

-- ---- in a rising list

-- what is not above the bound is absent
pub find_below : (i b : ℕ) (rs : List Run) → Rising b rs → i ≤ b → Absent i rs
unfolding find
find_below i b [] h k = refl
find_below i b (r ∷ rs) h k = rw (ne_eqb i r.identifier (λ e. omega arith)) (find_below i r.identifier rs h.1 (omega arith))

pub find_above : (i b : ℕ) (rs : List Run) (r : Run) → Rising b rs → find i rs ≡ some r → b < i
find_above i b rs r h e =
    ⊎_elim (ltb-true b i) (λ t. absurd (none-ne-some r (sym (find_below i b rs h (ltb-false b i t)) ∙ e))) (decide (ltb b i))

rising_weaken : (b c : ℕ) (rs : List Run) → b ≤ c → Rising c rs → Rising b rs
rising_weaken b c [] l h = tt
rising_weaken b c (r ∷ rs) l h = (omega arith, h.1)

-- RISING LISTS WITH EQUAL LOOK-UPS ARE EQUAL
pub rising_unique : (b : ℕ) (xs ys : List Run) → Rising b xs → Rising b ys → ((i : ℕ) → find i xs ≡ find i ys) → xs ≡ ys
unfolding find
rising_unique b [] [] h k f = refl
rising_unique b [] (y ∷ ys) h k f = absurd (absent_head y.identifier y ys (sym (f y.identifier)) refl)
rising_unique b (x ∷ xs) [] h k f = absurd (absent_head x.identifier x xs (f x.identifier) refl)
rising_unique b (x ∷ xs) (y ∷ ys) h k f = go (tri i j) (λ e. rising_unique i xs ys h.1 (rw e k.1) (rest e))
  where
    i : ℕ
    i = x.identifier

    j : ℕ
    j = y.identifier

    rest : x.identifier ≡ y.identifier → (u : ℕ) → find u xs ≡ find u ys
    rest e u =
        ⊎_elim (λ q. find_below u i xs h.1 (le_of_eq q) ∙ sym (find_below u j ys k.1 (le_of_eq (q ∙ e))))
        (λ d. sym (find_past u x xs d) ∙ f u ∙ find_past u y ys (λ q. d (q ∙ sym e)))
        (same? u i)

    heads : x.identifier ≡ y.identifier → x ≡ y
    heads e = some-injective x y (sym (find_here i x xs refl) ∙ f i ∙ find_here i y ys e)

    go : Tri x.identifier y.identifier → (x.identifier ≡ y.identifier → xs ≡ ys) → x ∷ xs ≡ y ∷ ys
    go (less l) r = absurd (absent_head i x xs (f i ∙ find_below i i (y ∷ ys) (l, k.1) (omega arith)) refl)
    go (equal e) r = cc (heads e, r e)
    go (more l) r = absurd (absent_head j y ys (sym (f j) ∙ find_below j j (x ∷ xs) (l, h.1) (omega arith)) refl)

-- ---- insertion of a run whose identifier is absent

-- two tests for different numbers never both pass
pub cond_swap : {A : Type 0} (i a b : ℕ) → (a ≡ b → ⊥) → (s t u : A)
    → cond (eqb i a) s (cond (eqb i b) t u) ≡ cond (eqb i b) t (cond (eqb i a) s u)
cond_swap i a b d s t u = ⊎_elim (λ e. rw (eq-eqb i a e, ne_eqb i b (λ f. d (sym e ∙ f)))) (λ e. rw (ne_eqb i a e)) (same? i a)

pub find_insert : (i : ℕ) (r : Run) (xs : List Run) → Absent r.identifier xs → find i (insert_run r xs) ≡ cond (eqb i r.identifier) (some r) (find i xs)
unfolding find insert_run
find_insert i r [] a = refl
find_insert i r (x ∷ xs) a =
    ⊎_elim (λ e. rw e)
    (λ e.
    rw e
    (ap (cond (eqb i x.identifier) (some x)) (find_insert i r xs (absent_tail r.identifier x xs a))
    ∙ cond_swap i x.identifier r.identifier (λ q. absent_head r.identifier x xs a (sym q)) (some x) (some r) (find i xs)))
    (decide (ltb r.identifier x.identifier))

pub insert_rising : (b : ℕ) (r : Run) (xs : List Run) → b < r.identifier → Absent r.identifier xs → Rising b xs → Rising b (insert_run r xs)
unfolding insert_run
insert_rising b r [] l a h = (l, tt)
insert_rising b r (x ∷ xs) l a h = go (tri i j) (λ g. insert_rising j r xs g (absent_tail i x xs a) h.1)
  where
    i : ℕ
    i = r.identifier

    j : ℕ
    j = x.identifier

    go : Tri r.identifier x.identifier → (x.identifier < r.identifier → Rising x.identifier (insert_run r xs))
        → Rising b (cond (ltb r.identifier x.identifier) (r ∷ x ∷ xs) (x ∷ insert_run r xs))
    go (less s) f = rw (lt-ltb r.identifier x.identifier s) (l, (s, h.1))
    go (equal e) f = absurd (absent_head r.identifier x xs a e)
    go (more g) f = rw (le-ltb r.identifier x.identifier (omega arith)) (h.0, f g)

pub length_insert : (r : Run) (xs : List Run) → length (insert_run r xs) ≡ suc (length xs)
unfolding insert_run
length_insert r [] = refl
length_insert r (x ∷ xs) = ⊎_elim (λ e. rw e) (λ e. rw e (ap suc (length_insert r xs))) (decide (ltb r.identifier x.identifier))

pub insert_member : (r : Run) (xs : List Run) (y : Run) → Memᴰ y (insert_run r xs) → (y ≡ r) ⊎ Memᴰ y xs
unfolding insert_run
insert_member r [] y (mathlib.Core.List.Memᴰ.tail x5) = elim x5 [ ]
insert_member r [] y (Memᴰ.head q) = inl q
insert_member r (x ∷ xs) y m = go (ltb r.identifier x.identifier) m (insert_member r xs y)
  where
    go : (t : Bool) → Memᴰ y (cond t (r ∷ x ∷ xs) (x ∷ insert_run r xs)) → (Memᴰ y (insert_run r xs) → (y ≡ r) ⊎ Memᴰ y xs)
        → (y ≡ r) ⊎ Memᴰ y (x ∷ xs)
    go true (Memᴰ.head q) f = inl q
    go true (Memᴰ.tail d) f = inr d
    go false (Memᴰ.head q) f = inr (Memᴰ.head q)
    go false (Memᴰ.tail d) f = ⊎_elim (λ e. inl e) (λ e. inr (Memᴰ.tail e)) (f d)

-- ---- deletion

pub find_delete : (b i j : ℕ) (xs : List Run) → Rising b xs → find i (delete_run j xs) ≡ cond (eqb i j) none (find i xs)
unfolding find delete_run
find_delete b i j [] h = go (eqb i j)
  where
    go : (t : Bool) → none ≡ cond t none (find i [])
    go true = refl
    go false = refl
find_delete b i j (x ∷ xs) h =
    ⊎_elim (λ e. rw (eq-eqb j x.identifier e, e) (here (same? i x.identifier)))
    (λ d. rw (ne_eqb j x.identifier d, find_delete x.identifier i j xs h.1) (cond_swap i x.identifier j (λ q. d (sym q)) (some x) none (find i xs)))
    (same? j x.identifier)
  where
    here : (i ≡ x.identifier) ⊎ (i ≡ x.identifier → ⊥) → find i xs ≡ cond (eqb i x.identifier) none (find i (x ∷ xs))
    here (inl q) = rw (eq-eqb i x.identifier q) (find_below i x.identifier xs h.1 (le_of_eq q))
    here (inr d) = rw (ne_eqb i x.identifier d)

pub delete_rising : (b i : ℕ) (xs : List Run) → Rising b xs → Rising b (delete_run i xs)
unfolding delete_run
delete_rising b i [] h = tt
delete_rising b i (x ∷ xs) h =
    ⊎_elim (λ e. rw e (rising_weaken b x.identifier xs (omega arith) h.1)) (λ e. rw e (h.0, delete_rising x.identifier i xs h.1))
    (decide (eqb i x.identifier))

pub length_delete : (i : ℕ) (xs : List Run) (r : Run) → find i xs ≡ some r → suc (length (delete_run i xs)) ≡ length xs
unfolding delete_run find
length_delete i [] r e = absurd (none-ne-some r e)
length_delete i (x ∷ xs) r e =
    ⊎_elim (λ q. rw (eq-eqb i x.identifier q)) (λ d. rw (ne_eqb i x.identifier d) (ap suc (length_delete i xs r (sym (find_past i x xs d) ∙ e))))
    (same? i x.identifier)

pub delete_member : (i : ℕ) (xs : List Run) (y : Run) → Memᴰ y (delete_run i xs) → Memᴰ y xs
unfolding delete_run
delete_member i [] y m = elim m [ ]
delete_member i (x ∷ xs) y m = go (eqb i x.identifier) m (delete_member i xs y)
  where
    go : (t : Bool) → Memᴰ y (cond t xs (x ∷ delete_run i xs)) → (Memᴰ y (delete_run i xs) → Memᴰ y xs) → Memᴰ y (x ∷ xs)
    go true d f = Memᴰ.tail d
    go false (Memᴰ.head q) f = Memᴰ.head q
    go false (Memᴰ.tail d) f = Memᴰ.tail (f d)

-- ---- insertion and deletion together

-- runs may be put in in either order
pub insert_insert : (b : ℕ) (r s : Run) (xs : List Run) → b < r.identifier → b < s.identifier → (r.identifier ≡ s.identifier → ⊥)
    → Absent r.identifier xs → Absent s.identifier xs → Rising b xs → insert_run r (insert_run s xs) ≡ insert_run s (insert_run r xs)
insert_insert b r s xs k l d p q h =
    rising_unique b _ _ (insert_rising b r (insert_run s xs) k rs (insert_rising b s xs l q h))
    (insert_rising b s (insert_run r xs) l sr (insert_rising b r xs k p h))
    (λ i.
    rw (find_insert i r (insert_run s xs) rs, find_insert i s xs q, find_insert i s (insert_run r xs) sr, find_insert i r xs p)
    (cond_swap i r.identifier s.identifier d (some r) (some s) (find i xs)))
  where
    rs : Absent r.identifier (insert_run s xs)
    rs = find_insert r.identifier s xs q ∙ (rw (ne_eqb r.identifier s.identifier d) p)

    sr : Absent s.identifier (insert_run r xs)
    sr = find_insert s.identifier r xs p ∙ (rw (ne_eqb s.identifier r.identifier (λ e. d (sym e))) q)

-- a run put in and taken out again leaves nothing behind
pub delete_insert : (b : ℕ) (r : Run) (xs : List Run) → b < r.identifier → Absent r.identifier xs → Rising b xs
    → delete_run r.identifier (insert_run r xs) ≡ xs
delete_insert b r xs l a h =
    rising_unique b _ xs (delete_rising b r.identifier (insert_run r xs) up) h (λ i. find_delete b i r.identifier (insert_run r xs) up ∙ each i)
  where
    up : Rising b (insert_run r xs)
    up = insert_rising b r xs l a h

    each : (i : ℕ) → cond (eqb i r.identifier) none (find i (insert_run r xs)) ≡ find i xs
    each i =
        ⊎_elim (λ e. rw (eq-eqb i r.identifier e, e) (sym a))
        (λ d. rw (ne_eqb i r.identifier d, find_insert i r xs a, ne_eqb i r.identifier d))
        (same? i r.identifier)

-- a run taken out and put in again stands where it stood
pub insert_delete : (b i : ℕ) (r : Run) (xs : List Run) → find i xs ≡ some r → Rising b xs → insert_run r (delete_run i xs) ≡ xs
insert_delete b i r xs f h =
    rising_unique b _ xs (insert_rising b r (delete_run i xs) (rw e (find_above i b xs r h f)) gone (delete_rising b i xs h)) h
    (λ j. find_insert j r (delete_run i xs) gone ∙ each j)
  where
    e : r.identifier ≡ i
    e = find_named i xs r f

    gone : Absent r.identifier (delete_run i xs)
    gone = rw (e, find_delete b i i xs h, eq-eqb i i refl)

    each : (j : ℕ) → cond (eqb j r.identifier) (some r) (find j (delete_run i xs)) ≡ find j xs
    each j =
        ⊎_elim (λ q. rw (eq-eqb j r.identifier q) (sym (ap (λ (k : ℕ). find k xs) (q ∙ e) ∙ f)))
        (λ d. rw (ne_eqb j r.identifier d, find_delete b j i xs h, ne_eqb j i (λ q. d (q ∙ sym e))))
        (same? j r.identifier)
