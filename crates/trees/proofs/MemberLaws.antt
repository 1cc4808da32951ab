-- Lists of groups by their members: order, filter and append; a list in strict order is settled by its members. Assumes nothing.
use Rattle.trees.specs.Groups.{nth}
use Rattle.std.specs.Prelude.{ℕ, zero, suc, ◌+◌, ◌-◌, ◌≤◌, ◌<◌, ◌≡◌, refl, ◌⊎◌, Bool, true, false, ◌&&◌, ◌||◌, cond, length}
use Rattle.std.proofs.Common.{suc-le-suc, sym, ap, ◌∙◌, inl, inr, ⊎_elim, le_of_suc-le-suc, add-sub_of_le, arith}
use mathlib.Core.List.{List, [], ◌∷◌, ◌++◌, Memᴰ}
use Rattle.std.proofs.lemmas.Bool.{false≢true}
use Rattle.std.proofs.Math.Bool.{or_assoc, or_self_left}
use Rattle.trees.specs.Lists.{tabulate, filter}
use Rattle.trees.specs.Groups.{Group, same, before, member}
use Rattle.trees.specs.Valid.{In, Strict, in_order}
use Rattle.trees.specs.Numbering.{enter, ordered}
use Rattle.trees.proofs.BoolLaws.{and_l, and_r, and_both, or_cases, or_r, or_swap, true_eq}
use Rattle.trees.proofs.ListLaws.{length_tabulate, get_d_tabulate, member_at}
use Rattle.trees.proofs.GroupLaws.{same_refl, same_eq, eq_same}
use Rattle.trees.proofs.OrderLaws.{before_irrefl, before_trans, first, equal, later, order}

-- ---- members

pub in_none : (g : Group) → In g [] → ⊥
unfolding member
in_none g m = false≢true m

pub in_head : (g : Group) (gs : List Group) → In g (g ∷ gs)
unfolding member
in_head g gs = rw same_refl

pub in_tail : (g h : Group) (gs : List Group) → In g gs → In g (h ∷ gs)
unfolding member
in_tail g h gs m = or_r (same g h) (member g gs) m

pub in_cases : (g h : Group) (gs : List Group) → In g (h ∷ gs) → (g ≡ h) ⊎ In g gs
unfolding member
in_cases g h gs m = ⊎_elim (λ e. inl (same_eq g h e)) (λ k. inr k) (or_cases (same g h) (member g gs) m)

pub in_at : (gs : List Group) (i : ℕ) → i < length gs → In (nth gs i) gs
in_at [] i h = absurd (omega arith)
in_at (g ∷ gs) zero h = in_head g gs
in_at (g ∷ gs) (suc i) h = in_tail (nth gs i) g gs (in_at gs i (le_of_suc-le-suc h))

pub at_in : (gs : List Group) (g : Group) → In g gs → (i : ℕ) × (i < length gs) × (nth gs i ≡ g)
at_in [] g m = absurd (in_none g m)
at_in (h ∷ gs) g m = go (in_cases g h gs m) (λ r. at_in gs g r)
  where
    go : (g ≡ h) ⊎ In g gs → (In g gs → (i : ℕ) × (i < length gs) × (nth gs i ≡ g)) → (i : ℕ) × (i < length (h ∷ gs)) × (nth (h ∷ gs) i ≡ g)
    go (inl e) f = (0, omega arith, sym e)
    go (inr r) f = (suc (f r).0, suc-le-suc (f r).1, (f r).2)

pub mem_in : (g : Group) (gs : List Group) → Memᴰ g gs → In g gs
mem_in g [] x' = elim x' [ ]
mem_in g (h ∷ gs) (Memᴰ.head e) = rw e (in_head h gs)
mem_in g (h ∷ gs) (Memᴰ.tail m) = in_tail g h gs (mem_in g gs m)

pub in_mem : (g : Group) (gs : List Group) → In g gs → Memᴰ g gs
in_mem g gs m = let t = at_in gs g m in rw t.2 at (member_at gs t.0 [] t.1)

-- the members of a table are its values
pub in_table : (k : ℕ) (f : ℕ → Group) (s : ℕ) (g : Group) → In g (tabulate k f s) → (v : ℕ) × (s ≤ v) × (v < s + k) × (f v ≡ g)
in_table k f s g m = let t = at_in (tabulate k f s) g m in let h : t.0 < k = omega (arith, length_tabulate k f s) in
    (s + t.0, omega arith, omega arith, sym (get_d_tabulate k f s t.0 [] h) ∙ t.2)

pub table_in : (k : ℕ) (f : ℕ → Group) (s v : ℕ) → s ≤ v → v < s + k → In (f v) (tabulate k f s)
table_in k f s v a b = let h : v - s < k = omega arith in let e : s + (v - s) ≡ v = add-sub_of_le a in
    rw (get_d_tabulate k f s (v - s) [] h, e) at (in_at (tabulate k f s) (v - s) (omega (arith, length_tabulate k f s)))

pub member_enter : (x g : Group) (hs : List Group) → member x (enter g hs) ≡ (same x g || member x hs)
unfolding member enter
member_enter x g [] = refl
member_enter x g (h ∷ hs) = go (before g h) (same g h) refl (member_enter x g hs)
  where
    go : (a b : Bool) → same g h ≡ b → member x (enter g hs) ≡ (same x g || member x hs)
        → member x (cond a (g ∷ h ∷ hs) (cond b (h ∷ hs) (h ∷ enter g hs))) ≡ (same x g || (same x h || member x hs))
    go true b e ih = refl
    go false true e ih = rw (same_eq g h e, or_self_left)
    go false false e ih = rw ih (or_swap (same x h) (same x g) (member x hs))

pub member_ordered : (x : Group) (gs : List Group) → member x (ordered gs) ≡ member x gs
unfolding member ordered
member_ordered x [] = refl
member_ordered x (g ∷ gs) = rw (member_enter, member_ordered x gs)

pub member_append : (x : Group) (gs hs : List Group) → member x (gs ++ hs) ≡ (member x gs || member x hs)
unfolding member
member_append x [] hs = refl
member_append x (g ∷ gs) hs = rw (member_append x gs hs) (sym (or_assoc (same x g) (member x gs) (member x hs)))

pub member_filter : (x : Group) (p : Group → Bool) (gs : List Group) → member x (filter p gs) ≡ (p x && member x gs)
unfolding member filter
member_filter x p [] = true_eq _ _ (λ e. cc) (and_r (p x) false)
member_filter x p (g ∷ gs) = go (p g) refl (same x g) refl (member_filter x p gs)
  where
    go : (a : Bool) → p g ≡ a → (b : Bool) → same x g ≡ b → member x (filter p gs) ≡ (p x && member x gs)
        → member x (cond a (g ∷ filter p gs) (filter p gs)) ≡ (p x && (b || member x gs))
    go true q true e ih = let y : p x ≡ true = ap p (same_eq x g e) ∙ q in rw (e, y)
    go true q false e ih = rw (e, ih)
    go false q true e ih = let y : p x ≡ false = ap p (same_eq x g e) ∙ q in rw (ih, y)
    go false q false e ih = ih

-- ---- strict order

strict_enter : (g : Group) (hs : List Group) → Strict hs → Strict (enter g hs)
unfolding enter
strict_enter g [] s = (λ x m. absurd (in_none x m), tt)
strict_enter g (h ∷ hs) s = go (before g h) refl (same g h) refl (strict_enter g hs s.1)
  where
    go : (a : Bool) → before g h ≡ a → (b : Bool) → same g h ≡ b → Strict (enter g hs) → Strict (cond a (g ∷ h ∷ hs) (cond b (h ∷ hs) (h ∷ enter g hs)))
    go true p b q ih = (λ x m. front x (in_cases x h hs m), s)
      where
        front : (x : Group) → (x ≡ h) ⊎ In x hs → before g x ≡ true
        front x (inl e) = rw e p
        front x (inr m) = before_trans g h x p (s.0 x m)
    go false p true q ih = s
    go false p false q ih = (
      λ x m. back x (⊎_elim (λ e. inl (same_eq x g e)) (λ k. inr k) (or_cases (same x g) (member x hs) (sym (member_enter x g hs) ∙ m))),
      ih,
    )
      where
        other : before h g ≡ true
        other = elim (order g h) [ first e ↦ cc | equal e ↦ cc (eq_same g h e) | later e ↦ e ]

        back : (x : Group) → (x ≡ g) ⊎ In x hs → before h x ≡ true
        back x (inl e) = rw e other
        back x (inr m) = s.0 x m

pub strict_ordered : (gs : List Group) → Strict (ordered gs)
unfolding ordered
strict_ordered [] = tt
strict_ordered (g ∷ gs) = strict_enter g (ordered gs) (strict_ordered gs)

pub strict_filter : (p : Group → Bool) (gs : List Group) → Strict gs → Strict (filter p gs)
unfolding filter
strict_filter p [] s = tt
strict_filter p (g ∷ gs) s = go (p g) (strict_filter p gs s.1)
  where
    go : (a : Bool) → Strict (filter p gs) → Strict (cond a (g ∷ filter p gs) (filter p gs))
    go true r = (λ x m. s.0 x (and_r (p x) (member x gs) (sym (member_filter x p gs) ∙ m)), r)
    go false r = r

-- a table whose values rise is in strict order
pub strict_table : (k : ℕ) (f : ℕ → Group) (s : ℕ) → ((v w : ℕ) → s ≤ v → v < w → w < s + k → before (f v) (f w) ≡ true) → Strict (tabulate k f s)
unfolding tabulate
strict_table zero f s b = tt
strict_table (suc k) f s b = (
  λ x m. let t = in_table k f (suc s) x m in rw (← t.3) (b s t.0 (omega arith) t.1 (omega arith)),
  strict_table k f (suc s) (λ v w h l i. b v w (omega arith) l (omega arith)),
)

-- a group comes before each later one
pub strict_at : (gs : List Group) → Strict gs → (i j : ℕ) → j < i → i < length gs → before (nth gs j) (nth gs i) ≡ true
strict_at [] s i j h k = absurd (omega arith)
strict_at (g ∷ gs) s zero j h k = absurd (omega arith)
strict_at (g ∷ gs) s (suc i) zero h k = s.0 _ (in_at gs i (le_of_suc-le-suc k))
strict_at (g ∷ gs) s (suc i) (suc j) h k = strict_at gs s.1 i j (le_of_suc-le-suc h) (le_of_suc-le-suc k)

tails : (g h : Group) (gs hs : List Group) → g ≡ h → Strict (g ∷ gs) → ((x : Group) → member x (g ∷ gs) ≡ member x (h ∷ hs)) → (x : Group) → In x gs → In x hs
tails g h gs hs e s m x p = go (in_cases x h hs (sym (m x) ∙ in_tail x g gs p))
  where
    go : (x ≡ h) ⊎ In x hs → In x hs
    go (inl q) = absurd (before_irrefl g (rw (q ∙ sym e) at (s.0 x p)))
    go (inr r) = r

-- two lists in strict order with the same members are one list
pub strict_unique : (gs hs : List Group) → Strict gs → Strict hs → ((x : Group) → member x gs ≡ member x hs) → gs ≡ hs
strict_unique [] [] s t m = refl
strict_unique [] (h ∷ hs) s t m = absurd (in_none h (m h ∙ in_head h hs))
strict_unique (g ∷ gs) [] s t m = absurd (in_none g (sym (m g) ∙ in_head g gs))
strict_unique (g ∷ gs) (h ∷ hs) s t m = cc (
  heads,
  strict_unique gs hs s.1 t.1 (λ x. true_eq _ _ (tails g h gs hs heads s (λ y. m y) x) (tails h g hs gs (sym heads) t (λ y. sym (m y)) x)),
)
  where
    heads : g ≡ h
    heads = go (in_cases g h hs (sym (m g) ∙ in_head g gs)) (in_cases h g gs (m h ∙ in_head h hs))
      where
        go : (g ≡ h) ⊎ In g hs → (h ≡ g) ⊎ In h gs → g ≡ h
        go (inl e) b = e
        go (inr a) (inl e) = sym e
        go (inr a) (inr b) = absurd (before_irrefl g (before_trans g h g (s.0 h b) (t.0 g a)))

pub ordered_strict : (gs : List Group) → Strict gs → ordered gs ≡ gs
ordered_strict gs s = strict_unique (ordered gs) gs (strict_ordered gs) s (λ x. member_ordered x gs)

-- a list's order depends on its set of members alone
pub ordered_same : (gs hs : List Group) → ((x : Group) → member x gs ≡ member x hs) → ordered gs ≡ ordered hs
ordered_same gs hs e = strict_unique (ordered gs) (ordered hs) (strict_ordered gs) (strict_ordered hs)
    (λ x. member_ordered x gs ∙ e x ∙ sym (member_ordered x hs))

-- ---- strict order by neighbours

pub strict_cons : (g : Group) (gs : List Group) → (0 < length gs → before g (nth gs 0) ≡ true) → Strict gs → Strict (g ∷ gs)
strict_cons g [] h s = (λ x m. absurd (in_none x m), tt)
strict_cons g (k ∷ gs) h s = (λ x m. go x (in_cases x k gs m), s)
  where
    go : (x : Group) → (x ≡ k) ⊎ In x gs → before g x ≡ true
    go x (inl e) = rw e (h (omega arith))
    go x (inr m) = before_trans g k x (h (omega arith)) (s.0 x m)

pub in_order_strict : (gs : List Group) → in_order gs ≡ true → Strict gs
unfolding in_order
in_order_strict [] e = tt
in_order_strict (g ∷ []) e = strict_cons g [] (λ l. absurd (omega arith)) tt
in_order_strict (g ∷ h ∷ gs) e = strict_cons g (h ∷ gs) (λ l. and_l (before g h) (in_order (h ∷ gs)) e) (in_order_strict (h ∷ gs) (and_r (before g h) _ e))

pub strict_in_order : (gs : List Group) → Strict gs → in_order gs ≡ true
unfolding in_order
strict_in_order [] s = refl
strict_in_order (g ∷ []) s = refl
strict_in_order (g ∷ h ∷ gs) s = and_both (before g h) (in_order (h ∷ gs)) (s.0 h (in_head h gs)) (strict_in_order (h ∷ gs) s.1)
