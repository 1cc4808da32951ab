-- The states of the reading at the bytes that a scan looks for: which go on alike, which go on over a run, which stop. Assumes nothing.
use Rattle.std.specs.Prelude.{ℕ, suc, ◌+◌, ◌*◌, ◌-◌, ◌≤◌, ◌<◌, ◌≡◌, refl, Bool, true, false, List, [], ◌∷◌, length, drop, get_or, ltb}
use Rattle.std.proofs.Common.{add-zero, add-suc, suc-add, add-one, arith, sym, ap, ◌∙◌, ⊎_elim, drop_of_length-le, drop-cons, drop-drop, ltb-true, ltb-false, lt-ltb, le-ltb}
use Rattle.std.proofs.lemmas.Bool.{false≢true}
use Rattle.trees.proofs.BoolLaws.{decide}
use Rattle.newick.specs.Lead.{lead, run, mark_of}
use Rattle.newick.specs.Tree.{Tree, Forest, Stack, depth}
use Rattle.newick.specs.Tree.Mark.{unmarked, marked}
use Rattle.newick.specs.Tree.Tree.{leaf, pair}
use Rattle.newick.specs.Tree.Stack.{opened}
use Rattle.newick.proofs.ByteLaws.{kind_all, kind_blank, kind_digit}
use Rattle.ascii.specs.Decimal.{value_after}
use Rattle.newick.specs.Bytes.{colon_byte, opening_byte, point_byte, nought_byte, kind_of, is_blank, is_digit}
use Rattle.newick.specs.Bytes.Kind.{blank, digit}
use Rattle.newick.specs.Walk.{State, walk, final, step, entered, begun, longer}
use Rattle.newick.specs.Walk.State.{want, sample, closed, support, ended, measure, whole, point, part, measured}
use Rattle.newick.specs.Walk.Move.{stuck, to}
use Rattle.newick.specs.Walk.Parse.{stops}
use Rattle.newick.specs.Grammar.{most_open}
use Rattle.scan.specs.Scanning.{past, from, Fresh, Plain}
use Rattle.scan.specs.RunLaws.{passes_within, past_stop, past_more, past_next, from_to, from_stuck, from_same, from_stops, from_run}

pub clash : {P : Type 0} {x : Bool} → x ≡ true → x ≡ false → P
clash e d = absurd (false≢true (sym d ∙ e))

-- ---- runs

-- blanks pass by
pub blanks_on : (l : List ℕ) (p a : ℕ) (s : State) → step s blank ≡ to s → a ≡ past is_blank l p → from l p s ≡ from l a s
blanks_on l p a s f e = rw e (from_run is_blank l p s (λ b d. rw (kind_blank b d) f))

-- one or more digits lead from s to s' and stay there
pub digits_on : (l : List ℕ) (b c : ℕ) (s s' : State) → ((d : ℕ) → step s (digit d) ≡ to s')
    → ((d : ℕ) → step s' (digit d) ≡ to s') → c ≡ past is_digit l b → (c ≡ b → ⊥)
    → from l b s ≡ from l c s'
digits_on l b c s s' f g u n = go (is_digit (get_or l b 0)) refl
  where
    go : (x : Bool) → is_digit (get_or l b 0) ≡ x → from l b s ≡ from l c s'
    go false e = absurd (n (u ∙ past_stop is_digit l b e))
    go true e =
        let h = passes_within is_digit l b refl e in
        rw u (from_to l b s s' h (rw (kind_digit (get_or l b 0) e) (f (get_or l b 0 - nought_byte)))
        ∙ from_run is_digit l (b + 1) s' (λ i d. rw (kind_digit i d) (g (i - nought_byte)))
        ∙ ap (λ (i : ℕ). from l i s') (sym (past_more is_digit l b h e)))

-- ---- states that go on alike

-- after a subtree, at no blank and no colon
pub ended_measured : (l : List ℕ) (a : ℕ) (k : Stack) (t : Tree) → Fresh l a → (get_or l a 0 ≡ colon_byte → ⊥)
    → from l a (ended k t) ≡ from l a (measured k t)
unfolding step final
ended_measured l a k t f g =
    from_same l a (ended k t) (measured k t)
    (λ h. kind_all (λ b. step (ended k t) b ≡ step (measured k t) b) (get_or l a 0)
    (λ e. clash e (f h)) (λ e. refl) (λ e. refl) (λ e. refl) (λ e. refl) (λ e. refl) (λ e. absurd (g e)) (λ e. refl) refl)
    refl

-- after the digits of a number, at no digit and no point
pub whole_measured : (l : List ℕ) (a : ℕ) (k : Stack) (t : Tree) → Plain l a → (get_or l a 0 ≡ point_byte → ⊥)
    → from l a (whole k t) ≡ from l a (measured k t)
unfolding step final
whole_measured l a k t f g =
    from_same l a (whole k t) (measured k t)
    (λ h. kind_all (λ b. step (whole k t) b ≡ step (measured k t) b) (get_or l a 0)
    (λ e. refl) (λ e. clash e (f h)) (λ e. refl) (λ e. refl) (λ e. refl) (λ e. refl) (λ e. refl) (λ e. absurd (g e)) refl)
    refl

-- after the digits behind a point, at no digit
pub part_measured : (l : List ℕ) (a : ℕ) (k : Stack) (t : Tree) → Plain l a → from l a (part k t) ≡ from l a (measured k t)
unfolding step final
part_measured l a k t f =
    from_same l a (part k t) (measured k t)
    (λ h. kind_all (λ b. step (part k t) b ≡ step (measured k t) b) (get_or l a 0)
    (λ e. refl) (λ e. clash e (f h)) (λ e. refl) (λ e. refl) (λ e. refl) (λ e. refl) (λ e. refl) (λ e. refl) refl)
    refl

-- after the digits of a sample, at no digit, and where no digit may come
pub sample_ended : (l : List ℕ) (a x c : ℕ) (k : Stack) → Plain l a → from l a (sample k x c) ≡ from l a (ended k (leaf x))
unfolding step final
sample_ended l a x c k f =
    from_same l a (sample k x c) (ended k (leaf x))
    (λ h. kind_all (λ b. step (sample k x c) b ≡ step (ended k (leaf x)) b) (get_or l a 0)
    (λ e. refl) (λ e. clash e (f h)) (λ e. refl) (λ e. refl) (λ e. refl) (λ e. refl) (λ e. refl) (λ e. refl) refl)
    refl

pub sample_full : (l : List ℕ) (a x : ℕ) (k : Stack) → from l a (sample k x 0) ≡ from l a (ended k (leaf x))
unfolding step final longer
sample_full l a x k =
    from_same l a (sample k x 0) (ended k (leaf x))
    (λ h. kind_all (λ b. step (sample k x 0) b ≡ step (ended k (leaf x)) b) (get_or l a 0)
    (λ e. refl) (λ e. refl) (λ e. refl) (λ e. refl) (λ e. refl) (λ e. refl) (λ e. refl) (λ e. refl) refl)
    refl

-- after the digits of a mark, at no digit; after a closing bracket, at no blank and no digit
support_ended : (l : List ℕ) (a : ℕ) (k : Stack) (g : Forest) (x : ℕ) → Plain l a
    → from l a (support k g x) ≡ from l a (ended k (pair g (marked x)))
unfolding step final
support_ended l a k g x f =
    from_same l a (support k g x) (ended k (pair g (marked x)))
    (λ h. kind_all (λ b. step (support k g x) b ≡ step (ended k (pair g (marked x))) b) (get_or l a 0)
    (λ e. refl) (λ e. clash e (f h)) (λ e. refl) (λ e. refl) (λ e. refl) (λ e. refl) (λ e. refl) (λ e. refl) refl)
    refl

closed_ended : (l : List ℕ) (a : ℕ) (k : Stack) (g : Forest) → Fresh l a → Plain l a
    → from l a (closed k g) ≡ from l a (ended k (pair g unmarked))
unfolding step final
closed_ended l a k g n f =
    from_same l a (closed k g) (ended k (pair g unmarked))
    (λ h. kind_all (λ b. step (closed k g) b ≡ step (ended k (pair g unmarked)) b) (get_or l a 0)
    (λ e. clash e (n h)) (λ e. clash e (f h)) (λ e. refl) (λ e. refl) (λ e. refl) (λ e. refl) (λ e. refl) (λ e. refl) refl)
    refl

-- ---- the mark after a closing bracket

support_run : (k : Stack) (g : Forest) (m : List ℕ) (x p : ℕ)
    → walk (support k g x) p m ≡ walk (support k g (value_after x (run is_digit m))) (p + lead is_digit m) (drop (lead is_digit m) m)
unfolding walk step lead run value_after
support_run k g [] x p = rw (add-zero p)
support_run k g (b ∷ m) x p = go (is_digit b) refl (support_run k g m)
  where
    go : (y : Bool) → is_digit b ≡ y
        → ((z i : ℕ) → walk (support k g z) i m ≡ walk (support k g (value_after z (run is_digit m))) (i + lead is_digit m)
        (drop (lead is_digit m) m))
        → walk (support k g x) p (b ∷ m) ≡ walk (support k g (value_after x (run is_digit (b ∷ m)))) (p + lead is_digit (b ∷ m))
        (drop (lead is_digit (b ∷ m)) (b ∷ m))
    go true e f = rw (e, kind_digit b e, add-suc p (lead is_digit m), sym (suc-add p (lead is_digit m))) (f (x * 10 + (b - nought_byte)) (suc p))
    go false e f = rw (e, add-zero p)

from_support : (l : List ℕ) (p : ℕ) (k : Stack) (g : Forest) (x : ℕ)
    → from l p (support k g x) ≡ from l (past is_digit l p) (support k g (value_after x (run is_digit (drop p l))))
from_support l p k g x = support_run k g (drop p l) x p
    ∙ ap (walk (support k g (value_after x (run is_digit (drop p l)))) (past is_digit l p)) (drop-drop (lead is_digit (drop p l)) p l)

-- the digits at b, if there are any, are a mark
pub digits_ended : (l : List ℕ) (b : ℕ) (k : Stack) (g : Forest) → Fresh l b
    → from l b (closed k g) ≡ from l (past is_digit l b) (ended k (pair g (mark_of (run is_digit (drop b l)))))
unfolding step run
digits_ended l b k g f = go (is_digit (get_or l b 0)) refl
  where
    none : (is_digit (get_or l b 0) ≡ false) → run is_digit (drop b l) ≡ []
    none d = ⊎_elim (λ e. rw (drop-cons l b 0 (ltb-true b (length l) e), d) refl)
        (λ e. rw (drop_of_length-le l (ltb-false b (length l) e)) refl) (decide (ltb b (length l)))

    go : (y : Bool) → is_digit (get_or l b 0) ≡ y
        → from l b (closed k g) ≡ from l (past is_digit l b) (ended k (pair g (mark_of (run is_digit (drop b l)))))
    go false d = closed_ended l b k g f (λ h. d) ∙ ap (λ (i : ℕ). from l i (ended k (pair g unmarked))) (sym (past_stop is_digit l b d))
        ∙ ap (λ (ds : List ℕ). from l (past is_digit l b) (ended k (pair g (mark_of ds)))) (sym (none d))
    go true d =
        let w = passes_within is_digit l b refl d in
        let z : drop (b + 1) l ≡ drop (suc b) l = ap (λ (i : ℕ). drop i l) (add-one b) in
        from_to l b (closed k g) (support k g (get_or l b 0 - nought_byte)) w (rw (kind_digit (get_or l b 0) d))
        ∙ from_support l (b + 1) k g (get_or l b 0 - nought_byte)
        ∙ support_ended l (past is_digit l (b + 1)) k g _ (past_next is_digit l (b + 1) (past is_digit l (b + 1)) refl)
        ∙ rw (past_more is_digit l b w d, drop-cons l b 0 w, d, z) refl

-- ---- states that stop

-- after a colon, at no blank and no digit; after a point, at no digit
pub measure_stops : (l : List ℕ) (b : ℕ) (k : Stack) (t : Tree) → Fresh l b → Plain l b → from l b (measure k t) ≡ stops b
unfolding step final
measure_stops l b k t n f =
    from_stops l b (measure k t)
    (λ h. kind_all (λ c. step (measure k t) c ≡ stuck) (get_or l b 0)
    (λ e. clash e (n h)) (λ e. clash e (f h)) (λ e. refl) (λ e. refl) (λ e. refl) (λ e. refl) (λ e. refl) (λ e. refl) refl)
    refl

pub point_stops : (l : List ℕ) (b : ℕ) (k : Stack) (t : Tree) → Plain l b → from l b (point k t) ≡ stops b
unfolding step final
point_stops l b k t f =
    from_stops l b (point k t)
    (λ h. kind_all (λ c. step (point k t) c ≡ stuck) (get_or l b 0)
    (λ e. refl) (λ e. clash e (f h)) (λ e. refl) (λ e. refl) (λ e. refl) (λ e. refl) (λ e. refl) (λ e. refl) refl)
    refl

-- ---- where a subtree has to come: digits, an opening bracket if one may come, and else nothing

pub want_opens : (l : List ℕ) (a d : ℕ) (k : Stack) → a < length l → get_or l a 0 ≡ opening_byte → 0 < d → depth k + d ≡ most_open
    → from l a (want k) ≡ from l (a + 1) (want (opened k))
unfolding step kind_of entered
want_opens l a d k w b h e =
    let z : depth k < most_open = omega arith in from_to l a (want k) (want (opened k)) w (rw (b, lt-ltb (depth k) most_open z))

pub want_full : (l : List ℕ) (a d : ℕ) (k : Stack) → a < length l → get_or l a 0 ≡ opening_byte → d ≡ 0 → depth k + d ≡ most_open
    → from l a (want k) ≡ stops a
unfolding step kind_of entered
want_full l a d k w b h e = let z : most_open ≤ depth k = omega arith in from_stuck l a (want k) w (rw (b, le-ltb (depth k) most_open z))

pub want_stops : (l : List ℕ) (a : ℕ) (k : Stack) → Fresh l a → Plain l a → (get_or l a 0 ≡ opening_byte → ⊥) → from l a (want k) ≡ stops a
unfolding step final
want_stops l a k n f g =
    from_stops l a (want k)
    (λ w. kind_all (λ c. step (want k) c ≡ stuck) (get_or l a 0)
    (λ z. clash z (n w)) (λ z. clash z (f w)) (λ z. absurd (g z)) (λ z. refl) (λ z. refl) (λ z. refl) (λ z. refl) (λ z. refl) refl)
    refl

-- the first digit of a sample, and one more
pub sample_begins : (l : List ℕ) (a f : ℕ) (k : Stack) → a < length l → is_digit (get_or l a 0) ≡ true → f ≡ get_or l a 0 - nought_byte
    → from l a (want k) ≡ from l (a + 1) (begun k f)
unfolding step
sample_begins l a f k h e d = rw d (from_to l a (want k) (begun k (get_or l a 0 - nought_byte)) h (rw (kind_digit (get_or l a 0) e)))

pub sample_longer : (l : List ℕ) (i x c d : ℕ) (k : Stack) → i < length l → is_digit (get_or l i 0) ≡ true → d ≡ get_or l i 0 - nought_byte
    → from l i (sample k x (suc c)) ≡ from l (i + 1) (sample k (x * 10 + d) c)
unfolding step longer
sample_longer l i x c d k h e g =
    rw g (from_to l i (sample k x (suc c)) (sample k (x * 10 + (get_or l i 0 - nought_byte)) c) h (rw (kind_digit (get_or l i 0) e)))
