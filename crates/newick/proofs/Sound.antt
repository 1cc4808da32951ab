-- What is read is of the form. Assumes nothing.
use Rattle.std.specs.Prelude.{ℕ, zero, suc, ◌+◌, ◌*◌, ◌-◌, ◌≤◌, ◌<◌, ◌≡◌, refl, Bool, true, false, List, [], ◌∷◌, ◌++◌, length, eqb, ltb}
use Rattle.std.proofs.Common.{arith, sym, ap, subst, ◌∙◌, eqb-true, ltb-true, append_assoc, append-nil}
use Rattle.std.proofs.lemmas.Bool.{eqb-false}
use Rattle.ascii.specs.Decimal.{value_after}
use Rattle.newick.specs.Tree.{Mark, Tree, Forest, Stack, depth}
use Rattle.newick.specs.Tree.Mark.{unmarked, marked}
use Rattle.newick.specs.Tree.Tree.{leaf, pair}
use Rattle.newick.specs.Tree.Forest.{only, more}
use Rattle.newick.specs.Tree.Stack.{top, opened, later}
use Rattle.newick.specs.Bytes.{closing_byte, colon_byte, comma_byte, nought_byte, opening_byte, point_byte, semicolon_byte}
use Rattle.newick.specs.Bytes.{kind_of, is_blank, is_digit}
use Rattle.newick.specs.Walk.{State, Move, parsed, walk, final, step, follow, allowed, entered, begun, longer, shut, next, last}
use Rattle.newick.specs.Walk.State.{want, sample, closed, support, ended, measure, whole, point, part, measured, done}
use Rattle.newick.specs.Walk.Move.{stuck, to}
use Rattle.newick.specs.Walk.Parse.{reads, stops}
use Rattle.newick.proofs.ByteLaws.{kind_all, begun_zero, begun_other, digit_range}
use Rattle.newick.specs.Grammar.{All, Blanks, Digits, Sample, Number, Support, Length, Subtree, Subtrees, most_open, Text}
use Rattle.newick.specs.Grammar.All.{none, and}
use Rattle.newick.specs.Grammar.Digits.{digits}
use Rattle.std.proofs.Math.Seq.{append_snoc}

-- l opens the brackets of a stack
pub data Open : Stack → List ℕ → Type 0 where
  bottom : Open top []
  bracket : (k : Stack) (w l a : List ℕ) → w ≡ l ++ (a ++ (opening_byte ∷ [])) → Blanks a → depth k < most_open → Open k l
      → Open (opened k) w
  commaed : (k : Stack) (f : Forest) (w l m : List ℕ) (d : ℕ) → w ≡ l ++ (m ++ (comma_byte ∷ [])) → suc (depth k) + d ≡ most_open
      → Open (opened k) l → Subtrees d m f → Open (later k f) w

-- l ends the subtree t in a stack
pub record Fits (k : Stack) (l : List ℕ) (t : Tree) : Type 0 where
  pub base : List ℕ
  pub word : List ℕ
  pub split : l ≡ base ++ word
  pub opens : Open k base
  pub d : ℕ
  pub deep : depth k + d ≡ most_open
  pub sub : Subtree d word t

pub record Wants (k : Stack) (l : List ℕ) : Type 0 where
  pub base : List ℕ
  pub gap : List ℕ
  pub split : l ≡ base ++ gap
  pub opens : Open k base
  pub blanks : Blanks gap

-- what has been read in a state, by what may still come
pub Before : State → List ℕ → Type 0
Before (want k) l = Wants k l
Before (sample k x c) l = (n m : List ℕ) → All is_digit n → length n ≤ c → Length m → Fits k (l ++ (n ++ m)) (leaf (value_after x n))
Before (closed k f) l = (s m : List ℕ) (μ : Mark) → Support s μ → Length m → Fits k (l ++ (s ++ m)) (pair f μ)
Before (support k f x) l = (n m : List ℕ) → All is_digit n → Length m → Fits k (l ++ (n ++ m)) (pair f (marked (value_after x n)))
Before (ended k t) l = (m : List ℕ) → Length m → Fits k (l ++ m) t
Before (measure k t) l = (b n c : List ℕ) → Blanks b → Number n → Blanks c → Fits k (l ++ (b ++ (n ++ c))) t
Before (whole k t) l = ((n c : List ℕ) → All is_digit n → Blanks c → Fits k (l ++ (n ++ c)) t) ×
    ((n m c : List ℕ) → All is_digit n → Digits m → Blanks c → Fits k (l ++ (n ++ (point_byte ∷ (m ++ c)))) t)
Before (point k t) l = (n c : List ℕ) → Digits n → Blanks c → Fits k (l ++ (n ++ c)) t
Before (part k t) l = (n c : List ℕ) → All is_digit n → Blanks c → Fits k (l ++ (n ++ c)) t
Before (measured k t) l = (c : List ℕ) → Blanks c → Fits k (l ++ c) t
Before (done t) l = (a : List ℕ) → Blanks a → Text (l ++ a) t

-- a pair of brackets, from its opening
close_by : {k : Stack} {w : List ℕ} → Open (opened k) w → (v : List ℕ) (f : Forest) (d : ℕ) → suc (depth k) + d ≡ most_open
    → Subtrees d v f
    → (s m : List ℕ) (μ : Mark) → Support s μ → Length m → Fits k (w ++ (v ++ (closing_byte ∷ (s ++ m)))) (pair f μ)
close_by (Open.bracket k w l a e b h o) v f d n u s m μ x y =
    record {
      base = l;
      word = a ++ (opening_byte ∷ (v ++ (closing_byte ∷ (s ++ m))));
      split = rw e (simp append_assoc);
      opens = o;
      d = suc d;
      deep = omega arith;
      sub = Subtree.a_pair d (a ++ (opening_byte ∷ (v ++ (closing_byte ∷ (s ++ m))))) a v s m f μ refl b u x y;
    }

-- the subtrees of an open bracket, with one more
pub record Holds (k : Stack) (l : List ℕ) (f : Forest) : Type 0 where
  pub base : List ℕ
  pub word : List ℕ
  pub split : l ≡ base ++ word
  pub opens : Open (opened k) base
  pub d : ℕ
  pub deep : suc (depth k) + d ≡ most_open
  pub subs : Subtrees d word f

holds_first : (k : Stack) (l : List ℕ) (t : Tree) → Fits (opened k) l t → Holds k l (only t)
unfolding depth
holds_first k l t f =
    record {
      base = f.base;
      word = f.word;
      split = f.split;
      opens = f.opens;
      d = f.d;
      deep = f.deep;
      subs = Subtrees.one f.d f.word t f.sub;
    }

holds_later_at : {k : Stack} {g : Forest} {w : List ℕ} → Open (later k g) w → (v : List ℕ) (t : Tree) (d : ℕ)
    → suc (depth k) + d ≡ most_open → Subtree d v t → Holds k (w ++ v) (more g t)
holds_later_at (Open.commaed k f w l m c e n o s) v t d h u =
    let z : d ≡ c = omega arith in
    record {
      base = l;
      word = m ++ (comma_byte ∷ v);
      split = rw e (simp append_assoc);
      opens = o;
      d = c;
      deep = n;
      subs = Subtrees.parted c (m ++ (comma_byte ∷ v)) m v f t refl s (subst (λ (i : ℕ). Subtree i v t) z u);
    }

holds_later : (k : Stack) (g : Forest) (l : List ℕ) (t : Tree) → Fits (later k g) l t → Holds k l (more g t)
unfolding depth
holds_later k g l t f = rw f.split (holds_later_at f.opens f.word t f.d f.deep f.sub)

holds_closed : (k : Stack) (l : List ℕ) (f : Forest) → Holds k l f → Before (closed k f) (l ++ (closing_byte ∷ []))
unfolding Before
holds_closed k l f h s m μ x y =
    subst (λ (z : List ℕ). Fits k z (pair f μ)) (let e : h.base ++ (h.word ++ (closing_byte ∷ (s ++ m))) ≡
    (l ++ (closing_byte ∷ [])) ++ (s ++ m) =
    rw h.split (simp append_assoc) in e)
    (close_by h.opens h.word f h.d h.deep h.subs s m μ x y)

holds_comma : (k : Stack) (l : List ℕ) (f : Forest) → Holds k l f → Before (want (later k f)) (l ++ (comma_byte ∷ []))
unfolding Before
holds_comma k l f h =
    record {
      base = l ++ (comma_byte ∷ []);
      gap = [];
      split = sym (append-nil (l ++ (comma_byte ∷ [])));
      blanks = none;
      opens = Open.commaed k f (l ++ (comma_byte ∷ [])) h.base h.word h.d (rw h.split (simp append_assoc)) h.deep h.opens
          h.subs;
    }

-- "to" determines the state
to_inj : (s s' : State) → to s ≡ to s' → s ≡ s'
to_inj s s' e = cc

never : {P : Type 0} {s : State} → stuck ≡ to s → P
never e = absurd (let z : ◌≡◌ {A = ℕ} 0 1 = cc in omega arith)

-- a closing bracket, a comma and the semicolon
shut_keeps : (k : Stack) (l : List ℕ) (t : Tree) (s' : State) → Fits k l t → shut k t ≡ to s' → Before s' (l ++ (closing_byte ∷ []))
unfolding shut
shut_keeps top l t s' f e = never e
shut_keeps (opened k) l t s' f e = subst (λ (z : State). Before z (l ++ (closing_byte ∷ []))) (to_inj (closed k (only t)) s' e)
    (holds_closed k l (only t) (holds_first k l t f))
shut_keeps (later k g) l t s' f e = subst (λ (z : State). Before z (l ++ (closing_byte ∷ []))) (to_inj (closed k (more g t)) s' e)
    (holds_closed k l (more g t) (holds_later k g l t f))

next_keeps : (k : Stack) (l : List ℕ) (t : Tree) (s' : State) → Fits k l t → next k t ≡ to s' → Before s' (l ++ (comma_byte ∷ []))
unfolding next
next_keeps top l t s' f e = never e
next_keeps (opened k) l t s' f e = subst (λ (z : State). Before z (l ++ (comma_byte ∷ []))) (to_inj (want (later k (only t))) s' e)
    (holds_comma k l (only t) (holds_first k l t f))
next_keeps (later k g) l t s' f e = subst (λ (z : State). Before z (l ++ (comma_byte ∷ []))) (to_inj (want (later k (more g t))) s' e)
    (holds_comma k l (more g t) (holds_later k g l t f))

open_top : {l : List ℕ} → Open top l → l ≡ []
open_top Open.bottom = refl

done_by : (l : List ℕ) (t : Tree) → Fits top l t → Before (done t) (l ++ (semicolon_byte ∷ []))
unfolding Before depth
done_by l t f a b =
    let n : f.d ≡ most_open = omega (arith, f.deep) in
    let w : l ≡ f.word = f.split ∙ ap (◌++ f.word) (open_top f.opens) in
    let u : Subtree most_open l t = rw w (subst (λ (i : ℕ). Subtree i f.word t) n f.sub) in
    subst (λ (z : List ℕ). Text z t) (let y : l ++ (semicolon_byte ∷ a) ≡ (l ++ (semicolon_byte ∷ [])) ++ a = simp append_assoc in y)
    (Text.a_text l a t u b)

last_keeps : (k : Stack) (l : List ℕ) (t : Tree) (s' : State) → Fits k l t → last k t ≡ to s' → Before s' (l ++ (semicolon_byte ∷ []))
unfolding last
last_keeps top l t s' f e = subst (λ (z : State). Before z (l ++ (semicolon_byte ∷ []))) (to_inj (done t) s' e) (done_by l t f)
last_keeps (opened k) l t s' f e = never e
last_keeps (later k g) l t s' f e = never e

come : (s s' : State) (l : List ℕ) → to s ≡ to s' → Before s l → Before s' l
come s s' l e h = subst (λ (z : State). Before z l) (to_inj s s' e) h

at_byte : (s' : State) (l : List ℕ) (b c : ℕ) → b ≡ c → Before s' (l ++ (c ∷ [])) → Before s' (l ++ (b ∷ []))
at_byte s' l b c e h = subst (λ (i : ℕ). Before s' (l ++ (i ∷ []))) (sym e) h

shift : (k : Stack) (t : Tree) (l : List ℕ) (b : ℕ) (r : List ℕ) → Fits k (l ++ (b ∷ r)) t → Fits k ((l ++ (b ∷ [])) ++ r) t
shift k t l b r h = subst (λ (z : List ℕ). Fits k z t) (sym (append_snoc l b r)) h

here : (k : Stack) (t : Tree) (l : List ℕ) → Fits k (l ++ []) t → Fits k l t
here k t l h = subst (λ (z : List ℕ). Fits k z t) (append-nil l) h

length_cons : {m : List ℕ} (b : ℕ) → is_blank b ≡ true → Length m → Length (b ∷ m)
length_cons b e (Length.lengthless a x) = Length.lengthless (b ∷ a) (and b a e x)
length_cons b e (Length.lengthed a c d l x y n z) = Length.lengthed (b ∷ a) c d l (and b a e x) y n z

support_cons : {m : List ℕ} {μ : Mark} (b : ℕ) → is_blank b ≡ true → Support m μ → Support (b ∷ m) μ
support_cons b e (Support.unsupported a x) = Support.unsupported (b ∷ a) (and b a e x)
support_cons b e (Support.supported a c l x d y) = Support.supported (b ∷ a) c l (and b a e x) d y

no_length : Length []
no_length = Length.lengthless [] none

colon_length : (b n c : List ℕ) → Blanks b → Number n → Blanks c → Length (colon_byte ∷ (b ++ (n ++ c)))
colon_length b n c x y z = Length.lengthed [] b c n none x y z

keep_ended : (k : Stack) (t : Tree) (l : List ℕ) (b : ℕ) (s' : State) → Before (ended k t) l
    → step (ended k t) (kind_of b) ≡ to s' → Before s' (l ++ (b ∷ []))
unfolding Before step value_after longer
keep_ended k t l b s' f =
    kind_all (λ κ. step (ended k t) κ ≡ to s' → Before s' (l ++ (b ∷ []))) b
    (λ z e. come (ended k t) s' (l ++ (b ∷ [])) e (λ m y. shift k t l b m (f (b ∷ m) (length_cons b z y))))
    (λ z e. never e)
    (λ z e. never e)
    (λ z e. at_byte s' l b closing_byte z (shut_keeps k l t s' (here k t l (f [] no_length)) e))
    (λ z e. at_byte s' l b comma_byte z (next_keeps k l t s' (here k t l (f [] no_length)) e))
    (λ z e. at_byte s' l b semicolon_byte z (last_keeps k l t s' (here k t l (f [] no_length)) e))
    (λ z e. at_byte s' l b colon_byte z (come (measure k t) s' (l ++ (colon_byte ∷ [])) e
    (λ u n c x y w. shift k t l colon_byte (u ++ (n ++ c)) (f (colon_byte ∷ (u ++ (n ++ c))) (colon_length u n c x y w)))))
    (λ z e. never e)
    (λ e. never e)

keep_support : (k : Stack) (g : Forest) (i : ℕ) (l : List ℕ) (b : ℕ) (s' : State) → Before (support k g i) l
    → step (support k g i) (kind_of b) ≡ to s' → Before s' (l ++ (b ∷ []))
unfolding Before step value_after longer
keep_support k g i l b s' f =
    let t = pair g (marked i) in
    kind_all (λ κ. step (support k g i) κ ≡ to s' → Before s' (l ++ (b ∷ []))) b
    (λ z e. come (ended k t) s' (l ++ (b ∷ [])) e (λ m y. shift k t l b m (f [] (b ∷ m) none (length_cons b z y))))
    (λ z e. come (support k g (i * 10 + (b - nought_byte))) s' (l ++ (b ∷ [])) e
    (λ n m a y. shift k (pair g (marked (value_after (i * 10 + (b - nought_byte)) n))) l b (n ++ m) (f (b ∷ n) m (and b n z a) y)))
    (λ z e. never e)
    (λ z e. at_byte s' l b closing_byte z (shut_keeps k l t s' (here k t l (f [] [] none no_length)) e))
    (λ z e. at_byte s' l b comma_byte z (next_keeps k l t s' (here k t l (f [] [] none no_length)) e))
    (λ z e. at_byte s' l b semicolon_byte z (last_keeps k l t s' (here k t l (f [] [] none no_length)) e))
    (λ z e. at_byte s' l b colon_byte z (come (measure k t) s' (l ++ (colon_byte ∷ [])) e
    (λ u n c x y w. shift k t l colon_byte (u ++ (n ++ c)) (f [] (colon_byte ∷ (u ++ (n ++ c))) none (colon_length u n c x y w)))))
    (λ z e. never e)
    (λ e. never e)

keep_closed : (k : Stack) (g : Forest) (l : List ℕ) (b : ℕ) (s' : State) → Before (closed k g) l
    → step (closed k g) (kind_of b) ≡ to s' → Before s' (l ++ (b ∷ []))
unfolding Before step value_after longer
keep_closed k g l b s' f =
    let t = pair g unmarked in
    kind_all (λ κ. step (closed k g) κ ≡ to s' → Before s' (l ++ (b ∷ []))) b
    (λ z e. come (closed k g) s' (l ++ (b ∷ [])) e (λ n m μ x y. shift k (pair g μ) l b (n ++ m)
    (f (b ∷ n) m μ (support_cons b z x) y)))
    (λ z e. come (support k g (b - nought_byte)) s' (l ++ (b ∷ [])) e
    (λ n m a y. shift k (pair g (marked (value_after (b - nought_byte) n))) l b
    (n ++ m) (f (b ∷ n) m (marked (value_after (b - nought_byte) n)) (Support.supported [] b n none z a) y)))
    (λ z e. never e)
    (λ z e. at_byte s' l b closing_byte z (shut_keeps k l t s' (here k t l (f [] [] unmarked (Support.unsupported [] none) no_length)) e))
    (λ z e. at_byte s' l b comma_byte z (next_keeps k l t s' (here k t l (f [] [] unmarked (Support.unsupported [] none) no_length)) e))
    (λ z e. at_byte s' l b semicolon_byte z (last_keeps k l t s' (here k t l (f [] [] unmarked (Support.unsupported [] none) no_length)) e))
    (λ z e. at_byte s' l b colon_byte z (come (measure k t) s' (l ++ (colon_byte ∷ [])) e
    (λ u n c x y w. shift k t l colon_byte (u ++ (n ++ c)) (f [] (colon_byte ∷ (u ++ (n ++ c))) unmarked (Support.unsupported [] none)
    (colon_length u n c x y w)))))
    (λ z e. never e)
    (λ e. never e)

keep_measure : (k : Stack) (t : Tree) (l : List ℕ) (b : ℕ) (s' : State) → Before (measure k t) l
    → step (measure k t) (kind_of b) ≡ to s' → Before s' (l ++ (b ∷ []))
unfolding Before step value_after longer
keep_measure k t l b s' f =
    kind_all (λ κ. step (measure k t) κ ≡ to s' → Before s' (l ++ (b ∷ []))) b
    (λ z e. come (measure k t) s' (l ++ (b ∷ [])) e (λ u n c x y w. shift k t l b (u ++ (n ++ c)) (f (b ∷ u) n c (and b u z x) y w)))
    (λ z e. come (whole k t) s' (l ++ (b ∷ [])) e (
      (λ n c a w. shift k t l b (n ++ c)
          (f [] (b ∷ n) c none (Number.plain (b ∷ n) (digits b n z a)) w)),
      (λ n m c a d w. shift k t l b (n ++ (point_byte ∷ (m ++ c)))
          (subst (λ (r : List ℕ). Fits k (l ++ (b ∷ r)) t) (append_assoc n (point_byte ∷ m) c)
          (f [] ((b ∷ n) ++ (point_byte ∷ m)) c none (Number.pointed (b ∷ n) m (digits b n z a) d) w))),
    ))
    (λ z e. never e)
    (λ z e. never e)
    (λ z e. never e)
    (λ z e. never e)
    (λ z e. never e)
    (λ z e. never e)
    (λ e. never e)

keep_whole : (k : Stack) (t : Tree) (l : List ℕ) (b : ℕ) (s' : State) → Before (whole k t) l
    → step (whole k t) (kind_of b) ≡ to s' → Before s' (l ++ (b ∷ []))
unfolding Before step value_after longer
keep_whole k t l b s' f =
    kind_all (λ κ. step (whole k t) κ ≡ to s' → Before s' (l ++ (b ∷ []))) b
    (λ z e. come (measured k t) s' (l ++ (b ∷ [])) e (λ c w. shift k t l b c (f.0 [] (b ∷ c) none (and b c z w))))
    (λ z e. come (whole k t) s' (l ++ (b ∷ [])) e (
      (λ n c a w. shift k t l b (n ++ c) (f.0 (b ∷ n) c (and b n z a) w)),
      (λ n m c a d w. shift k t l b (n ++ (point_byte ∷ (m ++ c))) (f.1 (b ∷ n) m c (and b n z a) d w)),
    ))
    (λ z e. never e)
    (λ z e. at_byte s' l b closing_byte z (shut_keeps k l t s' (here k t l (f.0 [] [] none none)) e))
    (λ z e. at_byte s' l b comma_byte z (next_keeps k l t s' (here k t l (f.0 [] [] none none)) e))
    (λ z e. at_byte s' l b semicolon_byte z (last_keeps k l t s' (here k t l (f.0 [] [] none none)) e))
    (λ z e. never e)
    (λ z e. at_byte s' l b point_byte z (come (point k t) s' (l ++ (point_byte ∷ [])) e
    (λ n c d w. shift k t l point_byte (n ++ c) (f.1 [] n c none d w))))
    (λ e. never e)

keep_point : (k : Stack) (t : Tree) (l : List ℕ) (b : ℕ) (s' : State) → Before (point k t) l
    → step (point k t) (kind_of b) ≡ to s' → Before s' (l ++ (b ∷ []))
unfolding Before step value_after longer
keep_point k t l b s' f =
    kind_all (λ κ. step (point k t) κ ≡ to s' → Before s' (l ++ (b ∷ []))) b
    (λ z e. never e)
    (λ z e. come (part k t) s' (l ++ (b ∷ [])) e (λ n c a w. shift k t l b (n ++ c) (f (b ∷ n) c (digits b n z a) w)))
    (λ z e. never e)
    (λ z e. never e)
    (λ z e. never e)
    (λ z e. never e)
    (λ z e. never e)
    (λ z e. never e)
    (λ e. never e)

keep_part : (k : Stack) (t : Tree) (l : List ℕ) (b : ℕ) (s' : State) → Before (part k t) l
    → step (part k t) (kind_of b) ≡ to s' → Before s' (l ++ (b ∷ []))
unfolding Before step value_after longer
keep_part k t l b s' f =
    kind_all (λ κ. step (part k t) κ ≡ to s' → Before s' (l ++ (b ∷ []))) b
    (λ z e. come (measured k t) s' (l ++ (b ∷ [])) e (λ c w. shift k t l b c (f [] (b ∷ c) none (and b c z w))))
    (λ z e. come (part k t) s' (l ++ (b ∷ [])) e (λ n c a w. shift k t l b (n ++ c) (f (b ∷ n) c (and b n z a) w)))
    (λ z e. never e)
    (λ z e. at_byte s' l b closing_byte z (shut_keeps k l t s' (here k t l (f [] [] none none)) e))
    (λ z e. at_byte s' l b comma_byte z (next_keeps k l t s' (here k t l (f [] [] none none)) e))
    (λ z e. at_byte s' l b semicolon_byte z (last_keeps k l t s' (here k t l (f [] [] none none)) e))
    (λ z e. never e)
    (λ z e. never e)
    (λ e. never e)

keep_measured : (k : Stack) (t : Tree) (l : List ℕ) (b : ℕ) (s' : State) → Before (measured k t) l
    → step (measured k t) (kind_of b) ≡ to s' → Before s' (l ++ (b ∷ []))
unfolding Before step value_after longer
keep_measured k t l b s' f =
    kind_all (λ κ. step (measured k t) κ ≡ to s' → Before s' (l ++ (b ∷ []))) b
    (λ z e. come (measured k t) s' (l ++ (b ∷ [])) e (λ c w. shift k t l b c (f (b ∷ c) (and b c z w))))
    (λ z e. never e)
    (λ z e. never e)
    (λ z e. at_byte s' l b closing_byte z (shut_keeps k l t s' (here k t l (f [] none)) e))
    (λ z e. at_byte s' l b comma_byte z (next_keeps k l t s' (here k t l (f [] none)) e))
    (λ z e. at_byte s' l b semicolon_byte z (last_keeps k l t s' (here k t l (f [] none)) e))
    (λ z e. never e)
    (λ z e. never e)
    (λ e. never e)

keep_done : (t : Tree) (l : List ℕ) (b : ℕ) (s' : State) → Before (done t) l → step (done t) (kind_of b) ≡ to s'
    → Before s' (l ++ (b ∷ []))
unfolding Before step value_after longer
keep_done t l b s' f =
    kind_all (λ κ. step (done t) κ ≡ to s' → Before s' (l ++ (b ∷ []))) b
    (λ z e. come (done t) s' (l ++ (b ∷ [])) e (λ c w. subst (λ (r : List ℕ). Text r t) (sym (append_snoc l b c))
    (f (b ∷ c) (and b c z w))))
    (λ z e. never e)
    (λ z e. never e)
    (λ z e. never e)
    (λ z e. never e)
    (λ z e. never e)
    (λ z e. never e)
    (λ z e. never e)
    (λ e. never e)

longer_keeps : (k : Stack) (x c : ℕ) (l : List ℕ) (b : ℕ) (s' : State) → is_digit b ≡ true → Before (sample k x c) l
    → longer k x c (b - nought_byte) ≡ to s' → Before s' (l ++ (b ∷ []))
unfolding Before longer value_after
longer_keeps k x zero l b s' z f e = never e
longer_keeps k x (suc c) l b s' z f e =
    come (sample k (x * 10 + (b - nought_byte)) c) s' (l ++ (b ∷ [])) e
    (λ n m a h y. shift k (leaf (value_after (x * 10 + (b - nought_byte)) n)) l b
    (n ++ m) (f (b ∷ n) m (and b n z a) (omega arith) y))

keep_sample : (k : Stack) (x c : ℕ) (l : List ℕ) (b : ℕ) (s' : State) → Before (sample k x c) l
    → step (sample k x c) (kind_of b) ≡ to s' → Before s' (l ++ (b ∷ []))
unfolding Before step value_after
keep_sample k x c l b s' f =
    kind_all (λ κ. step (sample k x c) κ ≡ to s' → Before s' (l ++ (b ∷ []))) b
    (λ z e. come (ended k (leaf x)) s' (l ++ (b ∷ [])) e (λ m y. shift k (leaf x) l b m
    (f [] (b ∷ m) none (omega arith) (length_cons b z y))))
    (λ z e. longer_keeps k x c l b s' z f e)
    (λ z e. never e)
    (λ z e. at_byte s' l b closing_byte z (shut_keeps k l (leaf x) s' (here k (leaf x) l (f [] [] none (omega arith) no_length)) e))
    (λ z e. at_byte s' l b comma_byte z (next_keeps k l (leaf x) s' (here k (leaf x) l (f [] [] none (omega arith) no_length)) e))
    (λ z e. at_byte s' l b semicolon_byte z (last_keeps k l (leaf x) s' (here k (leaf x) l (f [] [] none (omega arith) no_length)) e))
    (λ z e. at_byte s' l b colon_byte z (come (measure k (leaf x)) s' (l ++ (colon_byte ∷ [])) e
    (λ u n c x' y w. shift k (leaf x) l colon_byte (u ++ (n ++ c)) (f [] (colon_byte ∷ (u ++ (n ++ c))) none (omega arith)
    (colon_length u n c x' y w)))))
    (λ z e. never e)
    (λ e. never e)

open_deep : {k : Stack} {l : List ℕ} → Open k l → depth k ≤ most_open
unfolding depth
open_deep Open.bottom = omega arith
open_deep (Open.bracket k w l a e b h o) = omega arith
open_deep (Open.commaed k f w l m d e n o s) = omega arith

all_snoc : (t : ℕ → Bool) {l : List ℕ} (b : ℕ) → t b ≡ true → All t l → All t (l ++ (b ∷ []))
all_snoc t b e none = and b [] e none
all_snoc t b e (and c l d a) = and c (l ++ (b ∷ [])) d (all_snoc t b e a)

-- a sample from where a subtree has to come
leaf_fits : (k : Stack) (l v m : List ℕ) (x : ℕ) → Wants k l → Sample v x → Length m → Fits k (l ++ (v ++ m)) (leaf x)
leaf_fits k l v m x h s y =
    record {
      base = h.base;
      word = h.gap ++ (v ++ m);
      split = rw h.split (simp append_assoc);
      opens = h.opens;
      d = most_open - depth k;
      deep = (let z = open_deep h.opens in omega arith);
      sub = Subtree.a_sample (most_open - depth k) (h.gap ++ (v ++ m)) h.gap v m x refl h.blanks s y;
    }

nought_keeps : (k : Stack) (l : List ℕ) → Wants k l → Before (sample k 0 0) (l ++ (nought_byte ∷ []))
unfolding Before value_after
nought_keeps k l h n m none w y = shift k (leaf 0) l nought_byte m (leaf_fits k l (nought_byte ∷ []) m 0 h Sample.nought y)
nought_keeps k l h n m (and b r e a) w y = absurd (omega arith)

first_keeps : (k : Stack) (l : List ℕ) (b : ℕ) (x : Bool) → eqb b nought_byte ≡ x → is_digit b ≡ true → Wants k l
    → Before (begun k (b - nought_byte)) (l ++ (b ∷ []))
unfolding Before
first_keeps k l b true d z h = let e : b ≡ nought_byte = eqb-true b nought_byte d in
    rw e (subst (λ (s : State). Before s (l ++ (nought_byte ∷ []))) (sym (begun_zero k)) (nought_keeps k l h))
first_keeps k l b false d z h =
    let r = digit_range b z in
    subst (λ (s : State). Before s (l ++ (b ∷ []))) (sym (begun_other (b - nought_byte) k
    (λ i. eqb-false b nought_byte d (omega (arith, r.0)))))
    (λ n m a w y. shift k (leaf (value_after (b - nought_byte) n)) l b (n ++ m)
    (leaf_fits k l (b ∷ n) m (value_after (b - nought_byte) n) h (Sample.numeral b n z (eqb-false b nought_byte d) a w) y))

entered_keeps : (k : Stack) (l : List ℕ) (s' : State) (x : Bool) → ltb (depth k) most_open ≡ x → Wants k l
    → allowed x (want (opened k)) ≡ to s' → Before s' (l ++ (opening_byte ∷ []))
unfolding Before
entered_keeps k l s' false d h e = never e
entered_keeps k l s' true d h e =
    come (want (opened k)) s' (l ++ (opening_byte ∷ [])) e
    (record {
      base = l ++ (opening_byte ∷ []);
      gap = [];
      split = sym (append-nil (l ++ (opening_byte ∷ [])));
      blanks = none;
      opens = Open.bracket k (l ++ (opening_byte ∷ [])) h.base h.gap (rw h.split (simp append_assoc)) h.blanks
          (ltb-true (depth k) most_open d) h.opens;
    })

keep_want : (k : Stack) (l : List ℕ) (b : ℕ) (s' : State) → Before (want k) l → step (want k) (kind_of b) ≡ to s'
    → Before s' (l ++ (b ∷ []))
unfolding Before step entered
keep_want k l b s' f =
    kind_all (λ κ. step (want k) κ ≡ to s' → Before s' (l ++ (b ∷ []))) b
    (λ z e. come (want k) s' (l ++ (b ∷ [])) e (record {
      base = f.base;
      gap = f.gap ++ (b ∷ []);
      split =
          rw f.split (simp append_assoc);
      opens = f.opens;
      blanks = all_snoc is_blank b z f.blanks;
    }))
    (λ z e. come (begun k (b - nought_byte)) s' (l ++ (b ∷ [])) e (first_keeps k l b (eqb b nought_byte) refl z f))
    (λ z e. at_byte s' l b opening_byte z (entered_keeps k l s' (ltb (depth k) most_open) refl f e))
    (λ z e. never e) (λ z e. never e) (λ z e. never e) (λ z e. never e) (λ z e. never e) (λ e. never e)

keep : (s : State) (l : List ℕ) (b : ℕ) (s' : State) → Before s l → step s (kind_of b) ≡ to s' → Before s' (l ++ (b ∷ []))
keep (want k) l b s' f e = keep_want k l b s' f e
keep (sample k x c) l b s' f e = keep_sample k x c l b s' f e
keep (closed k g) l b s' f e = keep_closed k g l b s' f e
keep (support k g x) l b s' f e = keep_support k g x l b s' f e
keep (ended k t) l b s' f e = keep_ended k t l b s' f e
keep (measure k t) l b s' f e = keep_measure k t l b s' f e
keep (whole k t) l b s' f e = keep_whole k t l b s' f e
keep (point k t) l b s' f e = keep_point k t l b s' f e
keep (part k t) l b s' f e = keep_part k t l b s' f e
keep (measured k t) l b s' f e = keep_measured k t l b s' f e
keep (done t) l b s' f e = keep_done t l b s' f e

off : {P : Type 0} (p : ℕ) (t : Tree) → stops p ≡ reads t → P
off p t e = absurd (let z : ◌≡◌ {A = ℕ} 0 1 = cc in omega arith)

final_keeps : (s : State) (p : ℕ) (l : List ℕ) (t : Tree) → Before s l → final s p ≡ reads t → Text l t
unfolding Before final
final_keeps (done u) p l t f e = let z : u ≡ t = cc in subst (λ (r : Tree). Text l r) z
    (subst (λ (r : List ℕ). Text r u) (append-nil l) (f [] none))
final_keeps (want k) p l t f e = off _ _ e
final_keeps (sample k x c) p l t f e = off _ _ e
final_keeps (closed k g) p l t f e = off _ _ e
final_keeps (support k g x) p l t f e = off _ _ e
final_keeps (ended k u) p l t f e = off _ _ e
final_keeps (measure k u) p l t f e = off _ _ e
final_keeps (whole k u) p l t f e = off _ _ e
final_keeps (point k u) p l t f e = off _ _ e
final_keeps (part k u) p l t f e = off _ _ e
final_keeps (measured k u) p l t f e = off _ _ e

walk_keeps_at : (s : State) (p : ℕ) (l r : List ℕ) (b : ℕ) (t : Tree) (m : Move) → step s (kind_of b) ≡ m
    → follow m p (λ s'. walk s' (suc p) r) ≡ reads t
    → ((s' : State) → step s (kind_of b) ≡ to s' → walk s' (suc p) r ≡ reads t → Text (l ++ (b ∷ r)) t)
    → Text (l ++ (b ∷ r)) t
walk_keeps_at s p l r b t stuck d e f = off _ _ e
walk_keeps_at s p l r b t (to s') d e f = f s' d e

walk_keeps : (r : List ℕ) (s : State) (p : ℕ) (l : List ℕ) (t : Tree) → Before s l → walk s p r ≡ reads t → Text (l ++ r) t
unfolding walk
walk_keeps [] s p l t f e = subst (λ (z : List ℕ). Text z t) (sym (append-nil l)) (final_keeps s p l t f e)
walk_keeps (b ∷ r) s p l t f e =
    walk_keeps_at s p l r b t (step s (kind_of b)) refl e
    (λ s' d w. subst (λ (z : List ℕ). Text z t) (append_snoc l b r) (walk_keeps r s' (suc p) (l ++ (b ∷ [])) t (keep s l b s' f d) w))

-- what is read is of the form, with the tree that it comes to
pub sound : (l : List ℕ) (t : Tree) → parsed l ≡ reads t → Text l t
unfolding parsed Before
sound l t e = walk_keeps l (want top) 0 [] t (record { base = []; gap = []; split = refl; opens = Open.bottom; blanks = none }) e
