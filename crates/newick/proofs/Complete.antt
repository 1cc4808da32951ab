-- Every text of the form is read, and comes to its tree. Assumes nothing.
use Rattle.std.specs.Prelude.{ℕ, zero, suc, ◌+◌, ◌*◌, ◌-◌, ◌≤◌, ◌<◌, ◌≡◌, refl, Bool, true, List, [], ◌∷◌, ◌++◌, length}
use Rattle.std.proofs.Common.{add-zero, add-suc, suc-add, le_refl, arith, sym, ap, subst, ◌∙◌, lt-ltb, append_assoc, append-nil, length-append}
use Rattle.ascii.specs.Decimal.{value_after}
use Rattle.newick.specs.Tree.{Mark, Tree, Forest, Stack, depth}
use Rattle.newick.specs.Tree.Mark.{unmarked, marked}
use Rattle.newick.specs.Tree.Tree.{leaf, pair}
use Rattle.newick.specs.Tree.Forest.{more}
use Rattle.newick.specs.Tree.Stack.{top, opened, later}
use Rattle.newick.specs.Bytes.{closing_byte, colon_byte, comma_byte, nought_byte, opening_byte, point_byte, semicolon_byte}
use Rattle.newick.specs.Bytes.{kind_of, is_blank, is_digit}
use Rattle.newick.specs.Bytes.Kind.{blank, right, comma, semicolon, colon, digit}
use Rattle.newick.specs.Walk.{State, Parse, parsed, walk, final, step, entered, longer, shut, next, last}
use Rattle.newick.specs.Walk.State.{want, sample, closed, support, ended, measure, whole, point, part, measured, done}
use Rattle.newick.specs.Walk.Move.{to}
use Rattle.newick.specs.Walk.Parse.{reads}
use Rattle.newick.proofs.ByteLaws.{kind_blank, kind_digit, begun_zero, begun_other, digit_range}
use Rattle.newick.specs.Tree.{Held, frame, hold}
use Rattle.newick.specs.Tree.Held.{nothing, some}
use Rattle.newick.specs.Grammar.{All, Blanks, Digits, most_digits, Sample, Number, Support, Length, Subtree, Subtrees, most_open, Text}
use Rattle.newick.specs.Grammar.All.{none, and}
use Rattle.newick.specs.Grammar.Digits.{digits}

-- l leads from s, at place p, to s', whatever comes after
pub Takes : State → ℕ → List ℕ → State → Type 0
Takes s p l s' = (r : List ℕ) → walk s p (l ++ r) ≡ walk s' (p + length l) r

takes_none : (s : State) (p : ℕ) → Takes s p [] s
unfolding Takes
takes_none s p r = ap (λ (q : ℕ). walk s q r) (sym (add-zero p))

takes_byte : (s s' s'' : State) (p b : ℕ) (l : List ℕ) → step s (kind_of b) ≡ to s' → Takes s' (suc p) l s'' → Takes s p (b ∷ l) s''
unfolding Takes walk
takes_byte s s' s'' p b l e f r = rw e (f r ∙ ap (λ (q : ℕ). walk s'' q r) (suc-add p (length l) ∙ sym (add-suc p (length l))))

takes_on : (s s' s'' : State) (p : ℕ) (l m : List ℕ) → Takes s p l s' → Takes s' (p + length l) m s'' → Takes s p (l ++ m) s''
unfolding Takes
takes_on s s' s'' p l m f g r =
    ap (walk s p) (append_assoc l m r) ∙ f (m ++ r) ∙ g r
    ∙ ap (λ (q : ℕ). walk s'' q r) (let z : p + length l + length m ≡ p + length (l ++ m) = omega (arith, length-append l m) in z)

-- a run at which a state stays
takes_all : (t : ℕ → Bool) (s : State) → ((b : ℕ) → t b ≡ true → step s (kind_of b) ≡ to s) → {l : List ℕ} (p : ℕ) → All t l
    → Takes s p l s
takes_all t s f p none = takes_none s p
takes_all t s f p (and b l e a) = takes_byte s s s p b l (f b e) (takes_all t s f (suc p) a)

takes_blanks : (s : State) → step s blank ≡ to s → {l : List ℕ} (p : ℕ) → Blanks l → Takes s p l s
takes_blanks s f p a = takes_all is_blank s (λ b e. rw (kind_blank b e) f) p a

takes_digits : (s s' : State) → ((d : ℕ) → step s (digit d) ≡ to s') → ((d : ℕ) → step s' (digit d) ≡ to s')
    → {l : List ℕ} (p : ℕ) → Digits l → Takes s p l s'
takes_digits s s' f g p (digits b l e a) =
    takes_byte s s' s' p b l (rw (kind_digit b e) (f (b - nought_byte)))
    (takes_all is_digit s' (λ c d. rw (kind_digit c d) (g (c - nought_byte))) (suc p) a)

-- s is a state in which the subtree t may end
pub record Ending (s : State) (k : Stack) (t : Tree) : Type 0 where
  pub rights : step s right ≡ shut k t
  pub commas : step s comma ≡ next k t
  pub semis : step s semicolon ≡ last k t

-- and in which its colon may come
pub record Tailing (s : State) (k : Stack) (t : Tree) : Type 0 where
  pub ending : Ending s k t
  pub colons : step s colon ≡ to (measure k t)

-- l leads from s to a state in which t may end
pub record Lands (s : State) (p : ℕ) (l : List ℕ) (k : Stack) (t : Tree) : Type 0 where
  pub final : State
  pub ending : Ending final k t
  pub takes : Takes s p l final

pub record Waits (s : State) (p : ℕ) (l : List ℕ) (k : Stack) (t : Tree) : Type 0 where
  pub final : State
  pub tailing : Tailing final k t
  pub takes : Takes s p l final

-- blanks from s lead to s' and stay there
blanks_wait : (s s' : State) (k : Stack) (t : Tree) → Tailing s k t → Tailing s' k t → step s blank ≡ to s'
    → step s' blank ≡ to s' → {l : List ℕ} (p : ℕ) → Blanks l → Waits s p l k t
blanks_wait s s' k t u v f g p none = record { final = s; tailing = u; takes = takes_none s p }
blanks_wait s s' k t u v f g p (and b l e a) = record {
  final = s';
  tailing = v;
  takes =
      takes_byte s s' s' p b l (rw (kind_blank b e) f) (takes_blanks s' g (suc p) a);
}

blanks_land : (s s' : State) (k : Stack) (t : Tree) → Ending s k t → Ending s' k t → step s blank ≡ to s'
    → step s' blank ≡ to s' → {l : List ℕ} (p : ℕ) → Blanks l → Lands s p l k t
blanks_land s s' k t u v f g p none = record { final = s; ending = u; takes = takes_none s p }
blanks_land s s' k t u v f g p (and b l e a) = record {
  final = s';
  ending = v;
  takes =
      takes_byte s s' s' p b l (rw (kind_blank b e) f) (takes_blanks s' g (suc p) a);
}

lands_on : (s s' : State) (p : ℕ) (l m : List ℕ) (k : Stack) (t : Tree) → Takes s p l s' → Lands s' (p + length l) m k t
    → Lands s p (l ++ m) k t
lands_on s s' p l m k t f h = record { final = h.final; ending = h.ending; takes = takes_on s s' h.final p l m f h.takes }

end_whole : (k : Stack) (t : Tree) → Ending (whole k t) k t
unfolding step
end_whole k t = record { rights = refl; commas = refl; semis = refl }

end_part : (k : Stack) (t : Tree) → Ending (part k t) k t
unfolding step
end_part k t = record { rights = refl; commas = refl; semis = refl }

end_measured : (k : Stack) (t : Tree) → Ending (measured k t) k t
unfolding step
end_measured k t = record { rights = refl; commas = refl; semis = refl }

tail_ended : (k : Stack) (t : Tree) → Tailing (ended k t) k t
unfolding step
tail_ended k t = record { ending = record { rights = refl; commas = refl; semis = refl }; colons = refl }

tail_closed : (k : Stack) (f : Forest) → Tailing (closed k f) k (pair f unmarked)
unfolding step
tail_closed k f = record { ending = record { rights = refl; commas = refl; semis = refl }; colons = refl }

tail_support : (k : Stack) (f : Forest) (x : ℕ) → Tailing (support k f x) k (pair f (marked x))
unfolding step
tail_support k f x = record { ending = record { rights = refl; commas = refl; semis = refl }; colons = refl }

tail_sample : (k : Stack) (x c : ℕ) → Tailing (sample k x c) k (leaf x)
unfolding step
tail_sample k x c = record { ending = record { rights = refl; commas = refl; semis = refl }; colons = refl }

-- a number and its blanks
number_lands : (k : Stack) (t : Tree) {l : List ℕ} (c : List ℕ) (p : ℕ) → Number l → Blanks c → Lands (measure k t) p (l ++ c) k t
unfolding step kind_of
number_lands k t c p (Number.plain l d) a =
    lands_on (measure k t) (whole k t) p l c k t (takes_digits (measure k t) (whole k t) (λ i. refl) (λ i. refl) p d)
    (blanks_land (whole k t) (measured k t) k t (end_whole k t) (end_measured k t) refl refl (p + length l) a)
number_lands k t c p (Number.pointed m n d e) a =
    lands_on (measure k t) (part k t) p (m ++ point_byte ∷ n) c k t
    (takes_on (measure k t) (whole k t) (part k t) p m (point_byte ∷ n)
    (takes_digits (measure k t) (whole k t) (λ i. refl) (λ i. refl) p d)
    (takes_byte (whole k t) (point k t) (part k t) (p + length m) point_byte n refl
    (takes_digits (point k t) (part k t) (λ i. refl) (λ i. refl) (suc (p + length m)) e)))
    (blanks_land (part k t) (measured k t) k t (end_part k t) (end_measured k t) refl refl
    (p + length (m ++ point_byte ∷ n)) a)

-- what may follow a subtree, from each state that a subtree is left in
length_lands : (s s' : State) (k : Stack) (t : Tree) → Tailing s k t → Tailing s' k t → step s blank ≡ to s'
    → step s' blank ≡ to s' → {m : List ℕ} (p : ℕ) → Length m → Lands s p m k t
unfolding step kind_of
length_lands s s' k t u v f g p (Length.lengthless m a) =
    let h = blanks_wait s s' k t u v f g p a in record { final = h.final; ending = h.tailing.ending; takes = h.takes }
length_lands s s' k t u v f g p (Length.lengthed a b c l ba bb n bc) =
    let h = blanks_wait s s' k t u v f g p ba in
    let q = number_lands k t c (suc (p + length a) + length b) n bc in
    let w = lands_on (measure k t) (measure k t) (suc (p + length a)) b (l ++ c) k t
    (takes_blanks (measure k t) refl (suc (p + length a)) bb) q in
    lands_on s h.final p a (colon_byte ∷ b ++ (l ++ c)) k t h.takes
    (record {
      final = w.final;
      ending = w.ending;
      takes = takes_byte h.final (measure k t) w.final (p + length a) colon_byte
          (b ++ (l ++ c)) h.tailing.colons w.takes;
    })

digit_step : (k : Stack) (x c b : ℕ) → is_digit b ≡ true → step (sample k x (suc c)) (kind_of b) ≡ to
    (sample k (x * 10 + (b - nought_byte)) c)
unfolding step longer
digit_step k x c b e = rw (kind_digit b e)

first_step : (k : Stack) (b : ℕ) → is_digit b ≡ true → (b ≡ nought_byte → ⊥)
    → step (want k) (kind_of b) ≡ to (sample k (b - nought_byte) (most_digits - 1))
unfolding step
first_step k b e n = let r = digit_range b e in rw (kind_digit b e)
    (ap to (begun_other (b - nought_byte) k (λ z. n (omega (arith, r.0)))))

-- a sample
pub record Longer (k : Stack) (x c p : ℕ) (l : List ℕ) : Type 0 where
  pub left : ℕ
  pub takes : Takes (sample k x c) p l (sample k (value_after x l) left)

sample_more : (k : Stack) {l : List ℕ} (x c p : ℕ) → All is_digit l → length l ≤ c → Longer k x c p l
unfolding value_after
sample_more k x c p none h = record { left = c; takes = takes_none (sample k x c) p }
sample_more k x zero p (and b l e a) h = absurd (omega arith)
sample_more k x (suc c) p (and b l e a) h =
    let m = sample_more k (x * 10 + (b - nought_byte)) c (suc p) a (omega arith) in
    record {
      left = m.left;
      takes = takes_byte (sample k x (suc c)) (sample k (x * 10 + (b - nought_byte)) c)
          (sample k (value_after (x * 10 + (b - nought_byte)) l) m.left) p b l (digit_step k x c b e) m.takes;
    }

pub record Reads (k : Stack) (p : ℕ) (l : List ℕ) (x : ℕ) : Type 0 where
  pub left : ℕ
  pub takes : Takes (want k) p l (sample k x left)

sample_takes : (k : Stack) {l : List ℕ} {x : ℕ} (p : ℕ) → Sample l x → Reads k p l x
unfolding step kind_of
sample_takes k p Sample.nought = record {
  left = 0;
  takes = takes_byte (want k) (sample k 0 0) (sample k 0 0) p nought_byte []
      (ap to (begun_zero k)) (takes_none (sample k 0 0) (suc p));
}
sample_takes k p (Sample.numeral b l e n a h) =
    let m = sample_more k (b - nought_byte) (most_digits - 1) (suc p) a h in
    record {
      left = m.left;
      takes = takes_byte (want k) (sample k (b - nought_byte) (most_digits - 1))
          (sample k (value_after (b - nought_byte) l) m.left) p b l (first_step k b e n) m.takes;
    }

-- the digits after a closing bracket
support_more : (k : Stack) (f : Forest) {l : List ℕ} (x p : ℕ) → All is_digit l
    → Takes (support k f x) p l (support k f (value_after x l))
unfolding value_after step
support_more k f x p none = takes_none (support k f x) p
support_more k f x p (and b l e a) =
    takes_byte (support k f x) (support k f (x * 10 + (b - nought_byte)))
    (support k f (value_after (x * 10 + (b - nought_byte)) l)) p b l
    (rw (kind_digit b e)) (support_more k f (x * 10 + (b - nought_byte)) (suc p) a)

-- after a closing bracket
pair_lands : (k : Stack) (f : Forest) {s : List ℕ} {μ : Mark} (m : List ℕ) (p : ℕ) → Support s μ → Length m
    → Lands (closed k f) p (s ++ m) k (pair f μ)
unfolding step
pair_lands k f m p (Support.unsupported a b) h =
    let t = pair f unmarked in
    lands_on (closed k f) (closed k f) p a m k t (takes_blanks (closed k f) refl p b)
    (length_lands (closed k f) (closed k f) k t (tail_closed k f) (tail_closed k f) refl refl (p + length a) h)
pair_lands k f m p (Support.supported a b l x e d) h =
    let v = value_after (b - nought_byte) l in
    let t = pair f (marked v) in
    lands_on (closed k f) (support k f v) p (a ++ (b ∷ l)) m k t
    (takes_on (closed k f) (closed k f) (support k f v) p a (b ∷ l) (takes_blanks (closed k f) refl p x)
    (takes_byte (closed k f) (support k f (b - nought_byte)) (support k f v) (p + length a) b l (rw (kind_digit b e))
    (support_more k f (b - nought_byte) (suc (p + length a)) d)))
    (length_lands (support k f v) (ended k t) k t (tail_support k f v) (tail_ended k t) refl refl
    (p + length (a ++ (b ∷ l))) h)

-- the subtrees of a bracket: the last in the frame of those before it
pub record LandsIn (k : Stack) (p : ℕ) (l : List ℕ) (f : Forest) : Type 0 where
  pub held : Held
  pub tree : Tree
  pub all : hold held tree ≡ f
  pub lands : Lands (want (opened k)) p l (frame k held) tree

shut_frame : (k : Stack) (h : Held) (t : Tree) → shut (frame k h) t ≡ to (closed k (hold h t))
unfolding shut
shut_frame k nothing t = refl
shut_frame k (some f) t = refl

next_frame : (k : Stack) (h : Held) (t : Tree) → next (frame k h) t ≡ to (want (later k (hold h t)))
unfolding next
next_frame k nothing t = refl
next_frame k (some f) t = refl

lands_byte : (s s' : State) (p b : ℕ) (l : List ℕ) (k : Stack) (t : Tree) → step s (kind_of b) ≡ to s' → Lands s' (suc p) l k t
    → Lands s p (b ∷ l) k t
lands_byte s s' p b l k t e h = record { final = h.final; ending = h.ending; takes = takes_byte s s' h.final p b l e h.takes }

enter_at : (k : Stack) → depth k < most_open → step (want k) (kind_of opening_byte) ≡ to (want (opened k))
unfolding step kind_of entered
enter_at k h = rw (lt-ltb (depth k) most_open h)

leaf_lands : (k : Stack) (p : ℕ) (a l m : List ℕ) (x : ℕ) → Blanks a → Sample l x → Length m → Lands (want k) p (a ++ (l ++ m)) k (leaf x)
unfolding step
leaf_lands k p a l m x b s h =
    let r = sample_takes k (p + length a) s in
    lands_on (want k) (want k) p a (l ++ m) k (leaf x) (takes_blanks (want k) refl p b)
    (lands_on (want k) (sample k x r.left) (p + length a) l m k (leaf x) r.takes
    (length_lands (sample k x r.left) (ended k (leaf x)) k (leaf x) (tail_sample k x r.left) (tail_ended k (leaf x)) refl
    refl (p + length a + length l) h))

bracket_lands : (k : Stack) (p : ℕ) (a l s m : List ℕ) (f : Forest) (μ : Mark) → Blanks a → depth k < most_open
    → LandsIn k (suc (p + length a)) l f → Support s μ → Length m
    → Lands (want k) p (a ++ (opening_byte ∷ (l ++ (closing_byte ∷ (s ++ m))))) k (pair f μ)
unfolding step kind_of
bracket_lands k p a l s m f μ b w h u v =
    let q = p + length a in
    lands_on (want k) (want k) p a (opening_byte ∷ (l ++ (closing_byte ∷ (s ++ m)))) k (pair f μ) (takes_blanks (want k) refl p b)
    (lands_byte (want k) (want (opened k)) q opening_byte (l ++ (closing_byte ∷ (s ++ m))) k (pair f μ) (enter_at k w)
    (lands_on (want (opened k)) h.lands.final (suc q) l (closing_byte ∷ (s ++ m)) k (pair f μ) h.lands.takes
    (lands_byte h.lands.final (closed k f) (suc q + length l) closing_byte (s ++ m) k (pair f μ)
    (h.lands.ending.rights ∙ shut_frame k h.held h.tree ∙ ap (λ (g : Forest). to (closed k g)) h.all)
    (pair_lands k f m (suc (suc q + length l)) u v))))

parted_lands : (k : Stack) (p : ℕ) (l m : List ℕ) (f : Forest) (t : Tree) → LandsIn k p l f
    → Lands (want (later k f)) (suc (p + length l)) m (later k f) t → LandsIn k p (l ++ (comma_byte ∷ m)) (more f t)
unfolding kind_of
parted_lands k p l m f t h g =
    record {
      held = some f;
      tree = t;
      all = refl;
      lands =
          lands_on (want (opened k)) h.lands.final p l (comma_byte ∷ m) (later k f) t h.lands.takes
          (lands_byte h.lands.final (want (later k f)) (p + length l) comma_byte m (later k f) t
          (h.lands.ending.commas ∙ next_frame k h.held h.tree
          ∙ ap (λ (g : Forest). to (want (later k g))) h.all) g);
    }

depth_opened : (k : Stack) (d : ℕ) → suc (depth k) + d ≤ most_open → depth (opened k) + d ≤ most_open
unfolding depth
depth_opened k d w = w

depth_later : (k : Stack) (f : Forest) (d : ℕ) → suc (depth k) + d ≤ most_open → depth (later k f) + d ≤ most_open
unfolding depth
depth_later k f d w = w

mutual
  subtree_lands : {d : ℕ} {l : List ℕ} {t : Tree} → Subtree d l t → (k : Stack) (p : ℕ) → depth k + d ≤ most_open → Lands (want k) p l k t
  subtree_lands (Subtree.a_sample d w a l m x e b s h) k p i = subst (λ (z : List ℕ). Lands (want k) p z k (leaf x)) (sym e)
      (leaf_lands k p a l m x b s h)
  subtree_lands (Subtree.a_pair d w a l s m f μ e b g u v) k p i = subst (λ (z : List ℕ). Lands (want k) p z k (pair f μ)) (sym e)
      (bracket_lands k p a l s m f μ b (omega arith) (subtrees_lands g k (suc (p + length a)) (omega arith)) u v)

  subtrees_lands : {d : ℕ} {l : List ℕ} {f : Forest} → Subtrees d l f → (k : Stack) (p : ℕ) → suc (depth k) + d ≤ most_open
      → LandsIn k p l f
  subtrees_lands (Subtrees.one d l t s) k p w = record {
    held = nothing;
    tree = t;
    all = refl;
    lands = subtree_lands s (opened k) p (depth_opened k d w);
  }
  subtrees_lands (Subtrees.parted d w l m f t e g s) k p v = subst (λ (z : List ℕ). LandsIn k p z (more f t)) (sym e)
      (parted_lands k p l m f t (subtrees_lands g k p v) (subtree_lands s (later k f) (suc (p + length l)) (depth_later k f d v)))

-- every text of the form is read, and comes to its tree
pub complete : {l : List ℕ} {t : Tree} → Text l t → parsed l ≡ reads t
unfolding parsed Takes step kind_of last depth walk final
complete (Text.a_text l a t s b) =
    let h = subtree_lands s top 0 (le_refl most_open) in
    let u : Takes h.final (0 + length l) (semicolon_byte ∷ a) (done t) =
    takes_byte h.final (done t) (done t) (0 + length l) semicolon_byte a h.ending.semis
    (takes_blanks (done t) refl (suc (0 + length l)) b) in
    h.takes (semicolon_byte ∷ a) ∙ ap (walk h.final (0 + length l)) (sym (append-nil (semicolon_byte ∷ a))) ∙ u []

-- a text of the form has one meaning
reads_inj : (o : Parse) (t u : Tree) → o ≡ reads t → o ≡ reads u → t ≡ u
reads_inj o t u e d = cc

pub one_meaning : (l : List ℕ) (t u : Tree) → Text l t → Text l u → t ≡ u
one_meaning l t u a b = reads_inj (parsed l) t u (complete a) (complete b)
