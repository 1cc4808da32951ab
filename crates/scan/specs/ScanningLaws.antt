-- What the scans promise, from the places that they pass. Assumes nothing.
use Rattle.std.specs.Prelude.{ℕ, zero, suc, ◌+◌, ◌*◌, ◌-◌, ◌≤◌, ◌<◌, ◌≡◌, true, false, List, length, drop, get_or, Result, Ok, Err}
use Rattle.std.proofs.Common.{arith, sym, ap, ◌∙◌}
use Rattle.std.proofs.Math.Path.{refl}
use Rattle.newick.specs.Lead.{run, mark_of}
use Rattle.newick.specs.Tree.{Tree, Forest, Stack}
use Rattle.newick.specs.Tree.Tree.{leaf, pair}
use Rattle.newick.proofs.ByteLaws.{begun_zero, begun_other, digit_range}
use Rattle.newick.specs.Bytes.{colon_byte, opening_byte, point_byte, nought_byte, kind_of, is_blank, is_digit}
use Rattle.newick.specs.Walk.{State, step, begun}
use Rattle.newick.specs.Walk.State.{want, sample, closed, ended, measure, whole, point, part, measured}
use Rattle.newick.specs.Grammar.{sample_bound}
use Rattle.scan.specs.declared.Stop.{Stop}
use Rattle.scan.specs.declared.numbers.Number.{Number}
use Rattle.scan.specs.declared.heads.Start.{Start}
use Rattle.scan.specs.declared.heads.Start.TheVariants.{Leaf, Pair}
use Rattle.scan.specs.Scanning.{past, from, room, Sampling, Sampled, Followed}
use Rattle.scan.specs.Scanning.{Follows, Tail, Closes, Lone, Opens, Stuck, Starts}
use Rattle.scan.specs.RunLaws.{passes_within, look_within, past_within, past_next, from_to}
use Rattle.scan.specs.StateLaws.{blanks_on, digits_on, ended_measured, whole_measured, part_measured, sample_ended, sample_full}
use Rattle.scan.specs.StateLaws.{digits_ended}
use Rattle.scan.specs.StateLaws.{measure_stops, point_stops, want_opens, want_full, want_stops, sample_begins, sample_longer}

-- ---- a sample

room_falls : (c x d : ℕ) → c < 4 → x < room (suc c) → d < 10 → x * 10 + d < room c
unfolding room
room_falls zero x d a h e = omega arith
room_falls (suc zero) x d a h e = omega arith
room_falls (suc (suc zero)) x d a h e = omega arith
room_falls (suc (suc (suc zero))) x d a h e = omega arith
room_falls (suc (suc (suc (suc c)))) x d a h e = absurd (omega arith)

room_small : (c x : ℕ) → x < room c → x < sample_bound
unfolding room
room_small zero x h = omega arith
room_small (suc zero) x h = omega arith
room_small (suc (suc zero)) x h = omega arith
room_small (suc (suc (suc zero))) x h = omega arith
room_small (suc (suc (suc (suc c)))) x h = omega arith

room_four : (x : ℕ) → x < 10 → x < room 4
unfolding room
room_four x h = h

module _ (l : List ℕ) (p x : ℕ) (h : p < length l) (e : is_digit (get_or l p 0) ≡ true) (f : x ≡ get_or l p 0 - nought_byte) where
  -- a 0 stands alone
  pub sample_nought : x ≡ 0 → Sampled l p (record { value = x; end = p + 1 })
  sample_nought z = record {
    later = omega arith;
    within = omega arith;
    small = omega (arith, z);
    goes = λ k. sample_begins l p x k h e f ∙ ap (λ (y : ℕ). from l (p + 1) (begun k y)) z ∙ ap (from l (p + 1)) (begun_zero k)
        ∙ sample_full l (p + 1) 0 k ∙ ap (λ (y : ℕ). from l (p + 1) (ended k (leaf y))) (sym z);
  }

  -- after another digit four may come
  pub sample_first : (c : ℕ) → c ≡ 4 → (x ≡ 0 → ⊥) → Sampling l p x (p + 1) c
  sample_first c q n = record {
    later = omega arith;
    within = omega arith;
    few = omega (arith, q);
    small = rw q (room_four x (omega (arith, digit_range (get_or l p 0) e)));
    goes =
        λ k. sample_begins l p x k h e f ∙ ap (from l (p + 1)) (begun_other x k n) ∙ ap (λ (j : ℕ). from l (p + 1) (sample k x j)) (sym q);
  }

module _ (l : List ℕ) (p x i left : ℕ) (s : Sampling l p x i left) where
  pub sampling_small : x < sample_bound
  sampling_small = room_small left x s.small

  -- a digit more
  pub sampling_on : (d c j : ℕ) → left ≡ c + 1 → j ≡ i + 1 → is_digit (get_or l i 0) ≡ true → d ≡ get_or l i 0 - nought_byte
      → Sampling l p (x * 10 + d) j c
  sampling_on d c j h q e f = let w = passes_within is_digit l i refl e in let z : left ≡ suc c = omega arith in rw q (record {
    later = omega (arith, s.later);
    within = omega (arith, w);
    few = omega (arith, s.few);
    small = room_falls c x d (omega (arith, s.few)) (rw z at s.small) (omega (arith, digit_range (get_or l i 0) e));
    goes = λ k. s.goes k ∙ ap (λ (m : ℕ). from l i (sample k x m)) z ∙ sample_longer l i x c d k w e f;
  })

  -- no digit more
  pub sampling_ends : is_digit (get_or l i 0) ≡ false → Sampled l p (record { value = x; end = i })
  sampling_ends e = record {
    later = s.later;
    within = s.within;
    small = sampling_small;
    goes = λ k. s.goes k ∙ sample_ended l i x left k (λ h. e);
  }

  pub sampling_full : (e : ℕ) → left ≡ 0 → e ≡ i → Sampled l p (record { value = x; end = e })
  sampling_full e z q = rw q (record {
    later = s.later;
    within = s.within;
    small = sampling_small;
    goes = λ k. s.goes k ∙ ap (λ (j : ℕ). from l i (sample k x j)) z ∙ sample_full l i x k;
  })

-- ---- what follows a subtree

-- blanks after the number, and with nothing before them
followed_by : (s : Stack → Tree → State) (l : List ℕ) (p a e : ℕ) → p ≤ a → a ≤ length l → e ≡ past is_blank l a
    → ((k : Stack) (t : Tree) → from l p (s k t) ≡ from l a (measured k t)) → Followed s l p e
unfolding step
followed_by s l p a e h w f g = record {
  later = omega (arith, f);
  within = rw f (past_within is_blank l a w);
  fresh = past_next is_blank l a e f;
  goes = λ k t. g k t ∙ blanks_on l a e (measured k t) refl f;
}

-- from an earlier place and state
follows_from : (s s' : Stack → Tree → State) (l : List ℕ) (p q : ℕ) (r : Result ℕ Stop) → p ≤ q
    → ((k : Stack) (t : Tree) → from l p (s k t) ≡ from l q (s' k t)) → Follows s' l q r → Follows s l p r
follows_from s s' l p q (Ok e) h f g = record {
  later = omega (arith, g.later);
  within = g.within;
  fresh = g.fresh;
  goes = λ k t. f k t ∙ g.goes k t;
}
follows_from s s' l p q (Err i) h f g = λ k t. f k t ∙ g k t

module _ (l : List ℕ) (p a : ℕ) (e : a ≡ past is_digit l p) where
  -- behind the point, at place p
  pub fraction_none : a ≡ p → Follows point l p (Err (record { at = p }))
  fraction_none z = λ k t. point_stops l p k t (past_next is_digit l p p (sym z ∙ e))

  pub fraction_some : (b : ℕ) → (a ≡ p → ⊥) → p ≤ length l → b ≡ past is_blank l a → Follows point l p (Ok b)
  unfolding step
  fraction_some b n h f = followed_by point l p a b (omega (arith, e)) (rw e (past_within is_digit l p h)) f
      (λ k t. digits_on l p a (point k t) (part k t) (λ d. refl) (λ d. refl) e n ∙ part_measured l a k t (past_next is_digit l p a e))

module _ (l : List ℕ) (p a b : ℕ) (e : a ≡ past is_blank l p) (f : b ≡ past is_digit l a) where
  to_number : (k : Stack) (t : Tree) → from l p (measure k t) ≡ from l a (measure k t)
  unfolding step
  to_number k t = blanks_on l p a (measure k t) refl e

  -- behind the colon, at place p
  pub length_none : b ≡ a → Follows measure l p (Err (record { at = a }))
  length_none z = λ k t. to_number k t ∙ measure_stops l a k t (past_next is_blank l p a e) (past_next is_digit l a a (sym z ∙ f))

  module _ (n : b ≡ a → ⊥) (h : p ≤ length l) where
    pub number_within : b ≤ length l
    number_within = rw f (past_within is_digit l a (rw e (past_within is_blank l p h)))

    to_whole : (k : Stack) (t : Tree) → from l p (measure k t) ≡ from l b (whole k t)
    unfolding step
    to_whole k t = to_number k t ∙ digits_on l a b (measure k t) (whole k t) (λ d. refl) (λ d. refl) f n

    pub length_whole : (c : ℕ) → (get_or l b 0 ≡ point_byte → ⊥) → c ≡ past is_blank l b → Follows measure l p (Ok c)
    length_whole c g i = followed_by measure l p b c (omega (arith, e, f)) number_within i
        (λ k t. to_whole k t ∙ whole_measured l b k t (past_next is_digit l a b f) g)

    pub length_part : (r : Result ℕ Stop) → get_or l b 0 ≡ point_byte → Follows point l (b + 1) r → Follows measure l p r
    unfolding step kind_of
    length_part r g i = follows_from measure point l p (b + 1) r (omega (arith, e, f))
        (λ k t. to_whole k t ∙ from_to l b (whole k t) (point k t) (look_within l b point_byte g (omega arith)) (rw g)) i

module _ (l : List ℕ) (p a : ℕ) (e : a ≡ past is_blank l p) where
  to_tail : (k : Stack) (t : Tree) → from l p (ended k t) ≡ from l a (ended k t)
  unfolding step
  to_tail k t = blanks_on l p a (ended k t) refl e

  pub tail_none : p ≤ length l → (get_or l a 0 ≡ colon_byte → ⊥) → Tail l p (Ok a)
  tail_none h n = record {
    later = omega (arith, e);
    within = rw e (past_within is_blank l p h);
    fresh = past_next is_blank l p a e;
    goes = λ k t. to_tail k t ∙ ended_measured l a k t (past_next is_blank l p a e) n;
  }

  pub tail_length : (r : Result ℕ Stop) → get_or l a 0 ≡ colon_byte → Follows measure l (a + 1) r → Tail l p r
  unfolding step kind_of
  tail_length r g i = follows_from ended measure l p (a + 1) r (omega (arith, e))
      (λ k t. to_tail k t ∙ from_to l a (ended k t) (measure k t) (look_within l a colon_byte g (omega arith)) (rw g)) i

-- after a closing bracket: blanks, digits and a tail
module _ (l : List ℕ) (p a b : ℕ) (e : a ≡ past is_blank l p) (f : b ≡ past is_digit l a) where
  to_ended : (k : Stack) (g : Forest) → from l p (closed k g) ≡ from l b (ended k (pair g (mark_of (run is_digit (drop a l)))))
  unfolding step
  to_ended k g = blanks_on l p a (closed k g) refl e ∙ rw f (digits_ended l a k g (past_next is_blank l p a e))

  pub closes_by : (r : Result ℕ Stop) → Tail l b r → Closes l p r
  closes_by (Ok c) h = record {
    later = omega (arith, e, f, h.later);
    within = h.within;
    fresh = h.fresh;
    mark = mark_of (run is_digit (drop a l));
    goes = λ k g. to_ended k g ∙ h.goes k (pair g (mark_of (run is_digit (drop a l))));
  }
  closes_by (Err c) h = λ k g. to_ended k g ∙ h k (pair g (mark_of (run is_digit (drop a l))))

-- ---- how a subtree starts

module _ (l : List ℕ) (p : ℕ) (x : Number) (s : Sampled l p x) where
  -- a sample and its tail
  pub leaf_by : (e : ℕ) → Tail l x.end (Ok e) → Lone l p (record { value = x.value; end = e })
  leaf_by e h = record {
    later = omega (arith, s.later, h.later);
    within = h.within;
    fresh = h.fresh;
    small = s.small;
    goes = λ k. s.goes k ∙ h.goes k (leaf x.value);
  }

  pub leaf_stops : (d : ℕ) (q : Stop) → Tail l x.end (Err q) → Stuck l p d q.at
  leaf_stops d q h = λ k u. s.goes k ∙ h k (leaf x.value)

module _ (l : List ℕ) (p a d : ℕ) (e : a ≡ past is_blank l p) where
  to_want : (k : Stack) → from l p (want k) ≡ from l a (want k)
  unfolding step
  to_want k = blanks_on l p a (want k) refl e

  pub starts_leaf : (r : Result Start Stop) → Starts l a d r → Starts l p d r
  starts_leaf (Ok (Leaf x)) s = record {
    later = omega (arith, e, s.later);
    within = s.within;
    fresh = s.fresh;
    small = s.small;
    goes = λ k. to_want k ∙ s.goes k;
  }
  starts_leaf (Ok (Pair b)) s = record {
    later = omega (arith, e, s.later);
    within = s.within;
    some = s.some;
    goes = λ k u. to_want k ∙ s.goes k u;
  }
  starts_leaf (Err q) s = λ k u. to_want k ∙ s k u

  pub starts_nothing : (b : ℕ) → b ≡ get_or l a 0 → is_digit b ≡ false → (b ≡ opening_byte → ⊥) → Stuck l p d a
  starts_nothing b f g h = λ k u. to_want k ∙ want_stops l a k (past_next is_blank l p a e) (λ i. ap is_digit (sym f) ∙ g) (λ i. h (f ∙ i))

  pub starts_full : (b : ℕ) → b ≡ get_or l a 0 → b ≡ opening_byte → d ≡ 0 → Stuck l p d a
  starts_full b f g h = λ k u. to_want k ∙ want_full l a d k (look_within l a opening_byte (sym f ∙ g) (omega arith)) (sym f ∙ g) h u

  pub starts_pair : (b : ℕ) → b ≡ get_or l a 0 → b ≡ opening_byte → 0 < d → Opens l p d a
  starts_pair b f g h = let w = look_within l a opening_byte (sym f ∙ g) (omega arith) in
      record { later = omega (arith, e); within = w; some = h; goes = λ k u. to_want k ∙ want_opens l a d k w (sym f ∙ g) h u }
