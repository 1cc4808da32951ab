-- The test of a study passes exactly if its words are those of its runs, and these are in order, in standard numbering and few enough. Assumes nothing.
use Prim.Native.Nat.{ℕ, zero, suc, ◌+◌, ◌-◌, ◌≤◌}
use Rattle.std.specs.Prelude.{◌≡◌, refl, ◌↔◌, true, ◌&&◌, not, eqb, leb, length, get_or, take, drop}
use Rattle.std.proofs.Common.{sym, ◌∙◌, add-sub_of_le, length-drop, get_or-drop, eqb-true, eq-eqb, leb-true, le-leb}
use Rattle.std.proofs.Math.Path.{ap}
use mathlib.Core.List.{List, [], ◌∷◌, ◌++◌, Memᴰ}
use Rattle.std.proofs.Math.Bool.{Bool}
use Rattle.std.proofs.lemmas.Bool.{false≢true, not-true}
use Rattle.trees.specs.Lists.{zeros}
use Rattle.trees.specs.Checks.{fewest_samples, most_samples, outside}
use Rattle.trees.specs.Valid.{standard}
use Rattle.trees.specs.Reporting.{Run}
use Rattle.trees.proofs.BoolLaws.{and_l, and_r, and_both}
use Rattle.trees.proofs.ListLaws.{get_or_zeros}
use Rattle.trees.proofs.CheckLaws.{outside_not, not_outside}
use Rattle.trees.proofs.StandardLaws.{standard_to, standard_from}
use Rattle.trees.proofs.ReportingLaws.{Runs}
use Rattle.runs.specs.Runs.{every, rising}
use Rattle.runs.specs.Words.{header, samples, in_force, header_words, slots, slot_start, runs, encode, most_identifier, capacity}
use Rattle.runs.specs.Formed.{same_words, headed, sized, is_stored, zero_from, well_formed, Rising, Stored, Formed}
use Rattle.runs.proofs.RunLaws.{every_to, every_from, rising_to, rising_from}
use Rattle.runs.proofs.WordLaws.{Wide, capacity_room, samples_encode, in_force_encode, rest_encode, runs_encode, length_encode, length_runs, encode_runs}

-- ---- the tests of words

pub same_words_to : (xs ys : List ℕ) → same_words xs ys ≡ true → xs ≡ ys
unfolding same_words
same_words_to [] [] e = refl
same_words_to [] (y ∷ ys) e = absurd (false≢true e)
same_words_to (x ∷ xs) [] e = absurd (false≢true e)
same_words_to (x ∷ xs) (y ∷ ys) e = cc (eqb-true x y (and_l (eqb x y) (same_words xs ys) e), same_words_to xs ys (and_r (eqb x y) (same_words xs ys) e))

pub same_words_refl : (xs : List ℕ) → same_words xs xs ≡ true
unfolding same_words
same_words_refl [] = refl
same_words_refl (x ∷ xs) = and_both _ _ (eq-eqb x x refl) (same_words_refl xs)

pub zeros_to : (ws : List ℕ) → every (λ x. eqb x 0) ws ≡ true → ws ≡ zeros (length ws)
unfolding every
zeros_to [] e = refl
zeros_to (x ∷ ws) e = cc (eqb-true x 0 (and_l (eqb x 0) (every (λ y. eqb y 0) ws) e), zeros_to ws (and_r (eqb x 0) (every (λ y. eqb y 0) ws) e))

pub zeros_from : (m : ℕ) → every (λ x. eqb x 0) (zeros m) ≡ true
unfolding every
zeros_from zero = refl
zeros_from (suc m) = zeros_from m

-- where the test passes, each word from p on is 0 (RULES 6.5)
pub zero-from : (p : ℕ) (w : List ℕ) → zero_from p w ≡ true → (i : ℕ) → p ≤ i → get_or w i 0 ≡ 0
zero-from p w e i h =
    let q : p + (i - p) ≡ i = add-sub_of_le h in
    let z : drop p w ≡ zeros (length (drop p w)) = zeros_to (drop p w) e in
    ap (λ (j : ℕ). get_or w j 0) (sym q) ∙ sym (get_or-drop p w (i - p) 0) ∙ ap (λ (ws : List ℕ). get_or ws (i - p) 0) z ∙ get_or_zeros (length (drop p w)) (i - p)

encode_zero : (len n : ℕ) (rs : List Run) → Wide n rs → zero_from (slot_start n (length rs)) (encode len n rs) ≡ true
encode_zero len n rs h = ap (every (λ x. eqb x 0)) (rest_encode len n rs h) ∙ zeros_from (len - length (header n (length rs) ++ slots rs))

-- ---- stored runs

pub stored_to : (n : ℕ) (run : Run) → is_stored n run ≡ true → Stored n run
stored_to n run e = record {
  word = leb-true run.identifier most_identifier (and_l (leb run.identifier most_identifier) (standard n run.row) e);
  standard = standard_to n run.row (and_r (leb run.identifier most_identifier) (standard n run.row) e);
}

pub stored-from : (n : ℕ) (run : Run) → Stored n run → is_stored n run ≡ true
stored-from n run s = and_both _ _ (le-leb run.identifier most_identifier s.word) (standard_from n run.row s.standard)

pub stored_wide : (n : ℕ) (rs : List Run) → ((run : Run) → Memᴰ run rs → Stored n run) → Wide n rs
stored_wide n rs h run m = (h run m).standard.valid.words

-- ---- the test is the record

module _ (w : List ℕ) where
  abbrev n : ℕ
  n = samples w

  abbrev k : ℕ
  k = in_force w

  abbrev cap : ℕ
  cap = capacity (length w) n

  -- sizes and capacity
  record Sizes : Type 0 where
    least : fewest_samples ≤ n
    most : n ≤ most_samples
    one : 1 ≤ cap
    fits : k ≤ cap

  sizes_to : sized w ≡ true → Sizes
  sizes_to e =
      let in-range : Bool = not (outside fewest_samples most_samples n) in
      let both = and_l (in-range && leb 1 cap) (leb k cap) e in
      let b = outside_not fewest_samples most_samples n (not-true _ (and_l in-range (leb 1 cap) both)) in
      record {
        least = b.0;
        most = b.1;
        one = leb-true 1 cap (and_r in-range (leb 1 cap) both);
        fits = leb-true k cap (and_r (in-range && leb 1 cap) (leb k cap) e);
      }

  sizes_from : Sizes → sized w ≡ true
  sizes_from s =
      and_both _ _ (and_both _ _ (ap not (not_outside fewest_samples most_samples n s.least s.most)) (le-leb 1 cap s.one)) (le-leb k cap s.fits)

  pub formed_to : well_formed w ≡ true → Formed w
  unfolding well_formed
  formed_to e =
      let up : Bool = rising 0 (runs w) in
      let all : Bool = every (is_stored n) (runs w) in
      let e4 = and_l (headed w && sized w && up && all) (zero_from (slot_start n k) w) e in
      let e3 = and_l (headed w && sized w && up) all e4 in
      let e2 = and_l (headed w && sized w) up e3 in
      let s = sizes_to (and_r (headed w) (sized w) e2) in
      let head = same_words_to (take header_words w) (header n k) (and_l (headed w) (sized w) e2) in
      let tail = zeros_to (drop (slot_start n k) w) (and_r (headed w && sized w && up && all) (zero_from (slot_start n k) w) e) in
      record {
        least = s.least;
        most = s.most;
        one = s.one;
        fits = s.fits;
        rises = rising_to 0 (runs w) (and_r (headed w && sized w) up e3);
        stored = λ run m. stored_to n run (every_to (is_stored n) (runs w) (and_r (headed w && sized w && up) all e4) run m);
        exact = encode_runs w (capacity_room (length w) n k s.one s.fits) head (tail ∙ ap (λ (m : ℕ). zeros m) (length-drop (slot_start n k) w));
      }

  pub formed_from : Formed w → well_formed w ≡ true
  unfolding well_formed encode
  formed_from f =
      and_both _ _
      (and_both _ _
      (and_both _ _ (and_both _ _ head (sizes_from sizes)) (rising_from 0 (runs w) f.rises))
      (every_from (is_stored n) (runs w) (λ run m. stored-from n run (f.stored run m))))
      zero
    where
      sizes : Sizes
      sizes = record { least = f.least; most = f.most; one = f.one; fits = f.fits }

      head : headed w ≡ true
      head =
          ap (λ (ws : List ℕ). same_words ws (header n k)) (ap (take header_words) f.exact ∙ ap (header n) (length_runs w))
          ∙ same_words_refl (header n k)

      zero : zero_from (slot_start n k) w ≡ true
      zero =
          ap (λ (m : ℕ). zero_from (slot_start n m) w) (sym (length_runs w))
          ∙ ap (zero_from (slot_start n (length (runs w)))) f.exact
          ∙ encode_zero (length w) n (runs w) (stored_wide n (runs w) f.stored)

  -- THE TEST PASSES EXACTLY IF the study is the words of its runs, these rise from 1 and are stored as they must be, and
  -- sizes and capacity are in range (RULES 6.7)
  pub well_formed_exactly : (well_formed w ≡ true) ↔ Formed w
  well_formed_exactly = (formed_to, formed_from)

-- ---- the words of runs are well formed

-- runs that a study of len words over n samples can have in force
pub record Room (len n : ℕ) (rs : List Run) : Type 0 where
  pub least : fewest_samples ≤ n
  pub most : n ≤ most_samples
  pub one : 1 ≤ capacity len n
  pub fits : length rs ≤ capacity len n
  pub rises : Rising 0 rs
  pub stored : (run : Run) → Memᴰ run rs → Stored n run

module _ (len n : ℕ) (rs : List Run) (ok : Room len n rs) where
  wide : Wide n rs
  wide = stored_wide n rs ok.stored

  pub room_length : length (encode len n rs) ≡ len
  room_length = length_encode len n rs wide (capacity_room len n (length rs) ok.one ok.fits)

  pub room_runs : runs (encode len n rs) ≡ rs
  room_runs = runs_encode len n rs wide

  pub room_formed : Formed (encode len n rs)
  room_formed = let s = samples_encode len n rs in record {
    least = rw s ok.least;
    most = rw s ok.most;
    one = rw (s, room_length) ok.one;
    fits = rw (s, room_length, in_force_encode len n rs) ok.fits;
    rises = rw room_runs ok.rises;
    stored = rw (s, room_runs) ok.stored;
    exact = rw (s, room_length, room_runs);
  }

-- a well-formed study's runs have room in it
pub formed_room : (w : List ℕ) → Formed w → Room (length w) (samples w) (runs w)
formed_room w f = record { least = f.least; most = f.most; one = f.one; fits = rw (length_runs w) f.fits; rises = f.rises; stored = f.stored }

-- each of its runs has a valid row: what the laws of reporting ask for
pub formed_valid : (w : List ℕ) → Formed w → Runs (samples w) (runs w)
formed_valid w f run m = (f.stored run m).standard.valid

-- two well-formed studies of one length and n with equal runs have equal words
pub formed_unique : (v w : List ℕ) → Formed v → Formed w → length v ≡ length w → samples v ≡ samples w → runs v ≡ runs w → v ≡ w
formed_unique v w f g l s r =
    f.exact
    ∙ ap (λ (len : ℕ). encode len (samples v) (runs v)) l
    ∙ ap (λ (m : ℕ). encode (length w) m (runs v)) s
    ∙ ap (encode (length w) (samples w)) r
    ∙ sym g.exact
