-- The bytes of a file and its slots, without loss; what a good file is; a text at the front, byte by byte. Assumes nothing.
use Rattle.std.specs.Prelude.{ℕ, ◌+◌, ◌*◌, ◌^◌, ◌≤◌, ◌<◌, ◌≡◌, refl, ◌↔◌, List, [], ◌∷◌, Bool, true, false, ◌&&◌, ◌||◌, not, cond, eqb, length, get_or, drop, suc, None}
use Rattle.std.proofs.Common.{sym, ap, ◌∙◌, mul-le-mul, mul-le-mul_right, le-mul_of_pos_right, add-mul, zero-add, arith, eq-eqb, ne_eqb, eqb-true, drop-cons}
use Rattle.std.specs.List.{starts_with}
use Rattle.std.proofs.lemmas.Bool.{not-false}
use Rattle.std.proofs.lemmas.Option.{same_Some}
use Rattle.trees.specs.Checks.{row_words, outside}
use Rattle.trees.proofs.BoolLaws.{or_none}
use Rattle.trees.proofs.CheckLaws.{outside_not, not_outside}
use Rattle.trees.proofs.ListLaws.{length_tabulate, get_d_tabulate}
use Rattle.ascii.specs.Ascii.{ascii}
use Rattle.file.specs.declared.Sizes.{Sizes}
use Rattle.file.specs.Files.{word_at, file_samples, file_runs, file_version, head_bytes, most_bytes, file_bytes, begins, bad_file, good, file_of, slot_row}

-- ---- bytes

-- one slot more
pub bytes_next : (n j : ℕ) → file_bytes n (j + 1) ≡ file_bytes n j + 2 + 2 * (2 * n)
unfolding file_bytes
bytes_next n j =
    let e : 2 * (j + 1) ≡ 2 * j + 2 = omega arith in
    rw (e, add-mul) (omega arith)

-- fewer slots have no more bytes
pub bytes_order : (n j k : ℕ) → j ≤ k → file_bytes n j ≤ file_bytes n k
unfolding file_bytes
bytes_order n j k h =
    let a : 2 * j ≤ 2 * k = omega arith in
    omega (arith, mul-le-mul_right (2 * n + 1) a)

-- no factor is above the product
pub factor_below : (n k : ℕ) → 2 * k + head_bytes ≤ file_bytes n k
unfolding file_bytes
factor_below n k =
    let h : 0 < 2 * n + 1 = omega arith in
    omega (arith, le-mul_of_pos_right (2 * k) h)

-- exact whatever 16-bit values n and k have (RULES 9.3)
pub bytes_fit : (n k : ℕ) → n < 65536 → k < 65536 → file_bytes n k < 2 ^ 63
unfolding file_bytes
bytes_fit n k h l =
    let a : 2 * k ≤ 131070 = omega arith in
    let b : 2 * n + 1 ≤ 131071 = omega arith in
    omega (arith, mul-le-mul a b)

-- a slot that lies within the bytes: its number and its place need no more than they
pub slot_fits : (n j len : ℕ) → file_bytes n (j + 1) ≤ len → len < 2 ^ 63 → (n < 2 ^ 62) × (file_bytes n j < 2 ^ 63)
slot_fits n j len h l = (omega (arith, bytes_next n j), omega (arith, bytes_next n j))

pub length_slot : (bytes : List ℕ) (n j : ℕ) → length (slot_row bytes n j) ≡ row_words n
unfolding slot_row
length_slot bytes n j = length_tabulate (row_words n) (λ i. word_at bytes (file_bytes n j + 2 + 2 * i)) 0

pub slot_word : (bytes : List ℕ) (n j i : ℕ) → i < row_words n → get_or (slot_row bytes n j) i 0 ≡ word_at bytes (file_bytes n j + 2 + 2 * i)
unfolding slot_row
slot_word bytes n j i h = get_d_tabulate (row_words n) (λ t. word_at bytes (file_bytes n j + 2 + 2 * t)) 0 i 0 h ∙ rw zero-add

-- ---- a text at the front

-- what `starts_with` answers
pub begins_pass : (text bytes : List ℕ) (i : ℕ) → i < length text → i < length bytes → get_or text i 0 ≡ get_or bytes i 0
    → begins (drop i text) (drop i bytes) ≡ begins (drop (suc i) text) (drop (suc i) bytes)
unfolding begins
begins_pass text bytes i h k e = rw (drop-cons text i 0 h, drop-cons bytes i 0 k, eq-eqb _ _ e)

pub begins_stop : (text bytes : List ℕ) (i : ℕ) → i < length text → i < length bytes → (get_or text i 0 ≡ get_or bytes i 0 → ⊥)
    → begins (drop i text) (drop i bytes) ≡ false
unfolding begins
begins_stop text bytes i h k e = rw (drop-cons text i 0 h, drop-cons bytes i 0 k, ne_eqb _ _ e)

pub begins_none : (bytes : List ℕ) → begins [] bytes ≡ true
unfolding begins
begins_none bytes = refl

pub begins_is : (text bytes : List ℕ) → starts_with eqb bytes text ≡ begins text bytes
unfolding begins
begins_is [] bytes = refl
begins_is (x ∷ text) [] = refl
begins_is (x ∷ text) (y ∷ bytes) = ap (λ b. eqb x y && b) (begins_is text bytes)

-- ---- bad files

-- too short or too long
pub bad_far : (bytes : List ℕ) → outside head_bytes most_bytes (length bytes) ≡ true → bad_file bytes ≡ true
unfolding bad_file
bad_far bytes e = rw e

-- otherwise the mark, the version and the length decide
pub bad_near : (bytes : List ℕ) → outside head_bytes most_bytes (length bytes) ≡ false → bad_file bytes ≡ (not (begins (ascii "ARB") bytes)
    || not (eqb (file_version bytes) 1) || not (eqb (length bytes) (file_bytes (file_samples bytes) (file_runs bytes))))
unfolding bad_file
bad_near bytes e = rw e

-- ---- good files

-- What makes a file good (RULES 1.5, 9.3), in figures.
pub record Sound (bytes : List ℕ) : Type 0 where
  pub least : 9 ≤ length bytes
  pub most : length bytes ≤ 65529
  pub mark : begins (ascii "ARB") bytes ≡ true
  pub version : file_version bytes ≡ 1
  pub long : length bytes ≡ 9 + 2 * file_runs bytes * (2 * file_samples bytes + 1)

pub not_bad : (bytes : List ℕ) → bad_file bytes ≡ false → Sound bytes
unfolding bad_file file_bytes
not_bad bytes e =
    let far : Bool = outside head_bytes most_bytes (length bytes) in
    let other : Bool = not (begins (ascii "ARB") bytes) in
    let old : Bool = not (eqb (file_version bytes) 1) in
    let due : ℕ = file_bytes (file_samples bytes) (file_runs bytes) in
    let a = or_none (far || other || old) (not (eqb (length bytes) due)) e in
    let b = or_none (far || other) old a.0 in
    let d = or_none far other b.0 in
    let l = outside_not head_bytes most_bytes (length bytes) d.0 in
    record {
      least = omega (arith, l.0);
      most = omega (arith, l.1);
      mark = not-false (begins (ascii "ARB") bytes) d.1;
      version = eqb-true (file_version bytes) 1 (not-false (eqb (file_version bytes) 1) b.1);
      long = omega (arith, eqb-true (length bytes) due (not-false (eqb (length bytes) due) a.1));
    }

pub sound_not_bad : (bytes : List ℕ) → Sound bytes → bad_file bytes ≡ false
unfolding bad_file file_bytes
sound_not_bad bytes s =
    rw (
      not_outside head_bytes most_bytes (length bytes) (omega (arith, s.least)) (omega (arith, s.most)),
      s.mark,
      eq-eqb (file_version bytes) 1 s.version,
      eq-eqb (length bytes) (file_bytes (file_samples bytes) (file_runs bytes)) (omega (arith, s.long)),
    ) refl

-- a file is bad exactly if one of the five fails
pub sound_exactly : (bytes : List ℕ) → (bad_file bytes ≡ false) ↔ Sound bytes
sound_exactly bytes = (not_bad bytes, sound_not_bad bytes)

pub good_file : (bytes : List ℕ) (n k : ℕ) → file_of bytes ≡ good n k → (n ≡ file_samples bytes) × (k ≡ file_runs bytes) × Sound bytes
unfolding file_of
good_file bytes n k e = go (bad_file bytes) refl e
  where
    go : (b : Bool) → bad_file bytes ≡ b → cond b None (good (file_samples bytes) (file_runs bytes)) ≡ good n k
        → (n ≡ file_samples bytes) × (k ≡ file_runs bytes) × Sound bytes
    go true p q = let z : ◌≡◌ {A = ℕ} 0 1 = cc in absurd (omega arith)
    go false p q =
        let e = same_Some _ _ q in
        (sym (ap (λ (s : Sizes). s.samples) e), sym (ap (λ (s : Sizes). s.runs) e), not_bad bytes p)

-- a sound file is good, with the n and k that stand in it
pub sound_good : (bytes : List ℕ) → Sound bytes → file_of bytes ≡ good (file_samples bytes) (file_runs bytes)
unfolding file_of
sound_good bytes s = rw (sound_not_bad bytes s) refl

-- any other file is bad
pub bad-file : (bytes : List ℕ) → bad_file bytes ≡ true → file_of bytes ≡ None
unfolding file_of
bad-file bytes e = rw e refl

-- a good file is as long as its n and k say
pub good_length : (bytes : List ℕ) (n k : ℕ) → file_of bytes ≡ good n k → length bytes ≡ file_bytes n k
unfolding file_bytes
good_length bytes n k e = let g = good_file bytes n k e in g.2.long ∙ rw (← g.0, ← g.1) refl
