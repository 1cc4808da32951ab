-- A slot put in or closed up in a well-formed study leaves the words of the runs with one more or one fewer. Assumes nothing.
use Prim.Native.Nat.{ℕ, zero, suc, ◌+◌, ◌-◌, ◌*◌, ◌≤◌, ◌<◌}
use Rattle.std.specs.Prelude.{◌≡◌, refl, take}
use Rattle.std.proofs.Common.{sym, ◌∙◌, le_of_suc-le-suc, zero-add, add-zero, arith, take-append-drop, take_at, drop_at, length-take-le, lt-ltb, le-ltb, eq-eqb, ne_eqb}
use Rattle.std.proofs.Math.Path.{ap}
use Rattle.std.proofs.Math.Option.{some}
use mathlib.Core.List.Memᴰ
use mathlib.Core.List.{List, [], ◌∷◌, ◌++◌, append_assoc}
use Rattle.std.proofs.Math.Nat.{zero-sub, sub-zero, suc-sub-suc}
use Rattle.std.proofs.Math.ListN.{length, get_or, drop, set, length-append}
use Rattle.std.proofs.lemmas.List.{replicate-append-replicate}
use Rattle.std.proofs.Math.Seq.{slice, drop-cons, drop-append-add, get_or-drop}
use Rattle.trees.specs.Lists.{zeros}
use Rattle.trees.specs.Checks.{row_words}
use Rattle.trees.specs.Reporting.{Run}
use Rattle.trees.proofs.ListLaws.{member_at, get_d_tabulate}
use Rattle.runs.specs.Runs.{find, insert_run, delete_run}
use Rattle.runs.specs.Words.{header, samples, in_force, in_force_at, slot_words, slot, slots, slot_start, run_at, runs, padded, encode}
use Rattle.runs.specs.Formed.{Rising, Formed}
use Rattle.runs.specs.Moves.{identifier_at, StandsAt, GoesBefore, put_at, close_at, slot_put, slot_closed}
use Rattle.runs.proofs.RunLaws.{Absent, find_here, find_past, find_below}
use Rattle.runs.proofs.WordLaws.{Wide, length_slots, capacity_room, length_runs}
use Rattle.runs.proofs.FormedLaws.{stored_wide}

-- ---- a place in a rising list

blank : Run
blank = record { identifier = 0; row = [] }

-- the identifier of run j
abbrev ident : List Run → ℕ → ℕ
ident rs j = (get_or rs j blank).identifier

insert_at : (r : Run) (rs : List Run) (i : ℕ) → i ≤ length rs → ((j : ℕ) → j < i → ident rs j < r.identifier) → (i < length rs → r.identifier < ident rs i)
    → insert_run r rs ≡ take i rs ++ (r ∷ drop i rs)
unfolding insert_run
insert_at r [] zero h lo hi = refl
insert_at r [] (suc i) h lo hi = absurd (omega arith)
insert_at r (x ∷ xs) zero h lo hi = rw (lt-ltb r.identifier x.identifier (hi (omega arith)))
insert_at r (x ∷ xs) (suc i) h lo hi =
    let l : x.identifier < r.identifier = lo 0 (omega arith) in
    rw (le-ltb r.identifier x.identifier (omega arith))
    (ap (λ (s : List Run). x ∷ s) (insert_at r xs i (le_of_suc-le-suc h) (λ j k. lo (suc j) (omega arith)) (λ k. hi (omega arith))))

absent_at : (b d : ℕ) (rs : List Run) (i : ℕ) → Rising b rs → i ≤ length rs → ((j : ℕ) → j < i → ident rs j < d) → (i < length rs → d < ident rs i)
    → Absent d rs
unfolding find
absent_at b d [] i a h lo hi = refl
absent_at b d (x ∷ xs) zero a h lo hi = find_below d d (x ∷ xs) (hi (omega arith), a.1) (omega arith)
absent_at b d (x ∷ xs) (suc i) a h lo hi =
    let l : x.identifier < d = lo 0 (omega arith) in
    find_past d x xs (λ e. omega arith) ∙ absent_at x.identifier d xs i a.1 (le_of_suc-le-suc h) (λ j k. lo (suc j) (omega arith)) (λ k. hi (omega arith))

above_at : (b : ℕ) (rs : List Run) (i : ℕ) → Rising b rs → i < length rs → b < ident rs i
above_at b [] i a h = absurd (omega arith)
above_at b (x ∷ xs) zero a h = a.0
above_at b (x ∷ xs) (suc i) a h = omega (arith, a.0, above_at x.identifier xs i a.1 (le_of_suc-le-suc h))

find_at : (b d : ℕ) (rs : List Run) (i : ℕ) → Rising b rs → i < length rs → ident rs i ≡ d → find d rs ≡ some (get_or rs i blank)
find_at b d [] i a h e = absurd (omega arith)
find_at b d (x ∷ xs) zero a h e = find_here d x xs (sym e)
find_at b d (x ∷ xs) (suc i) a h e =
    let l = above_at x.identifier xs i a.1 (le_of_suc-le-suc h) in
    find_past d x xs (λ q. omega arith) ∙ find_at x.identifier d xs i a.1 (le_of_suc-le-suc h) e

delete_at : (b d : ℕ) (rs : List Run) (i : ℕ) → Rising b rs → i < length rs → ident rs i ≡ d → delete_run d rs ≡ take i rs ++ drop (suc i) rs
unfolding delete_run
delete_at b d [] i a h e = absurd (omega arith)
delete_at b d (x ∷ xs) zero a h e = rw (eq-eqb d x.identifier (sym e))
delete_at b d (x ∷ xs) (suc i) a h e =
    let l = above_at x.identifier xs i a.1 (le_of_suc-le-suc h) in
    rw (ne_eqb d x.identifier (λ q. omega arith)) (ap (λ (s : List Run). x ∷ s) (delete_at x.identifier d xs i a.1 (le_of_suc-le-suc h) e))

-- ---- slots before and after a place

slots_append : (xs ys : List Run) → slots (xs ++ ys) ≡ slots xs ++ slots ys
unfolding slots
slots_append [] ys = refl
slots_append (x ∷ xs) ys = ap (λ (l : List ℕ). slot x ++ l) (slots_append xs ys) ∙ sym (append_assoc (slot x) (slots xs) (slots ys))

wide_take : (n i : ℕ) (rs : List Run) → Wide n rs → Wide n (take i rs)
wide_take n i rs h run m = h run (rw (take-append-drop i rs) at (Memᴰ.append_left (drop i rs) m))

drop_zeros : (m z : ℕ) → drop m (zeros z) ≡ zeros (z - m)
drop_zeros zero z = ap (λ (k : ℕ). zeros k) (sym (sub-zero z))
drop_zeros (suc m) zero = ap (λ (k : ℕ). zeros k) (sym (zero-sub (suc m)))
drop_zeros (suc m) (suc z) = drop_zeros m z ∙ ap (λ (k : ℕ). zeros k) (sym (suc-sub-suc z m))

-- words put in between p and q, where zeros follow
put_parts : (p q new : List ℕ) (z f t : ℕ) → length p ≡ f → f + length q ≡ t → put_at (p ++ (q ++ zeros z)) f t new ≡ p ++ (new ++ (q ++ zeros (z - length new)))
put_parts p q new z f t hp hq =
    let l : length (p ++ q) ≡ t = omega (arith, length-append p q) in
    let a : p ++ (q ++ zeros z) ≡ p ++ q ++ zeros z = sym (append_assoc p q (zeros z)) in
    let e : slice f t (p ++ (q ++ zeros z)) ≡ q = ap (slice f t) a ∙ ap (drop f) (take_at (p ++ q) (zeros z) t l) ∙ drop_at p q f hp in
    let g : drop (t + length new) (p ++ (q ++ zeros z)) ≡ zeros (z - length new)
    = ap (drop (t + length new)) a
    ∙ ap (λ (m : ℕ). drop (m + length new) (p ++ q ++ zeros z)) (sym l)
    ∙ drop-append-add (p ++ q) (zeros z) (length new) ∙ drop_zeros (length new) z in
    rw (take_at p (q ++ zeros z) f hp, e, g)

-- words x taken out from between p and q, where zeros follow
close_parts : (p x q : List ℕ) (z f t : ℕ) → length p ≡ f → f + length x + length q ≡ t
    → close_at (p ++ (x ++ (q ++ zeros z))) f t (length x) ≡ p ++ (q ++ zeros (length x + z))
close_parts p x q z f t hp hq =
    let w : List ℕ = p ++ (x ++ (q ++ zeros z)) in
    let px : length (p ++ x) ≡ f + length x = omega (arith, length-append p x) in
    let pxq : length (p ++ x ++ q) ≡ t = omega (arith, length-append p x, length-append (p ++ x) q) in
    let a : w ≡ p ++ x ++ q ++ zeros z = simp append_assoc in
    let e : slice (f + length x) t w ≡ q
    = ap (slice (f + length x) t) a ∙ ap (drop (f + length x)) (take_at (p ++ x ++ q) (zeros z) t pxq) ∙ drop_at (p ++ x) q (f + length x) px in
    let g : drop t w ≡ zeros z = ap (drop t) a ∙ drop_at (p ++ x ++ q) (zeros z) t pxq in
    rw (take_at p (x ++ (q ++ zeros z)) f hp, e, g) (ap (λ (l : List ℕ). p ++ (q ++ l)) (replicate-append-replicate (length x) z 0))

module _ (len n i : ℕ) (rs : List Run) (h : Wide n rs) where
  abbrev front : List ℕ
  front = slots (take i rs)

  abbrev back : List ℕ
  back = slots (drop i rs)

  slots_split : slots rs ≡ front ++ back
  slots_split = ap slots (sym (take-append-drop i rs)) ∙ slots_append (take i rs) (drop i rs)

  length_front : i ≤ length rs → length front ≡ i * slot_words n
  length_front l = length_slots n (take i rs) (wide_take n i rs h) ∙ ap (λ (m : ℕ). m * slot_words n) (length-take-le i rs l)

  length_both : length front + length back ≡ length rs * slot_words n
  length_both = sym (length-append front back) ∙ ap length (sym slots_split) ∙ length_slots n rs h

  -- the words in parts
  encode_split : encode len n rs ≡ header n (length rs) ++ front ++ (back ++ zeros (len - slot_start n (length rs)))
  unfolding encode
  encode_split =
      let z : length (header n (length rs) ++ slots rs) ≡ slot_start n (length rs)
      = omega (arith, length-append (header n (length rs)) (slots rs), length_slots n rs h) in
      ap (λ (m : ℕ). header n (length rs) ++ slots rs ++ zeros (len - m)) z
      ∙ ap (λ (l : List ℕ). header n (length rs) ++ l ++ zeros (len - slot_start n (length rs))) slots_split
      ∙ simp append_assoc

  put_encode : (r : Run) → length r.row ≡ row_words n → i ≤ length rs → slot_put (encode len n rs) i (slot r) ≡ encode len n (take i rs ++ (r ∷ drop i rs))
  unfolding encode slots
  put_encode r hr l =
      let k : ℕ = length rs in
      let z : ℕ = len - slot_start n k in
      let p : List ℕ = header n k ++ front in
      let all : List ℕ = front ++ (slot r ++ back) in
      let hf = length_front l in
      let hp : length p ≡ slot_start n i = omega (arith, length-append (header n k) front) in
      let hq : slot_start n i + length back ≡ slot_start n k = omega (arith, length_both) in
      let m : length (take i rs ++ (r ∷ drop i rs)) ≡ suc k
      = omega (arith, length-append (take i rs) (r ∷ drop i rs), length-append (take i rs) (drop i rs), ap length (take-append-drop i rs)) in
      let zs : z - length (slot r) ≡ len - length (header n (suc k) ++ all)
      = omega (arith, length-append (header n (suc k)) all, length-append front (slot r ++ back), length-append (slot r) back, length_both) in
      let e : header n (suc k) ++ front ++ (slot r ++ (back ++ zeros (z - length (slot r)))) ≡ padded len (header n (suc k) ++ all)
      = ap (λ (y : ℕ). header n (suc k) ++ front ++ (slot r ++ (back ++ zeros y))) zs ∙ (simp append_assoc) in
      ap (λ (w : List ℕ). set (put_at w (slot_start n i) (slot_start n k) (slot r)) in_force_at (suc k)) encode_split
      ∙ ap (λ (w : List ℕ). set w in_force_at (suc k)) (put_parts p back (slot r) z (slot_start n i) (slot_start n k) hp hq)
      ∙ e
      ∙ ap (λ (ss : List ℕ). padded len (header n (suc k) ++ ss)) (sym (slots_append (take i rs) (r ∷ drop i rs)))
      ∙ ap (λ (y : ℕ). padded len (header n y ++ slots (take i rs ++ (r ∷ drop i rs)))) (sym m)

  close_encode : i < length rs → slot_start n (length rs) ≤ len → slot_closed (encode len n rs) i ≡ encode len n (take i rs ++ drop (suc i) rs)
  unfolding encode slots
  close_encode l room =
      let k : ℕ = length rs in
      let z : ℕ = len - slot_start n k in
      let x : Run = get_or rs i blank in
      let later : List ℕ = slots (drop (suc i) rs) in
      let p : List ℕ = header n k ++ front in
      let dc : drop i rs ≡ x ∷ drop (suc i) rs = drop-cons rs i blank l in
      let here : back ≡ slot x ++ later = ap slots dc in
      let ls : length (slot x) ≡ slot_words n = omega (arith, h x (member_at rs i blank l)) in
      let lb = ap length here ∙ length-append (slot x) later in
      let hf = length_front (omega arith) in
      let hp : length p ≡ slot_start n i = omega (arith, length-append (header n k) front) in
      let hq : slot_start n i + length (slot x) + length later ≡ slot_start n k = omega (arith, length_both) in
      let m : length (take i rs ++ drop (suc i) rs) ≡ k - 1
      = omega (arith, length-append (take i rs) (drop (suc i) rs), length-append (take i rs) (drop i rs), ap length (take-append-drop i rs), ap length dc) in
      let zs : length (slot x) + z ≡ len - length (header n (k - 1) ++ (front ++ later))
      = omega (arith, length-append (header n (k - 1)) (front ++ later), length-append front later, length_both) in
      let e : header n (k - 1) ++ front ++ (later ++ zeros (length (slot x) + z)) ≡ padded len (header n (k - 1) ++ (front ++ later))
      = ap (λ (y : ℕ). header n (k - 1) ++ front ++ (later ++ zeros y)) zs ∙ (simp append_assoc) in
      let cut : ℕ → List ℕ → List ℕ = λ s w. set (close_at w (slot_start n i) (slot_start n k) s) in_force_at (k - 1) in
      ap (λ (s : ℕ). cut s (encode len n rs)) (sym ls)
      ∙ ap (cut (length (slot x)))
      (encode_split ∙ ap (λ (ss : List ℕ). p ++ (ss ++ zeros z)) here ∙ ap (λ (ss : List ℕ). p ++ ss) (append_assoc (slot x) later (zeros z)))
      ∙ ap (λ (w : List ℕ). set w in_force_at (k - 1)) (close_parts p (slot x) later z (slot_start n i) (slot_start n k) hp hq)
      ∙ e
      ∙ ap (λ (ss : List ℕ). padded len (header n (k - 1) ++ ss)) (sym (slots_append (take i rs) (drop (suc i) rs)))
      ∙ ap (λ (y : ℕ). padded len (header n y ++ slots (take i rs ++ drop (suc i) rs))) (sym m)

-- ---- in a well-formed study

module _ (w : List ℕ) (f : Formed w) where
  wide : Wide (samples w) (runs w)
  wide = stored_wide (samples w) (runs w) f.stored

  -- the identifier in a slot is that of its run
  ident_at : (j : ℕ) → j < in_force w → ident (runs w) j ≡ identifier_at w j
  unfolding runs
  ident_at j l =
      ap (λ (r : Run). r.identifier) (get_d_tabulate (in_force w) (run_at (samples w) w) 0 j blank l ∙ ap (run_at (samples w) w) (zero-add j))
      ∙ get_or-drop (slot_start (samples w) j) w 0 0
      ∙ ap (λ (p : ℕ). get_or w p 0) (add-zero (slot_start (samples w) j))

  lower_at : (d i : ℕ) → GoesBefore w d i → (j : ℕ) → j < i → ident (runs w) j < d
  lower_at d i g j l = rw (ident_at j (omega (arith, g.slot))) (g.lower j l)

  higher_at : (d i : ℕ) → GoesBefore w d i → i < length (runs w) → d < ident (runs w) i
  higher_at d i g l = let q : i < in_force w = omega (arith, length_runs w) in rw (ident_at i q) (g.higher q)

  here_at : (d i : ℕ) → StandsAt w d i → ident (runs w) i ≡ d
  here_at d i s = ident_at i s.slot ∙ s.here

  -- an identifier that goes before a slot is not in force, and one that stands in a slot is
  pub goes_absent : (d i : ℕ) → GoesBefore w d i → Absent d (runs w)
  goes_absent d i g = absent_at 0 d (runs w) i f.rises (rw (length_runs w) g.slot) (lower_at d i g) (higher_at d i g)

  pub stands_found : (d i : ℕ) → StandsAt w d i → (r : Run) × (find d (runs w) ≡ some r)
  stands_found d i s = (get_or (runs w) i blank, find_at 0 d (runs w) i f.rises (rw (length_runs w) s.slot) (here_at d i s))

  -- THE WORDS WITH ONE RUN MORE: its slot put in at its place, and the count
  pub put_words : (r : Run) (i : ℕ) → length r.row ≡ row_words (samples w) → GoesBefore w r.identifier i
      → slot_put w i (slot r) ≡ encode (length w) (samples w) (insert_run r (runs w))
  put_words r i hr g =
      let l : i ≤ length (runs w) = rw (length_runs w) g.slot in
      ap (λ (v : List ℕ). slot_put v i (slot r)) f.exact
      ∙ put_encode (length w) (samples w) i (runs w) wide r hr l
      ∙ ap (encode (length w) (samples w)) (sym (insert_at r (runs w) i l (lower_at r.identifier i g) (higher_at r.identifier i g)))

  -- THE WORDS WITH ONE RUN FEWER: its slot closed up, zeros after the others, and the count
  pub close_words : (d i : ℕ) → StandsAt w d i → slot_closed w i ≡ encode (length w) (samples w) (delete_run d (runs w))
  close_words d i s =
      let l : i < length (runs w) = rw (length_runs w) s.slot in
      let room : slot_start (samples w) (length (runs w)) ≤ length w
      = rw (length_runs w) (capacity_room (length w) (samples w) (in_force w) f.one f.fits) in
      ap (λ (v : List ℕ). slot_closed v i) f.exact
      ∙ close_encode (length w) (samples w) i (runs w) wide l room
      ∙ ap (encode (length w) (samples w)) (sym (delete_at 0 d (runs w) i f.rises l (here_at d i s)))
