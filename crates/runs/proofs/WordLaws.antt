-- The words of a study and its runs: what is read off what was written, lengths, and capacity. Assumes nothing.
use Rattle.std.specs.Prelude.{ℕ, zero, suc, ◌+◌, ◌-◌, ◌*◌, ◌/◌, ◌≤◌, ◌<◌, ◌≡◌, refl, ◌↔◌, true, false, length, get_or, take, drop}
use Rattle.std.proofs.Common.{sym, ap, ◌∙◌, ⊎_elim, true≢false, le_of_suc-le-suc, eq-or-lt_of_le, add-zero, add-suc, suc-add, zero-add, zero-mul, suc-mul, mul-le-mul_right, le-div_iff_mul-le, add-one, arith, length-append, length-drop, take-append-drop, take_at, drop-cons, drop-drop, eq-eqb, ne_eqb}
use mathlib.Core.List.{List, [], ◌∷◌, ◌++◌, append_assoc, Memᴰ}
use Rattle.std.proofs.Math.Nat.{zero-div}
use Rattle.std.proofs.Math.Seq.{drop-append-add, drop-length}
use Rattle.trees.specs.Lists.{tabulate, zeros}
use Rattle.trees.specs.Checks.{row_words}
use Rattle.trees.specs.Reporting.{Run}
use Rattle.trees.proofs.ListLaws.{member_at, length_tabulate, tabulate_eq, length_zeros}
use Rattle.runs.specs.Words.{header, samples, in_force, header_words, slot_words, slot, read_run, slots}
use Rattle.runs.specs.Words.{slot_start, run_at, runs, encode, most_runs, capacity, full}

-- each row has 2n words
abbrev pub Wide : ℕ → List Run → Type 0
Wide n rs = (run : Run) → Memᴰ run rs → length run.row ≡ row_words n

pub wide_tail : (n : ℕ) (r : Run) (rs : List Run) → Wide n (r ∷ rs) → Wide n rs
wide_tail n r rs h run m = h run (Memᴰ.tail m)

-- ---- capacity

-- in fewer words than a header has there is room for no run (RULES 6.6)
pub capacity_short : (len n : ℕ) → len < header_words → capacity len n ≡ 0
unfolding capacity
capacity_short len n h =
    let e : len - header_words ≡ 0 = omega arith in
    rw e (rw (zero-div (slot_words n)))

pub capacity_most : (len n : ℕ) → capacity len n ≤ most_runs
unfolding capacity
capacity_most len n = omega arith

-- where there is room for one, the slots up to the capacity fit after the header
pub capacity_room : (len n k : ℕ) → 1 ≤ capacity len n → k ≤ capacity len n → slot_start n k ≤ len
unfolding capacity
capacity_room len n k h l =
    let p : 0 < slot_words n = omega arith in
    let q : 1 ≤ (len - header_words) / slot_words n = omega arith in
    let u : k ≤ (len - header_words) / slot_words n = omega arith in
    let v : 1 * slot_words n ≤ len - header_words = (le-div_iff_mul-le p).0 q in
    let x : k * slot_words n ≤ len - header_words = (le-div_iff_mul-le p).0 u in
    omega arith

-- runs that are few enough and whose slots fit have room
pub capacity_largest : (len n k : ℕ) → k ≤ most_runs → slot_start n k ≤ len → k ≤ capacity len n
unfolding capacity
capacity_largest len n k h l =
    let p : 0 < slot_words n = omega arith in
    let q : k * slot_words n ≤ len - header_words = omega arith in
    let u : k ≤ (len - header_words) / slot_words n = (le-div_iff_mul-le p).1 q in
    omega arith

-- RULES 6.6 in its own figures: there is room for k runs, one or more, exactly if they are at most 1,024 and their slots fit after the header
pub capacity_exactly : (len n k : ℕ) → 1 ≤ k → (k ≤ capacity len n) ↔ ((k ≤ 1024) × (8 + k * (2 * n + 1) ≤ len))
capacity_exactly len n k h = (
  λ l. (omega (arith, capacity_most len n), capacity_room len n k (omega arith) l),
  λ t. capacity_largest len n k (omega (arith, t.0)) t.1,
)

-- a study is full once k has reached the capacity
pub full_at : (w : List ℕ) → in_force w ≡ capacity (length w) (samples w) → full w ≡ true
full_at w e = eq-eqb (in_force w) (capacity (length w) (samples w)) e

-- where k is not above it, a study is not full exactly if it has room for one run more
pub room_exactly : (w : List ℕ) → in_force w ≤ capacity (length w) (samples w) → (full w ≡ false) ↔ (in_force w < capacity (length w) (samples w))
room_exactly w h = (
  λ e. ⊎_elim (λ q. absurd (true≢false (sym (full_at w q) ∙ e))) (λ l. l) (eq-or-lt_of_le h),
  λ l. ne_eqb (in_force w) (capacity (length w) (samples w)) (λ q. omega arith),
)

-- ---- slots

pub length_slots : (n : ℕ) (rs : List Run) → Wide n rs → length (slots rs) ≡ length rs * slot_words n
unfolding slots
length_slots n [] h = sym (zero-mul (slot_words n))
length_slots n (r ∷ rs) h = omega (
  arith,
  length-append (slot r) (slots rs),
  h r (Memᴰ.head refl),
  length_slots n rs (wide_tail n r rs h),
  suc-mul (length rs) (slot_words n),
)

-- after i slots come the others
drop_slots : (n : ℕ) (rs : List Run) (z : List ℕ) (i : ℕ) → Wide n rs → i ≤ length rs → drop (i * slot_words n) (slots rs ++ z) ≡ slots (drop i rs) ++ z
unfolding slots
drop_slots n rs z zero h l = ap (λ (m : ℕ). drop m (slots rs ++ z)) (zero-mul (slot_words n))
drop_slots n [] z (suc i) h l = absurd (omega arith)
drop_slots n (r ∷ rs) z (suc i) h l =
    let e : suc i * slot_words n ≡ length (slot r) + i * slot_words n = omega (arith, suc-mul i (slot_words n), h r (Memᴰ.head refl)) in
    ap (λ (m : ℕ). drop m (slot r ++ slots rs ++ z)) e
    ∙ ap (drop (length (slot r) + i * slot_words n)) (append_assoc (slot r) (slots rs) z)
    ∙ drop-append-add (slot r) (slots rs ++ z) (i * slot_words n)
    ∙ drop_slots n rs z i (wide_tail n r rs h) (le_of_suc-le-suc l)

-- the run read off its own slot
read_slot : (n : ℕ) (r : Run) (z : List ℕ) → length r.row ≡ row_words n → read_run n (slot r ++ z) ≡ r
read_slot n r z e = ap (λ (ws : List ℕ). record { identifier = r.identifier; row = ws }) (take_at r.row z (row_words n) e)

-- the slot of the run that words begin with, and the words after it
slot_read : (n : ℕ) (ws : List ℕ) → slot_words n ≤ length ws → slot (read_run n ws) ++ drop (slot_words n) ws ≡ ws
slot_read n [] h = absurd (omega arith)
slot_read n (x ∷ xs) h =
    ap (λ (m : ℕ). x ∷ (take (row_words n) xs ++ drop m (x ∷ xs))) (add-one (row_words n)) ∙ ap (λ (ws : List ℕ). x ∷ ws) (take-append-drop (row_words n) xs)

-- the next slot begins where one ends
pub slot_next : (n i : ℕ) → slot_start n (suc i) ≡ slot_start n i + slot_words n
slot_next n i = omega (arith, suc-mul i (slot_words n))

pub drop_next : (n : ℕ) (w : List ℕ) (i : ℕ) → drop (slot_words n) (drop (slot_start n i) w) ≡ drop (slot_start n (suc i)) w
drop_next n w i = drop-drop (slot_words n) (slot_start n i) w ∙ ap (λ (p : ℕ). drop p w) (sym (slot_next n i))

-- ---- what was written is read

pub samples_encode : (len n : ℕ) (rs : List Run) → samples (encode len n rs) ≡ n
unfolding encode
samples_encode len n rs = refl

pub in_force_encode : (len n : ℕ) (rs : List Run) → in_force (encode len n rs) ≡ length rs
unfolding encode
in_force_encode len n rs = refl

-- the zeros after the slots
abbrev rest : ℕ → ℕ → List Run → List ℕ
rest len n rs = zeros (len - length (header n (length rs) ++ slots rs))

-- the words from slot i on
drop_encode : (len n : ℕ) (rs : List Run) (i : ℕ) → Wide n rs → i ≤ length rs → drop (slot_start n i) (encode len n rs) ≡ slots (drop i rs) ++ rest len n rs
unfolding encode
drop_encode len n rs i h l =
    let z : List ℕ = rest len n rs in
    drop-append-add (header n (length rs)) (slots rs ++ z) (i * slot_words n) ∙ drop_slots n rs z i h l

-- after the slots there are only zeros (RULES 6.5)
pub rest_encode : (len n : ℕ) (rs : List Run) → Wide n rs
    → drop (slot_start n (length rs)) (encode len n rs) ≡ zeros (len - length (header n (length rs) ++ slots rs))
unfolding slots
rest_encode len n rs h = drop_encode len n rs (length rs) h (omega arith) ∙ ap (λ (xs : List Run). slots xs ++ rest len n rs) (drop-length rs)

run_encode : (len n : ℕ) (rs : List Run) (i : ℕ) (d : Run) → Wide n rs → i < length rs → run_at n (encode len n rs) i ≡ get_or rs i d
unfolding slots
run_encode len n rs i d h l =
    let z : List ℕ = rest len n rs in
    let r : Run = get_or rs i d in
    ap (read_run n)
    (drop_encode len n rs i h (omega arith)
    ∙ ap (λ (xs : List Run). slots xs ++ z) (drop-cons rs i d l)
    ∙ append_assoc (slot r) (slots (drop (suc i) rs)) z)
    ∙ read_slot n r (slots (drop (suc i) rs) ++ z) (h r (member_at rs i d l))

-- THE RUNS OF ENCODED RUNS ARE THESE
pub runs_encode : (len n : ℕ) (rs : List Run) → Wide n rs → runs (encode len n rs) ≡ rs
unfolding runs encode
runs_encode len n rs h =
    let d : Run = record { identifier = 0; row = [] } in
    tabulate_eq rs (length rs) (run_at n (encode len n rs)) 0 d refl (λ i l. ap (run_at n (encode len n rs)) (zero-add i) ∙ run_encode len n rs i d h l)

pub length_encode : (len n : ℕ) (rs : List Run) → Wide n rs → slot_start n (length rs) ≤ len → length (encode len n rs) ≡ len
unfolding encode
length_encode len n rs h l =
    let ws : List ℕ = header n (length rs) ++ slots rs in
    omega (
      arith,
      length-append ws (zeros (len - length ws)),
      length_zeros (len - length ws),
      length-append (header n (length rs)) (slots rs),
      length_slots n rs h,
    )

-- ---- what is read is written

-- as many runs are read off as the header says
pub length_runs : (w : List ℕ) → length (runs w) ≡ in_force w
unfolding runs
length_runs w = length_tabulate (in_force w) (run_at (samples w) w) 0

-- the slots of k runs read from slot j on, and the words after them
slots_read : (n : ℕ) (w : List ℕ) (k j : ℕ) → slot_start n (j + k) ≤ length w
    → slots (tabulate k (run_at n w) j) ++ drop (slot_start n (j + k)) w ≡ drop (slot_start n j) w
unfolding slots tabulate
slots_read n w zero j h = ap (λ (i : ℕ). drop (slot_start n i) w) (add-zero j)
slots_read n w (suc k) j h =
    let ws : List ℕ = drop (slot_start n j) w in
    let e : j + suc k ≡ suc j + k = add-suc j k ∙ sym (suc-add j k) in
    let t : List ℕ = slots (tabulate k (run_at n w) (suc j)) in
    let q : suc j ≤ j + suc k = omega arith in
    let m = mul-le-mul_right (slot_words n) q in
    let l : slot_words n ≤ length ws = omega (arith, length-drop (slot_start n j) w, slot_next n j) in
    append_assoc (slot (read_run n ws)) t (drop (slot_start n (j + suc k)) w)
    ∙ ap (λ (xs : List ℕ). slot (read_run n ws) ++ xs)
    (ap (λ (i : ℕ). t ++ drop (slot_start n i) w) e ∙ slots_read n w k (suc j) (rw (← e) h) ∙ sym (drop_next n w j))
    ∙ slot_read n ws l

-- words with a header, and zeros after their runs, are those of their runs
pub encode_runs : (w : List ℕ) → slot_start (samples w) (in_force w) ≤ length w → take header_words w ≡ header (samples w) (in_force w)
    → drop (slot_start (samples w) (in_force w)) w ≡ zeros (length w - slot_start (samples w) (in_force w)) → w ≡ encode (length w) (samples w) (runs w)
unfolding encode runs
encode_runs w h head tail =
    let n : ℕ = samples w in
    let k : ℕ = in_force w in
    let rs : List Run = tabulate k (run_at n w) 0 in
    let body : slots rs ++ drop (slot_start n k) w ≡ drop header_words w
    = (rw (zero-add k, zero-mul (slot_words n)) at (slots_read n w k 0 (rw (zero-add k) h))) in
    let c : length rs ≡ k = length_tabulate k (run_at n w) 0 in
    let l : length (header n (length rs) ++ slots rs) ≡ slot_start n k
    = omega (
      arith,
      length-append (header n (length rs)) (slots rs),
      length-append (slots rs) (drop (slot_start n k) w),
      ap length body,
      length-drop header_words w,
      length-drop (slot_start n k) w,
    ) in
    sym (take-append-drop header_words w)
    ∙ ap (λ (xs : List ℕ). xs ++ drop header_words w) head
    ∙ ap (λ (xs : List ℕ). header n k ++ xs) (sym body)
    ∙ ap (λ (xs : List ℕ). header n k ++ (slots rs ++ xs)) tail
    ∙ ap (λ (m : ℕ). header n m ++ (slots rs ++ zeros (length w - slot_start n k))) (sym c)
    ∙ ap (λ (m : ℕ). header n (length rs) ++ (slots rs ++ zeros (length w - m))) (sym l)
    ∙ sym (append_assoc (header n (length rs)) (slots rs) (zeros (length w - length (header n (length rs) ++ slots rs))))
