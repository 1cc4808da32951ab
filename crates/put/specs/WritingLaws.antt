-- Texts put one after the other are put together; a line that is put at the front is written; what is written is settled. Assumes nothing.
use Rattle.std.specs.Prelude.{ℕ, suc, ◌+◌, ◌≤◌, ◌≡◌, refl, List, [], ◌∷◌, ◌++◌, length, drop, set}
use Rattle.std.proofs.Common.{sym, ap, ◌∙◌, add-zero, add-suc, suc-add, zero-add, arith, length-append, length-take, take-append-drop}
use Rattle.std.proofs.lemmas.List.Edits.{sets, sets-eq}
use Rattle.std.proofs.Math.Seq.{length-sets, take-append_seam, drop-append_seam}
use Rattle.std.proofs.lemmas.List.{set_comm}
use Rattle.put.specs.Writing.{Put, Written}

-- ---- runs of stores

pub sets_append : (l : List ℕ) (i : ℕ) (xs ys : List ℕ) → sets l i (xs ++ ys) ≡ sets (sets l i xs) (i + length xs) ys
sets_append l i [] ys = rw add-zero
sets_append l i (x ∷ xs) ys = rw (add-suc, ← suc-add) (sets_append (set l i x) (suc i) xs ys)

-- a store at a place past a run of stores may come before it
pub sets_set : (l : List ℕ) (i : ℕ) (xs : List ℕ) (j x : ℕ) → i + length xs ≤ j → sets (set l j x) i xs ≡ set (sets l i xs) j x
sets_set l i [] j x h = refl
sets_set l i (y ∷ xs) j x h = ap (λ (m : List ℕ). sets m (suc i) xs) (set_comm l j i x y (λ q. omega arith)) ∙ sets_set (set l i y) (suc i) xs j x (omega arith)

-- ---- texts

pub put_none : {l : List ℕ} {at : ℕ} → Put [] l at l at
put_none = record { bytes = refl; place = omega arith }

pub put_byte : {l : List ℕ} {at x : ℕ} → Put (x ∷ []) l at (set l at x) (at + 1)
put_byte = record { bytes = refl; place = refl }

pub put_then : {a b l m k : List ℕ} {i j r : ℕ} → Put a l i m j → Put b m j k r → Put (a ++ b) l i k r
put_then {a} {b} {l} {m} {k} {i} {j} {r} p q = record {
  bytes = q.bytes ∙ rw (p.bytes, p.place) (sym (sets_append l i a b));
  place = q.place ∙ rw (p.place, length-append) (omega arith);
}

pub put_length : {a l m : List ℕ} {i r : ℕ} → Put a l i m r → length m ≡ length l
put_length {a} {l} {m} {i} p = rw p.bytes (length-sets l i a)

pub put_written : {line l m : List ℕ} {r : ℕ} → r ≤ length l → Put line l 0 m r → Written line l m r
put_written {line} {l} {m} {r} h p =
    let long : r ≡ length line = p.place ∙ zero-add (length line) in
    let whole : m ≡ line ++ drop (length line) l = p.bytes ∙ sets-eq line l 0 (omega arith) ∙ rw zero-add in
    record {
      long = long;
      front = rw (long, whole) (take-append_seam line (drop (length line) l));
      rest = rw (long, whole) (drop-append_seam line (drop (length line) l));
    }

pub written_within : {line l m : List ℕ} {r : ℕ} → Written line l m r → r ≤ length m
written_within {line} {l} {m} {r} p = omega (arith, length-take r m, p.long, ap length p.front)

-- ---- what is written is settled

pub written_determined : {line l m k : List ℕ} {r s : ℕ} → Written line l m r → Written line l k s → (r ≡ s) × (m ≡ k)
written_determined {line} {l} {m} {k} {r} {s} p q =
    let e : r ≡ s = p.long ∙ sym q.long in
    (e, sym (take-append-drop r m) ∙ rw (p.front, p.rest, e) (rw (q.front, q.rest) at (take-append-drop s k)))
