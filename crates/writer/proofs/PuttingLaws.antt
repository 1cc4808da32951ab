-- A pair of brackets put child by child. Assumes nothing.
use Prim.Native.Nat.{ℕ, ◌+◌, ◌-◌, ◌≤◌, ◌<◌}
use mathlib.Core.Path.{◌≡◌, refl, ap, ◌∙◌}
use mathlib.Core.List.{List, [], ◌∷◌, ◌++◌, append_assoc, append-nil}
use native.Mathlib.Omega.{arith}
use lib.ListN.{length, get_or, length-append}
use Rattle.trees.specs.Rows.{nodes}
use Rattle.trees.specs.Tables.{table_words}
use Rattle.newick.specs.RowText.{commas, listed}
use Rattle.put.specs.Writing.{Put}
use Rattle.put.specs.WritingLaws.{put_none, put_then, put_length}
use Rattle.chains.specs.Kids.{Chain}
use Rattle.chains.specs.Kids.Chain.{last, then}
use Rattle.newick.specs.Bytes.{opening_byte, closing_byte, comma_byte}
use Rattle.writer.specs.Nesting.{in_pair, kids_in}
use Rattle.writer.specs.NestingLaws.{kids_children}
use Rattle.writer.specs.Putting.{Supports, HasWord, Charted, Putting}

-- ---- chains

module _ {next : List ℕ} {m : ℕ} where
  chain_low : {c : ℕ} {ds : List ℕ} → Chain next m c ds → c < m
  chain_low (last c h e) = h
  chain_low (then c ds h e k) = h

  chain_last : {c : ℕ} {ds : List ℕ} → Chain next m c ds → get_or next c 0 ≡ 0 → ds ≡ c ∷ []
  chain_last (last c h e) q = refl
  chain_last (then c ds h e k) q = absurd (e q)

  chain_then : {c : ℕ} {ds : List ℕ} → Chain next m c ds → (get_or next c 0 ≡ 0 → ⊥)
      → (es : List ℕ) × (ds ≡ c ∷ es) × Chain next m (get_or next c 0) es
  chain_then (last c h e) q = absurd (q e)
  chain_then (then c ds h e k) q = (ds, refl, k)

  listed_then : {d : ℕ} {ds : List ℕ} (f : ℕ → List ℕ) (c : ℕ) → Chain next m d ds → listed f (c ∷ ds) ≡ f c ++ (comma_byte ∷ listed f ds)
  unfolding listed commas
  listed_then f c (last d h e) = refl
  listed_then f c (then d ds h e k) = refl

  -- the first text and one byte are no more than all
  chain_front : {c : ℕ} {ds : List ℕ} (f : ℕ → List ℕ) → Chain next m c ds → length (f c) + 1 ≤ length (in_pair f ds)
  unfolding listed commas
  chain_front f (last c h e) = omega (arith, length-append (f c ++ []) (closing_byte ∷ []), length-append (f c) [])
  chain_front f (then c ds h e k) = omega (arith, length-append (f c ++ commas f ds) (closing_byte ∷ []), length-append (f c) (commas f ds))

-- ---- a node

module _ {n v : ℕ} {head next : List ℕ} (k : Charted n head next v) where
  -- a table has a word for it
  pub charted_fits : v < table_words
  charted_fits = omega (arith, k.node, k.valid.high, k.valid.most)

  -- and so have words that are wanted
  pub charted_word : (ws : List ℕ) → Supports n ws → HasWord ws v
  charted_word ws s h = omega (arith, s h, k.node, k.valid.high)

-- ---- the loop

module _ {n : ℕ} {head next : List ℕ} {f : ℕ → List ℕ} {at : ℕ} {out₀ : List ℕ} where
  pub putting_start : {v c : ℕ} → Charted n head next v → n ≤ v → at + length (in_pair f (kids_in head next v)) ≤ length out₀
      → c ≡ get_or head v 0 → Putting n head next f (kids_in head next v) out₀ at c out₀ at
  putting_start {v} {c} k h room q =
      let r = k.row in
      let e = kids_children n r head next k.valid k.kids v h k.node in
      let t : Chain next (nodes r) c (kids_in head next v) = rw (q, e) (k.kids.chain v h k.node) in
      record {
        chart = record { row = r; valid = k.valid; kids = k.kids; node = chain_low t };
        done = [];
        rest = kids_in head next v;
        chain = t;
        split = refl;
        put = put_none;
        room = room;
        same = refl;
      }

  module _ {cs out : List ℕ} {e c : ℕ} (P : Putting n head next f cs out₀ at c out e) where
    pub putting_child : e + (length (f c) + 1) ≤ length out
    putting_child = omega (arith, P.room, chain_front f P.chain)

    -- a child's text in two parts
    module _ (a b : List ℕ) (q : f c ≡ a ++ b) where
      pub putting_text : e + length a ≤ length out
      putting_text = omega (arith, putting_child, ap length q, length-append a b)

      pub putting_mark : {out₁ : List ℕ} {e₁ : ℕ} → Put a out e out₁ e₁ → e₁ + length b ≤ length out₁
      putting_mark p = omega (arith, putting_child, ap length q, length-append a b, p.place, put_length p)

    module _ {out₁ : List ℕ} {e₁ : ℕ} (p : Put (f c) out e out₁ e₁) where
      pub putting_room : e₁ < length out₁
      putting_room = omega (arith, putting_child, p.place, put_length p)

      pub putting_less : {x : ℕ} {out₂ : List ℕ} {e₂ : ℕ} → Put (x ∷ []) out₁ e₁ out₂ e₂ → length out₂ - e₂ < length out - e
      putting_less b = omega (arith, putting_room, p.place, put_length p, b.place, put_length b)

      pub putting_close : {x : ℕ} {out₂ : List ℕ} {e₂ : ℕ} → get_or next c 0 ≡ 0 → Put (x ∷ []) out₁ e₁ out₂ e₂ → x ≡ closing_byte
          → Put (in_pair f cs) out₀ at out₂ e₂
      unfolding listed commas
      putting_close z q i =
          let t : listed f P.rest ≡ f c = ap (listed f) (chain_last P.chain z) ∙ append-nil (f c) in
          rw (P.split, t, ← i) (put_then P.put (put_then p q))

      pub putting_again : {x d : ℕ} {out₂ : List ℕ} {e₂ : ℕ} → (get_or next c 0 ≡ 0 → ⊥) → d ≡ get_or next c 0 → Put (x ∷ []) out₁ e₁ out₂ e₂
          → x ≡ comma_byte → Putting n head next f cs out₀ at d out₂ e₂
      putting_again {d = d} z q b i =
          let t = chain_then P.chain z in
          let es = t.0 in
          let s : in_pair f P.rest ≡ f c ++ (comma_byte ∷ in_pair f es) =
          ap (λ (ds : List ℕ). in_pair f ds) t.1 ∙ ap (λ (l : List ℕ). l ++ (closing_byte ∷ [])) (listed_then f c t.2)
          ∙ append_assoc (f c) (comma_byte ∷ listed f es) (closing_byte ∷ []) in
          let y : P.done ++ (f c ++ (comma_byte ∷ in_pair f es)) ≡ (P.done ++ (f c ++ (comma_byte ∷ []))) ++ in_pair f es = simp append_assoc in
          let k : Chain next (nodes P.chart.row) d es = rw q t.2 in
          record {
            chart = record { row = P.chart.row; valid = P.chart.valid; kids = P.chart.kids; node = chain_low k };
            done = P.done ++ (f c ++ (comma_byte ∷ []));
            rest = es;
            chain = k;
            split = P.split ∙ ap (λ (l : List ℕ). P.done ++ l) s ∙ y;
            put = put_then P.put (put_then p (rw i at b));
            room = omega (
              arith,
              P.room,
              ap length s,
              length-append (f c) (comma_byte ∷ in_pair f es),
              p.place,
              put_length p,
              b.place,
              put_length b,
            );
            same = put_length b ∙ put_length p ∙ P.same;
          }

-- what is left of the room behind the opening bracket
pub open_room : (l : List ℕ) {out₀ out : List ℕ} {at e : ℕ} → at + length (opening_byte ∷ l) ≤ length out₀ → Put (opening_byte ∷ []) out₀ at out e
    → e + length l ≤ length out
open_room l h p = omega (arith, h, p.place, put_length p)
