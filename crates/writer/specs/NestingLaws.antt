-- The text of a valid row is the nesting of its root's children, by the row and by the tables. Assumes nothing.
use Prim.Native.Nat.{ℕ, zero, suc, ◌-◌, ◌≤◌, ◌<◌}
use Rattle.std.specs.Prelude.{◌≡◌, ◌⊎◌, true, false, ◌||◌, eqb, ltb, length, get_or}
use Rattle.std.proofs.Math.Path.{refl, ap}
use Rattle.std.proofs.Common.{sym, ◌∙◌, inl, inr, arith}
use Rattle.std.proofs.Math.Logic.{⊎_elim}
use mathlib.Core.List.{List, [], ◌∷◌, ◌++◌, Memᴰ, append_assoc, append-nil}
use Rattle.std.proofs.Math.Bool.{cond}
use borrow.Author.Tests.{ltb-true, ltb-false, eqb-true, eqb-false, eq-eqb, ne_eqb, lt-ltb, le-ltb}
use Rattle.trees.specs.Lists.{range}
use Rattle.trees.specs.Rows.{nodes, parent, root_mark, child_of}
use Rattle.trees.specs.Valid.{Valid}
use Rattle.trees.specs.Tables.{table_words}
use Rattle.trees.proofs.BoolLaws.{or_cases, or_none, decide}
use Rattle.trees.proofs.ListLaws.{length_range, count_le_length}
use Rattle.trees.proofs.RowLaws.{no_mark, valid_rooted}
use Rattle.ascii.specs.Decimal.{decimal}
use Rattle.newick.specs.RowText.{Wanted, children_of, commas, listed, mark_text, node_text, root_of, written}
use Rattle.newick.proofs.ChildLaws.{pairs_at, pairs_fall, pairs_some, pairs_few, root_at}
use Rattle.newick.proofs.ChildrenLaws.{in_child, length_child}
use Rattle.chains.specs.Kids.{Chain, Kids}
use Rattle.chains.specs.Kids.Chain.{last, then}
use Rattle.newick.specs.Bytes.{opening_byte, closing_byte, semicolon_byte}
use Rattle.writer.specs.Nesting.{behind, child_text, in_pair, nest_text, siblings, kids_in}

-- ---- the children by the tables

chain_siblings : {next : List ℕ} {m c : ℕ} {ds : List ℕ} (f : ℕ) → Chain next m c ds → length ds ≤ f → siblings f next c ≡ ds
unfolding siblings
chain_siblings zero (last c h e) l = absurd (omega arith)
chain_siblings {next} (suc f) (last c h e) l = rw (eq-eqb (get_or next c 0) 0 e)
chain_siblings zero (then c ds h e k) l = absurd (omega arith)
chain_siblings {next} (suc f) (then c ds h e k) l = rw (ne_eqb (get_or next c 0) 0 e)
    (ap (λ (xs : List ℕ). c ∷ xs) (chain_siblings f k (omega arith)))

pub kids_children : (n : ℕ) (r head next : List ℕ) → Valid n r → Kids n r head next → (v : ℕ) → n ≤ v → v < nodes r
    → kids_in head next v ≡ children_of n r v
kids_children n r head next ok kids v a h = chain_siblings table_words (kids.chain v a h)
    (omega (arith, length_child n r ok v, count_le_length (child_of r v) (range 0 (nodes r)), length_range 0 (nodes r), ok.high, ok.most))

-- ---- one node

-- its number, where it is a sample or no nesting is left
pub nest_number : (kids : ℕ → List ℕ) (f n : ℕ) (w : Wanted) (v : ℕ) → eqb f 0 || ltb v n ≡ true → nest_text kids f n w v ≡ decimal v
unfolding nest_text
nest_number kids zero n w v e = refl
nest_number kids (suc f) n w v e = ⊎_elim (λ q. absurd (omega (arith, eqb-true (suc f) 0 q))) (λ q. rw q)
    (or_cases (eqb (suc f) 0) (ltb v n) e)

-- a pair of brackets around its children
pub nest_pair : (kids : ℕ → List ℕ) (f n : ℕ) (w : Wanted) (v : ℕ) → eqb f 0 || ltb v n ≡ false
    → nest_text kids f n w v ≡ opening_byte ∷ in_pair (child_text (nest_text kids (f - 1) n w) n w) (kids v)
unfolding nest_text
nest_pair kids zero n w v e = absurd (omega (arith, eqb-false 0 0 (or_none (eqb 0 0) (ltb v n) e).0))
nest_pair kids (suc f) n w v e = let z : suc f - 1 ≡ f = omega arith in rw ((or_none (eqb (suc f) 0) (ltb v n) e).1, z)

-- ---- texts that are alike

module _ (f g : ℕ → List ℕ) where
  commas_same : (cs : List ℕ) → ((c : ℕ) → Memᴰ c cs → f c ≡ g c) → commas f cs ≡ commas g cs
  unfolding commas
  commas_same [] h = refl
  commas_same (c ∷ cs) h = rw (h c (Memᴰ.head refl), commas_same cs (λ x m. h x (Memᴰ.tail m)))

  listed_same : (cs : List ℕ) → ((c : ℕ) → Memᴰ c cs → f c ≡ g c) → listed f cs ≡ listed g cs
  unfolding listed
  listed_same [] h = refl
  listed_same (c ∷ cs) h = rw (h c (Memᴰ.head refl), commas_same cs (λ x m. h x (Memᴰ.tail m)))

-- ---- a valid row

module _ (n : ℕ) (r : List ℕ) (ok : Valid n r) (w : Wanted) (kids : ℕ → List ℕ)
    (same : (v : ℕ) → n ≤ v → v < nodes r → kids v ≡ children_of n r v) where
  -- a child is no root: its mark is its word
  child_mark : (c v : ℕ) → v < nodes r → parent r c ≡ v → cond (ltb c n) [] (mark_text r w c) ≡ behind n w c
  child_mark c v h e = rw (e, no_mark n r (valid_rooted n r ok) v h)

  -- THE TEXT OF A NODE is its nesting and its mark
  pub text_nest : (f v : ℕ) → v < nodes r → pairs_at n r ok v ≤ f
      → node_text f n r w v ≡ nest_text kids f n w v ++ cond (ltb v n) [] (mark_text r w v)
  unfolding node_text nest_text
  text_nest zero v h a =
      let k : v < n = ⊎_elim (ltb-true v n) (λ e. absurd (omega (arith, pairs_some n r ok v (ltb-false v n e) h))) (decide (ltb v n)) in
      rw (lt-ltb v n k, append-nil (decimal v))
  text_nest (suc f) v h a = go (decide (ltb v n)) (λ c k l. text_nest f c k l)
    where
      nests : ℕ → List ℕ
      nests = child_text (nest_text kids f n w) n w

      go : (ltb v n ≡ true) ⊎ (ltb v n ≡ false)
          → ((c : ℕ) → c < nodes r → pairs_at n r ok c ≤ f
          → node_text f n r w c ≡ nest_text kids f n w c ++ cond (ltb c n) [] (mark_text r w c))
          → cond (ltb v n) (decimal v) (opening_byte ∷ (listed (node_text f n r w) (children_of n r v) ++ (closing_byte ∷ mark_text r w v)))
          ≡ cond (ltb v n) (decimal v) (opening_byte ∷ in_pair nests (kids v)) ++ cond (ltb v n) [] (mark_text r w v)
      go (inl e) g = rw (e, append-nil (decimal v))
      go (inr e) g =
          let b = ltb-false v n e in
          let alike : listed (node_text f n r w) (children_of n r v) ≡ listed nests (children_of n r v) =
          listed_same (node_text f n r w) nests (children_of n r v) (λ c m. let k = in_child n r ok v c m in
          g c k.0 (omega (arith, pairs_fall n r ok c v k.0 b h k.1))
          ∙ ap (λ (l : List ℕ). nest_text kids f n w c ++ l) (child_mark c v h k.1)) in
          rw (e, same v b h) (ap (λ (l : List ℕ). opening_byte ∷ l) (ap (λ (l : List ℕ). l ++ (closing_byte ∷ mark_text r w v)) alike
          ∙ sym (append_assoc (listed nests (children_of n r v)) (closing_byte ∷ []) (mark_text r w v))))

  -- the text of a row
  pub written_nest : written n r w ≡ nest_text kids (nodes r) n w (root_of n r) ++ (semicolon_byte ∷ [])
  unfolding written
  written_nest =
      let v = root_of n r in
      let h = root_at n r ok in
      let bare : nest_text kids (nodes r) n w v ++ cond (ltb v n) [] (mark_text r w v) ≡ nest_text kids (nodes r) n w v =
      rw (le-ltb v n h.0, eq-eqb (parent r v) root_mark h.2) (append-nil (nest_text kids (nodes r) n w v)) in
      ap (λ (l : List ℕ). l ++ (semicolon_byte ∷ [])) (text_nest (nodes r) v h.1 (omega (arith, pairs_few n r ok v)) ∙ bare)
