-- The root is found, and what is put from it on, with the semicolon, is the row's text. Assumes nothing.
use Prim.Native.Nat.{ℕ, ◌+◌, ◌≤◌, ◌<◌}
use mathlib.Core.Path.{◌≡◌, ap, ◌∙◌}
use mathlib.Core.List.{List, [], ◌∷◌, ◌++◌}
use native.Mathlib.Omega.{arith}
use lib.ListN.{length, length-append}
use Rattle.trees.specs.Rows.{nodes, parent, root_mark}
use Rattle.trees.specs.Valid.{Valid}
use Rattle.trees.proofs.RowLaws.{one_root}
use Rattle.put.specs.Writing.{Put}
use Rattle.put.specs.WritingLaws.{put_then, put_length}
use Rattle.newick.specs.RowText.{Wanted, root_of, written}
use Rattle.newick.proofs.ChildLaws.{root_at}
use Rattle.chains.specs.Kids.{Kids}
use Rattle.newick.specs.Bytes.{semicolon_byte}
use Rattle.writer.specs.Nesting.{nest_text, kids_in}
use Rattle.writer.specs.NestingLaws.{kids_children, written_nest}
use Rattle.writer.specs.Putting.{Charted, RootAhead}

module _ {n : ℕ} {r : List ℕ} (ok : Valid n r) where
  pub ahead_start : RootAhead n r n
  ahead_start = record { from = omega arith; to = (root_at n r ok).0 }

  module _ {v : ℕ} (ahead : RootAhead n r v) where
    pub ahead_node : v < nodes r
    ahead_node = omega (arith, ahead.to, (root_at n r ok).1)

    pub ahead_next : (parent r v ≡ root_mark → ⊥) → RootAhead n r (v + 1)
    ahead_next x = record { from = omega (arith, ahead.from); to = omega (arith, ahead.to, past) }
      where
        past : v ≡ root_of n r → ⊥
        past e = x (ap (parent r) e ∙ (root_at n r ok).2)

    pub ahead_end : parent r v ≡ root_mark → v ≡ root_of n r
    ahead_end e = let h = root_at n r ok in one_root n r ok v (root_of n r) ahead.from h.0 ahead_node h.1 e h.2

-- v and m are the root and the number of nodes
module _ {n : ℕ} {r head next : List ℕ} (ok : Valid n r) (kids : Kids n r head next) (w : Wanted)
    {v m : ℕ} (e : v ≡ root_of n r) (f : m ≡ nodes r) where
  pub root_charted : Charted n head next v
  root_charted = record { row = r; valid = ok; kids = kids; node = omega (arith, e, (root_at n r ok).1) }

  -- the text of the root by the tables
  abbrev root_text : List ℕ
  root_text = nest_text (kids_in head next) m n w v

  whole_text : written n r w ≡ root_text ++ (semicolon_byte ∷ [])
  whole_text = rw (e, f) (written_nest n r ok w (kids_in head next) (kids_children n r head next ok kids))

  module _ (out : List ℕ) (h : length (written n r w) ≤ length out) where
    whole_long : length root_text + 1 ≤ length out
    whole_long = omega (arith, ap length whole_text, length-append root_text (semicolon_byte ∷ []))

    pub root_room : length root_text < length out
    root_room = omega (arith, whole_long)

    -- put at the front
    module _ {at : ℕ} {out₁ : List ℕ} {end : ℕ} (p : Put root_text out at out₁ end) (front : at ≡ 0) where
      pub last_room : end < length out₁
      last_room = omega (arith, whole_long, p.place, put_length p)

      pub whole_put : {out₂ : List ℕ} {end₂ : ℕ} → Put (semicolon_byte ∷ []) out₁ end out₂ end₂ → Put (written n r w) out 0 out₂ end₂
      whole_put q = rw (whole_text, ← front) (put_then p q)
