-- Marks grow by one node at a time, each that of its parent; a sample is in the group exactly if its parent is marked. Assumes nothing.
use Rattle.std.specs.Prelude.{ℕ, ◌+◌, ◌≤◌, ◌<◌, ◌≡◌, ◌⊎◌, List, Bool, true, false, eqb, length, get_or, set, replicate}
use Rattle.std.proofs.Common.{sym, ◌∙◌, inl, inr, arith, get_or-set_same, get_or-set_other, eqb-true}
use Rattle.std.proofs.lemmas.List.{length-replicate, get_or-replicate}
use Rattle.std.proofs.lemmas.Bool.{eqb-false}
use Rattle.trees.specs.Groups.{has}
use Rattle.trees.specs.Rows.{nodes, parent, meets, group_at}
use Rattle.trees.specs.Valid.{Standard}
use Rattle.trees.proofs.BoolLaws.{decide}
use Rattle.trees.proofs.WayLaws.{meets_refl}
use Rattle.trees.proofs.BelowLaws.{above_low, above_later, has_sample}
use Rattle.text.specs.Marks.{Marked, parent_marked}

module _ (n : ℕ) (row : List ℕ) (std : Standard n row) (v : ℕ) (a : n ≤ v) where
  -- one mark more
  marked_set : (u : ℕ) (marks : List Bool) (x : Bool) → u < length marks → Marked n row v u marks → x ≡ meets (nodes row) row v u
      → Marked n row v (u + 1) (set marks u x)
  marked_set u marks x h m e = record { right = λ w b l. go w b l (decide (eqb w u)) }
    where
      go : (w : ℕ) → n ≤ w → w < u + 1 → (eqb w u ≡ true) ⊎ (eqb w u ≡ false) → get_or (set marks u x) w false ≡ meets (nodes row) row v w
      go w b l (inl q) = let k : w ≡ u = eqb-true w u q in rw k (get_or-set_same marks u x false h ∙ e)
      go w b l (inr q) = get_or-set_other marks u w x false (eqb-false w u q) ∙ m.right w b (omega (arith, eqb-false w u q))

  pub marked_start : (count : ℕ) (marks : List Bool) → marks ≡ replicate count false → v < nodes row → v < count → Marked n row v (v + 1) (set marks v true)
  marked_start count marks e h k = marked_set v marks true (rw (e, length-replicate) k)
      record { right = λ w b l. (rw e (get_or-replicate count w false false (omega arith))) ∙ sym (above_low n row std v w b l (omega arith)) }
      (sym (meets_refl row (nodes row) v))

  pub marked_next : (u : ℕ) (marks : List Bool) → v < u → u < nodes row → u < length marks → Marked n row v u marks
      → Marked n row v (u + 1) (set marks u (parent_marked marks row u))
  marked_next u marks h k l m =
      let t = above_later n row std v u a h k in
      marked_set u marks (parent_marked marks row u) l m (m.right (parent row u) t.0 t.1 ∙ sym t.2)

  pub marked_sample : (marks : List Bool) → Marked n row v (nodes row) marks → (s : ℕ) → s < n → parent_marked marks row s ≡ has (group_at n row v) s
  marked_sample marks m s h = let p = std.valid.leaf s h in m.right (parent row s) p.0 p.1 ∙ sym (has_sample n row std v s a h)
