-- `study::form::well_formed` meets its contract: header, sizes, slots and zeros are the whole test. Assumes nothing.
use mathlib.Core.Path.{◌≡◌, sym, ◌∙◌}
use mathlib.Core.Bool.{◌&&◌}
use lib.Dec.{eqb}
use Prim.Native.Nat.{◌-◌}
use lib.ListN.{length, take, drop, length-drop}
use lib.Seq.{take_all}
use native.Mathlib.Omega.{arith}
use Rattle.std.specs.List.{list_all, starts_with}
use Rattle.trees.specs.Lists.{tabulate}
use Rattle.runs.specs.Words.{slot_start, run_at}
use Rattle.runs.specs.Formed.{well_formed}
use Rattle.study.specs.Scans.{sizes_fit, stored_from}
use Rattle.study.proofs.FormLaws.{Fitting, sizes_fitting, short_unformed, formed_parts}
use Rattle.study.proofs.form.well_formed.Goals.{After-words, Else-not-sizes_fit}
use Rattle.study.proofs.form.well_formed.Goals as goal

-- the whole test, in the parts that the code looks at
abbrev Parts : After-words → Type 0
Parts c =
    let w = c.args.words.now in
    let n = c.from-n.result in
    let k = c.from-k.result in
    well_formed w ≡ starts_with eqb w c.words.result && sizes_fit (length w) n k && stored_from n 0
    (tabulate k (run_at n w) 0) && list_all (λ x. eqb x 0) (drop (slot_start n k) w)

parts : (c : After-words) → Parts c
parts c =
    formed_parts c.args.words.now c.words.result c.from-n.result c.from-k.result (c.from-n.ensures ∙ c.read-head.ensures.0)
    (c.from-k.ensures ∙ c.read-head.ensures.1) (rw (c.from-n.ensures, c.from-k.ensures) c.words.ensures)

-- past the check of the sizes
fitting : (c : Else-not-sizes_fit) → Fitting (length c.args.words.now) c.from-n.result c.from-k.result
fitting c =
    sizes_fitting _ _ _ (sym c.sizes_fit.ensures ∙ c.if-not-sizes_fit.false)

pub returns-then-words-lt-WORDS : goal.returns-then-words-lt-WORDS
returns-then-words-lt-WORDS c = sym (short_unformed _ c.if-words-lt-WORDS.true)

pub returns-then-not-starts_with : goal.returns-then-not-starts_with
returns-then-not-starts_with c =
    sym (parts (goal.at.returns-then-not-starts_with c).After-words ∙ rw (sym c.starts_with.ensures.value ∙ c.if-not-starts_with.true))

pub returns-then-not-sizes_fit : goal.returns-then-not-sizes_fit
returns-then-not-sizes_fit c =
    sym (parts (goal.at.returns-then-not-sizes_fit c).After-words ∙ rw (sym c.starts_with.ensures.value ∙ c.if-not-starts_with.false, sym c.sizes_fit.ensures ∙ c.if-not-sizes_fit.true))

pub slots_stored-requires : goal.slots_stored-requires
slots_stored-requires c = let f = fitting c in (f.least, f.most, f.room)

pub returns-then-not-slots_stored : goal.returns-then-not-slots_stored
returns-then-not-slots_stored c =
    sym (parts (goal.at.returns-then-not-slots_stored c).After-words ∙ rw (
      sym c.starts_with.ensures.value ∙ c.if-not-starts_with.false,
      sym c.sizes_fit.ensures ∙ c.if-not-sizes_fit.false,
      sym
          c.slots_stored.ensures ∙ c.if-not-slots_stored.true,
    ))

pub slot_start-requires : goal.slot_start-requires
slot_start-requires c =
    let f = fitting (goal.at.slot_start-requires c).Else-not-sizes_fit in
    (f.most, f.few)

pub slice_bounds-all_zero-count : goal.slice_bounds-all_zero-count
slice_bounds-all_zero-count c =
    let f = fitting (goal.at.slice_bounds-all_zero-count c).Else-not-sizes_fit in
    rw c.slot_start.ensures f.room

pub slice_bounds-all_zero-start : goal.slice_bounds-all_zero-start
slice_bounds-all_zero-start c =
    let f = fitting (goal.at.slice_bounds-all_zero-start c).Else-not-sizes_fit in
    rw c.slot_start.ensures f.room

pub returns : goal.returns
returns c =
    let w = c.args.words.now in
    let s = c.slot_start.result in
    let d : take (length w - s) (drop s w) ≡ drop s w = take_all (length w - s) (drop s w) (simp length-drop (omega arith)) in
    sym (parts (goal.at.returns c).After-words ∙ rw (
      sym c.starts_with.ensures.value ∙ c.if-not-starts_with.false,
      sym c.sizes_fit.ensures ∙ c.if-not-sizes_fit.false,
      sym
          c.slots_stored.ensures ∙ c.if-not-slots_stored.false,
      ← c.slot_start.ensures,
    ) (sym (rw d at c.all_zero.ensures)))
