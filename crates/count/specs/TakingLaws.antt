-- Taking runs in one by one: it starts with the bare row, and what passes of a run can be merged into what is accepted. Assumes nothing.
use Rattle.std.specs.Prelude.{ℕ, zero, suc, ◌+◌, ◌≤◌, ◌<◌, ◌≡◌, Bool, true, false, cond, length, get_or}
use Rattle.std.proofs.Common.{ap, subst, ◌∙◌, arith, ext_get_or}
use mathlib.Core.List.{List, [], ◌∷◌, Memᴰ}
use Rattle.std.proofs.lemmas.List.{get_or-replicate}
use Rattle.trees.specs.Groups.{Group, whole}
use Rattle.trees.specs.Rows.{nodes, parent, root_mark}
use Rattle.trees.specs.Checks.{most_samples, row_words}
use Rattle.trees.specs.Valid.{In, Standard}
use Rattle.trees.specs.Numbering.{last_with, row_of}
use Rattle.trees.specs.Tables.{Tabled, table_words}
use Rattle.trees.specs.Reporting.{Run, Rule}
use Rattle.trees.specs.Counting.{so_far}
use Rattle.trees.specs.Merging.{merged, Mergeable}
use Rattle.trees.proofs.GroupLaws.{has_whole}
use Rattle.trees.proofs.RowOfLaws.{nodes_row, parent_leaf, parent_inner, length_row, filler_row}
use Rattle.trees.proofs.PlantingLaws.{planted_standard}
use Rattle.trees.proofs.BoolLaws.{or_l}
use Rattle.trees.proofs.MergingLaws.{merged_first, merged_second}
use Rattle.trees.proofs.ReportingLaws.{Sound}
use Rattle.trees.proofs.CountingLaws.{so_far_family, so_far_step, AllKept, Passing}
use Rattle.count.specs.Plain.{bare_row, all}

-- a buffer whose words are those of ws is ws
pub tabled_words : (ws out : List ℕ) → length out ≡ length ws → Tabled (λ w. get_or ws w 0) 0 (length ws) out → out ≡ ws
tabled_words ws out l i = ext_get_or 0 out ws l (λ w h. i.is w (omega arith) (omega arith))

-- ---- the bare row

pub bare_length : (n : ℕ) → 2 ≤ n → length (bare_row n) ≡ row_words n
bare_length n h = length_row n (whole n ∷ []) ∙ omega arith

pub bare_nodes : (n : ℕ) → get_or (bare_row n) 0 0 ≡ n + 1
unfolding nodes
bare_nodes n = nodes_row n (whole n ∷ [])

pub bare_leaf : (n w : ℕ) → 0 < w → w ≤ n → get_or (bare_row n) w 0 ≡ n
unfolding parent last_with
bare_leaf n zero h l = elim h [ ]
bare_leaf n (suc s) h l = parent_leaf n (whole n ∷ []) s l ∙ ap (λ (b : Bool). cond b n root_mark) (has_whole n s l)

pub bare_root : (n : ℕ) → get_or (bare_row n) (n + 1) 0 ≡ root_mark
unfolding parent last_with
bare_root n = let e : n + 1 ≡ suc (n + 0) = omega arith in
    ap (λ (w : ℕ). get_or (bare_row n) w 0) e ∙ parent_inner n (whole n ∷ []) 0 (omega arith)

pub bare_filler : (n w : ℕ) → n + 1 < w → get_or (bare_row n) w 0 ≡ 0
bare_filler n w h = filler_row n (whole n ∷ []) w h

-- ---- one run more

module _ (rule : Rule) (n : ℕ) (rs : List Run) (ok : (run : Run) → Memᴰ run rs → Standard n run.row) (some : 0 < length rs)
    (sound : Sound rule n rs) (most : n ≤ most_samples) where
  pub so_far_standard : (i : ℕ) → Standard n (row_of n (so_far rule n rs i))
  so_far_standard i = planted_standard n (so_far rule n rs i) (so_far_family rule n rs ok some sound i) most

  module _ (i : ℕ) (d : Run) (keep : List Bool) (h : i < length rs) (row : Standard n (get_or rs i d).row)
      (pass : Passing rule n rs ok some sound (get_or rs i d).row keep) where
    every : AllKept rule n rs ok some sound (row_of n (so_far rule n rs i)) all
    every v a b = get_or-replicate table_words v true false (omega (arith, (so_far_standard i).valid.high, (so_far_standard i).valid.most))

    -- what is accepted then
    pub taken : merged n (row_of n (so_far rule n rs i)) all (get_or rs i d).row keep ≡ so_far rule n rs (suc i)
    taken = so_far_step rule n rs ok some sound i d all keep h every pass

    -- what is kept of either row is accepted then, and so agrees
    accepts : (g : Group) → In g (merged n (row_of n (so_far rule n rs i)) all (get_or rs i d).row keep) → In g (so_far rule n rs (suc i))
    accepts g m = subst (In g) taken m

    pub takeable : Mergeable n (row_of n (so_far rule n rs i)) all (get_or rs i d).row keep
    takeable = record {
      first = so_far_standard i;
      second = row;
      agree = λ g x m k. (so_far_family rule n rs ok some sound (suc i)).agree g x
          (accepts g (merged_first n (row_of n (so_far rule n rs i)) all (get_or rs i d).row keep g m))
          (accepts x (merged_second n (row_of n (so_far rule n rs i)) all (get_or rs i d).row keep x k));
      top = or_l _ _ (every n (omega arith) (so_far_standard i).valid.low);
    }
