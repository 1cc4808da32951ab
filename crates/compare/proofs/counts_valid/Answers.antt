-- `compare::counts_valid` lends two tables, each with room for a row. Assumes nothing.
use Prim.Native.Nat.{ℕ}
use mathlib.Core.Path.{◌≡◌, sym}
use lib.ListN.{length, take, length-replicate}
use Rattle.trees.specs.Lists.{zeros}
use Rattle.trees.specs.Checks.{row_words}
use Rattle.trees.specs.Tables.{table_words}
use Rattle.compare.proofs.CountLaws.{row_room, accepted_most}
use Rattle.compare.proofs.counts_valid.Goals.{Start}
use Rattle.compare.proofs.counts_valid.Goals as goal

room : (st : Start) → length (take (row_words st.args.first.n) (zeros table_words)) ≡ row_words st.args.first.n
room st = row_room _ (zeros table_words) (length-replicate {A = ℕ} table_words 0) (accepted_most _ _ st.args.first.valid)

pub slice_bounds-counts_by-end : goal.slice_bounds-counts_by-end
slice_bounds-counts_by-end c = sym (room (goal.at.slice_bounds-counts_by-end c).Start)

pub slice_bounds-counts_by-end-2 : goal.slice_bounds-counts_by-end-2
slice_bounds-counts_by-end-2 c = sym (room (goal.at.slice_bounds-counts_by-end-2 c).Start)

pub counts_by-requires : goal.counts_by-requires
counts_by-requires c =
    (c.requires, room (goal.at.counts_by-requires c).Start, room (goal.at.counts_by-requires c).Start)
