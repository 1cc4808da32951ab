-- Sizes and smallest samples, gathered by climbing from each sample, from the last to the first.
use Rattle.std.specs.Prelude.{ℕ, ◌+◌, ◌-◌, ◌≡◌, List, Bool, ◌&&◌, not, eqb, length}
use Rattle.trees.specs.Lists.{tabulate}
use Rattle.trees.specs.Groups.{Group, size, lowest}
use Rattle.trees.specs.Rows.{nodes, root_mark, meets}
use Rattle.trees.specs.Tables.{Tabled, table_words}

-- whether v is met from x on, where x may be the mark
abbrev pub on_way : List ℕ → ℕ → ℕ → Bool
on_way r v x = not (eqb x root_mark) && meets (nodes r) r v x

-- of the samples from s on, those at or below v
unfoldable pub group_from : ℕ → List ℕ → ℕ → ℕ → Group
group_from n r s v = tabulate (n - s) (meets (nodes r) r v) s

-- for each node how many of the samples from s on are at or below it, and the smallest of them, or n
pub record TablesFrom (n : ℕ) (r : List ℕ) (s : ℕ) (sizes lows : List ℕ) : Type 0 where
  pub sizes_words : length sizes ≡ table_words
  pub lows_words : length lows ≡ table_words
  pub sized : Tabled (λ v. size (group_from n r s v)) 0 (nodes r) sizes
  pub lowest-at : Tabled (λ v. s + lowest (group_from n r s v)) 0 (nodes r) lows
