-- What a rule shows is a tree, where what it shows agrees pairwise; the support row word by word. Assumes nothing.
use Rattle.std.specs.Prelude.{ℕ, zero, suc, ◌+◌, ◌-◌, ◌≤◌, ◌<◌, ◌≡◌, refl, true, ◌&&◌, length, get_or}
use Rattle.std.proofs.Common.{sym, ◌∙◌, ⊎_elim, zero-add, arith, length-append, get_or-append-add}
use Rattle.std.proofs.Math.Path.{ap}
use mathlib.Core.List.{List, [], ◌∷◌, ◌++◌, Memᴰ}
use Rattle.std.proofs.Math.ListN.{get_or-append}
use Rattle.trees.specs.Lists.{tabulate, zeros}
use Rattle.trees.specs.Groups.{Group, whole, single, member}
use Rattle.trees.specs.Rows.{nodes, group_at, groups, inner, holds}
use Rattle.trees.specs.Checks.{fewest_samples, most_samples, row_words}
use Rattle.trees.specs.Valid.{Valid, In, Strict, Standard}
use Rattle.trees.specs.Numbering.{ordered, branching}
use Rattle.trees.specs.Reporting.{Run, worth, support, total, Rule, held, shown, agreed, supports_of}
use Rattle.trees.proofs.BoolLaws.{and_r, and_both, or_cases, or_l, or_r}
use Rattle.trees.proofs.ListLaws.{some_member, length_tabulate, get_d_tabulate, map_tabulate, length_zeros, get_or_zeros}
use Rattle.trees.proofs.ListLaws.{weigh_mono, count_all}
use Rattle.trees.specs.Groups.{Agree}
use Rattle.trees.proofs.MemberLaws.{in_none, member_ordered, member_append, member_filter, strict_ordered, strict_filter}
use Rattle.trees.proofs.PlantingLaws.{planted}
use Rattle.trees.proofs.NumberingLaws.{Tree, row_tree, tree_family, tree_standard, tree_groups}

-- each run has a valid row
abbrev pub Runs : ℕ → List Run → Type 0
Runs n rs = (run : Run) → Memᴰ run rs → Valid n run.row

-- some run holds g
abbrev pub Holder : ℕ → Group → List Run → Type 0
Holder n g rs = (run : Run) × Memᴰ run rs × (holds n g run.row ≡ true)

-- ---- what the runs hold

pub in_held : (n : ℕ) (rs : List Run) (g : Group) → Holder n g rs → In g (held n rs)
unfolding held
in_held n [] g (run, i, m) = elim i [ ]
in_held n (r ∷ rs) g (run, Memᴰ.head e, m) = member_append g (groups n r.row) (held n rs)
    ∙ or_l _ (member g (held n rs)) (ap (λ (q : Run). holds n g q.row) (sym e) ∙ m)
in_held n (r ∷ rs) g (run, Memᴰ.tail d, m) = member_append g (groups n r.row) (held n rs)
    ∙ or_r (member g (groups n r.row)) _ (in_held n rs g (run, d, m))

pub held_in : (n : ℕ) (rs : List Run) (g : Group) → In g (held n rs) → Holder n g rs
unfolding held
held_in n [] g m = absurd (in_none g m)
held_in n (r ∷ rs) g m = ⊎_elim (λ e. (r, Memᴰ.head refl, e)) (λ e. let t = held_in n rs g e in (t.0, Memᴰ.tail t.1, t.2))
    (or_cases (holds n g r.row) (member g (held n rs)) (sym (member_append g (groups n r.row) (held n rs)) ∙ m))

-- ---- how many runs

pub total_length : (rs : List Run) → total rs ≡ length rs
unfolding total
total_length rs = count_all (λ run. true) rs (λ run m. refl)

-- no group is held by more runs than there are
pub support_most : (n : ℕ) (rs : List Run) (g : Group) → support n rs g ≤ total rs
unfolding support total
support_most n rs g = weigh_mono worth (λ run. holds n g run.row) (λ run. true) rs (λ run m e. refl)

-- what every run holds has as many holders as there are runs
pub support_all : (n : ℕ) (rs : List Run) (g : Group) → ((run : Run) → Memᴰ run rs → holds n g run.row ≡ true) → support n rs g ≡ length rs
unfolding support
support_all n rs g f = count_all (λ run. holds n g run.row) rs f

-- ---- any rule

-- what the laws ask of a rule: what it shows agrees pairwise, and a group that every run holds passes
pub record Sound (rule : Rule) (n : ℕ) (rs : List Run) : Type 0 where
  pub agree : (g h : Group) → In g (shown rule n rs) → In h (shown rule n rs) → Agree g h
  pub unanimous : (g : Group) → ((run : Run) → Memᴰ run rs → holds n g run.row ≡ true) → rule n rs g ≡ true

-- a group is shown exactly if it passes and some run holds it
pub shown_member : (rule : Rule) (n : ℕ) (rs : List Run) (g : Group) → member g (shown rule n rs) ≡ (rule n rs g && member g (held n rs))
unfolding shown
shown_member rule n rs g = rw (member_filter, member_ordered)

pub shown_strict : (rule : Rule) (n : ℕ) (rs : List Run) → Strict (shown rule n rs)
unfolding shown
shown_strict rule n rs = strict_filter (rule n rs) (ordered (held n rs)) (strict_ordered (held n rs))

-- a run says that n is in range
module _ (n : ℕ) (rs : List Run) (ok : Runs n rs) (some : 0 < length rs) where
  pub runs_least : fewest_samples ≤ n
  runs_least = let t = some_member rs some in (ok t.0 t.1).least

  pub runs_most : n ≤ most_samples
  runs_most = let t = some_member rs some in (ok t.0 t.1).most

module _ (rule : Rule) (n : ℕ) (rs : List Run) (ok : Runs n rs) (some : 0 < length rs) (sound : Sound rule n rs) where
  holder : (g : Group) → In g (shown rule n rs) → Holder n g rs
  holder g m = held_in n rs g (and_r (rule n rs g) (member g (held n rs)) (sym (shown_member rule n rs g) ∙ m))

  by_all : (g : Group) → ((run : Run) → Memᴰ run rs → holds n g run.row ≡ true) → In g (shown rule n rs)
  by_all g f = let t = some_member rs some in shown_member rule n rs g
      ∙ and_both (rule n rs g) (member g (held n rs)) (sound.unanimous g f) (in_held n rs g (t.0, t.1, f t.0 t.1))

  shown_tree : Tree n (shown rule n rs)
  shown_tree = record {
    long = λ g m. let t = holder g m in (row_tree n t.0.row (ok t.0 t.1)).long g t.2;
    full = λ g m. let t = holder g m in (row_tree n t.0.row (ok t.0 t.1)).full g t.2;
    agree = sound.agree;
    leaf = λ s h. by_all (single n s) (λ run m. (row_tree n run.row (ok run m)).leaf s h);
    top = by_all (whole n) (λ run m. (row_tree n run.row (ok run m)).top);
  }

  least : fewest_samples ≤ n
  least = runs_least n rs ok some

  most : n ≤ most_samples
  most = runs_most n rs ok some

  pub agreed_standard : Standard n (agreed rule n rs)
  unfolding agreed
  agreed_standard = tree_standard n (shown rule n rs) shown_tree (shown_strict rule n rs) least most

  pub agreed_inner : inner n (agreed rule n rs) ≡ branching (shown rule n rs)
  unfolding agreed
  agreed_inner = planted n (branching (shown rule n rs)) (tree_family n (shown rule n rs) shown_tree (shown_strict rule n rs) least most) most

  -- the agreed row holds exactly the groups that are shown
  pub agreed_groups : (g : Group) → member g (groups n (agreed rule n rs)) ≡ member g (shown rule n rs)
  unfolding agreed
  agreed_groups g = tree_groups n (shown rule n rs) shown_tree (shown_strict rule n rs) least most g

-- ---- the support row beside a row, word by word

module _ (n : ℕ) (rs : List Run) (r : List ℕ) where
  abbrev m : ℕ
  m = nodes r

  abbrev at_node : ℕ → ℕ
  at_node v = support n rs (group_at n r v)

  words : supports_of n rs r ≡ total rs ∷ (tabulate m at_node 0 ++ zeros (row_words n - 1 - m))
  unfolding supports_of groups
  words = ap (λ (ws : List ℕ). total rs ∷ (ws ++ zeros (row_words n - 1 - m))) (map_tabulate (support n rs) m (group_at n r) 0)

  pub supports_length : nodes r < row_words n → length (supports_of n rs r) ≡ row_words n
  supports_length h = ap length words ∙ simp (length-append, length_tabulate, length_zeros) (omega arith)

  -- its first word is k (RULES 5.5)
  pub supports_first : get_or (supports_of n rs r) 0 0 ≡ total rs
  supports_first = ap (λ (ws : List ℕ). get_or ws 0 0) words

  -- the word of node v is how many runs hold its group (RULES 5.5)
  pub supports_node : (v : ℕ) → v < nodes r → get_or (supports_of n rs r) (suc v) 0 ≡ support n rs (group_at n r v)
  supports_node v h = ap (λ (ws : List ℕ). get_or ws (suc v) 0) words
      ∙ get_or-append (tabulate m at_node 0) (zeros (row_words n - 1 - m)) 0 v (rw length_tabulate h) ∙ get_d_tabulate m at_node 0 v 0 h
      ∙ ap at_node (zero-add v)

  -- the words after the last node's are 0 (RULES 5.5)
  pub supports_filler : (w : ℕ) → nodes r < w → get_or (supports_of n rs r) w 0 ≡ 0
  supports_filler zero h = absurd (omega arith)
  supports_filler (suc w) h =
      let e : w ≡ length (tabulate m at_node 0) + (w - m) = (rw length_tabulate (omega arith)) in
      ap (λ (ws : List ℕ). get_or ws (suc w) 0) words ∙ ap (λ (i : ℕ). get_or (tabulate m at_node 0 ++ zeros (row_words n - 1 - m)) i 0) e
      ∙ get_or-append-add (tabulate m at_node 0) (zeros (row_words n - 1 - m)) (w - m) 0 ∙ get_or_zeros (row_words n - 1 - m) (w - m)
