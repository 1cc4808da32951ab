-- Each specimen of the table holds of the calls' own definitions (RULES 10). Assumes nothing.
use Rattle.std.specs.Prelude.{ℕ, ◌≤◌, ◌<◌, ◌≡◌, refl, Bool, true, false, ◌&&◌, cond, leb, length, drop}
use Rattle.std.proofs.Common.{sym, ap, ◌∙◌, arith, leb-true, eq-eqb}
use mathlib.Core.List.{List, [], ◌∷◌, ◌++◌, Memᴰ}
use Rattle.trees.specs.Lists.{tabulate, filter, first, weigh}
use Rattle.trees.specs.Groups.{size, lowest, same, list_first, before, member}
use Rattle.trees.specs.Rows.{nodes, parent, meets, ends, group_at, groups, inner}
use Rattle.trees.specs.Lists.{nowhere}
use Rattle.trees.specs.Checks.{Verdict, accepted, refused, wrote, ◌⊳◌, row_words, outside, check1, row_checks, judge_checks, judged}
use Rattle.trees.specs.Valid.{is_accepted, in_order, standard}
use Rattle.trees.specs.Numbering.{enter, ordered, group_set, last_with, parents, row_of, renumbered}
use Rattle.trees.specs.Comparing.{nontrivial, compared}
use Rattle.trees.specs.Outcomes.{Outcome}
use Rattle.trees.specs.RowCalls.{renumbering, compare_checks, comparing}
use Rattle.trees.specs.Reporting.{Run, support, total, held, shown, agreed, supports_of, supports}
use Rattle.trees.specs.Thresholds.{InRange, threshold}
use Rattle.trees.specs.Majority.{is_shown}
use Rattle.trees.proofs.BoolLaws.{and_l, and_r}
use Rattle.trees.proofs.ValidLaws.{accepted_to, judged_valid, only_two, nodes_refused}
use Rattle.trees.proofs.RowCallLaws.{renumbering_accepts}
use Rattle.runs.specs.Runs.{every, rising, find, insert_run}
use Rattle.runs.specs.Words.{samples, in_force, runs, slots, encode, capacity, most_identifier}
use Rattle.runs.specs.Formed.{same_words, well_formed}
use Rattle.runs.specs.Calls.{opened}
use Rattle.runs.specs.Histories.{Distinct, identified, adds, study_after}
use Rattle.runs.specs.Reports.{Report, rule_of, reported}
use Rattle.runs.proofs.CallLaws.{Opens, opened_accepts}
use Rattle.runs.proofs.HistoryLaws.{study_kept}
use Rattle.runs.proofs.FreshLaws.{Fit, gathered, filled_takes, filled_words}
use Rattle.runs.proofs.ReportLaws.{reported_accepts}
use Rattle.trees.specs.Case.{agreed_row, support_row, bare_of3, over_one, chain_at_root, pair_of4, chain_inside}
use Rattle.ascii.specs.Ascii.{ascii}
use Rattle.ascii.specs.Decimal.{digits, decimal}
use Rattle.newick.specs.Bytes.{kind_of}
use Rattle.newick.specs.Tree.{depth}
use Rattle.newick.specs.Walk.{parsed, walk, final, step, entered, begun, longer, shut, next, last}
use Rattle.newick.specs.Meaning.{samples_in, group_of, groups_of, groups_in, above}
use Rattle.newick.specs.Meaning as meaning
use Rattle.newick.specs.ReadCalls.{tree_in, text_checks, read_checks, row_in, reading}
use Rattle.newick.specs.RowText.{Wanted, Fitting, gather, by_lowest, children_of, commas, listed, node_text, written, write_checks, writing}
use Rattle.newick.specs.RowText.Wanted.{plain, with_words}
use Rattle.newick.proofs.WriteLaws.{writing_accepts, writing_bytes}
use Rattle.arb.specs.Specimens.{Says, renumbers, nodes_give, RunsGive, leaves, fills, shows, AllSay, nothing, ◌and◌, run, row01, row02}
use Rattle.arb.specs.Specimens.{case_runs, trivial_row, trivial_supports, three_runs, two_runs, chain_words, one_run, specimens}

-- ---- renumbering

-- a row that judging accepts is renumbered, whatever the output held
renumbers_so : (n : ℕ) (r q out : List ℕ) → judged n r ≡ accepted → renumbered n r ≡ q → length out ≡ row_words n
    → renumbering n r out ≡ leaves q
unfolding renumbering
renumbers_so n r q out ok e l = ap left ((renumbering_accepts n r out).1 (judged_valid n r ok, l)) ∙ ap leaves e
  where
    left : Verdict → Outcome
    left v = record { verdict = v; words = cond (is_accepted v) (renumbered n r) out }

-- ---- reporting on runs that were added

-- whether a run may be added: its identifier is a word other than 0, and judging accepts its row
abbrev fits : ℕ → Run → Bool
fits n run = leb 1 run.identifier && leb run.identifier most_identifier && is_accepted (judged n run.row)

each_fits : (n : ℕ) (rs : List Run) → every (fits n) rs ≡ true → (r : Run) → Memᴰ r rs → Fit n r
unfolding every
each_fits n [] e r x'' = elim x'' [ ]
each_fits n (x ∷ rs) e r (Memᴰ.head q) = rw q (one (and_l (fits n x) (every (fits n) rs) e))
  where
    one : fits n x ≡ true → Fit n x
    one f =
        let g = and_l (leb 1 x.identifier && leb x.identifier most_identifier) (is_accepted (judged n x.row)) f in
        record {
          valid = judged_valid n x.row (accepted_to _ (and_r (leb 1 x.identifier && leb x.identifier most_identifier) _ f));
          named = leb-true 1 x.identifier (and_l _ (leb x.identifier most_identifier) g);
          word = leb-true x.identifier most_identifier (and_r (leb 1 x.identifier) _ g);
        }
each_fits n (x ∷ rs) e r (Memᴰ.tail m) = each_fits n rs (and_r (fits n x) (every (fits n) rs) e) r m

-- what is left to compute: the study's words, and the two rows of the runs in them at p
record Stores (n : ℕ) (rs : List Run) (words : List ℕ) : Type 0 where
  opens : (w : List ℕ) → length w ≡ length words → Opens n w
  once : Distinct rs
  fit : every (fits n) rs ≡ true
  named : identified (adds rs) ≡ true
  room : length rs ≤ capacity (length words) n
  stores : encode (length words) n (gathered n rs) ≡ words
  over : samples words ≡ n
  some : 0 < in_force words

record Shows (words : List ℕ) (p : ℕ) (a s : List ℕ) : Type 0 where
  in_range : InRange (threshold p)
  row : agreed (rule_of p) (samples words) (runs words) ≡ a
  counts : supports (rule_of p) (samples words) (runs words) ≡ s

reports_so : (n : ℕ) (rs : List Run) (words : List ℕ) (p : ℕ) (a s : List ℕ) → Stores n rs words → Shows words p a s
    → (w x y : List ℕ) → length w ≡ length words → length x ≡ row_words n → length y ≡ row_words n → RunsGive n rs words p a s w x y
unfolding reported
reports_so n rs words p a s c f w x y l d e = record {
  opens = opens;
  takes = filled_takes n w rs opens c.once fit few;
  stores = same;
  report = shown;
}
  where
    opens : (opened n w).verdict ≡ accepted
    opens = (opened_accepts n w).1 (c.opens w l)

    fit : (r : Run) → Memᴰ r rs → Fit n r
    fit = each_fits n rs c.fit

    few : length rs ≤ capacity (length w) n
    few = rw l c.room

    same : study_after n w (adds rs) ≡ words
    same = filled_words n w rs opens c.once fit few ∙ (rw l c.stores)

    left : Verdict → Report
    left v = record {
      verdict = v;
      agreed_row = cond (is_accepted v) (agreed (rule_of p) (samples words) (runs words)) x;
      support_row = cond (is_accepted v) (supports (rule_of p) (samples words) (runs words)) y;
    }

    shown : reported words p x y ≡ shows a s
    shown = ap left ((reported_accepts words p x y).1 record {
      formed = rw same at (study_kept n w (adds rs) opens c.named).formed;
      agreed_words = rw c.over d;
      support_words = rw c.over e;
      in_range = f.in_range;
      some = c.some;
    }) ∙ rw (f.counts, f.row) refl

-- ---- texts

-- what lines 17 and 18 answer
abbrev Comes : ℕ → List ℕ → Verdict → Type 0
Comes n l v = text_checks n (parsed l) ⊳ accepted ≡ v

-- a text passes them, and its tree makes this row
abbrev Makes : ℕ → List ℕ → List ℕ → Type 0
Makes n l r = Comes n l accepted × (row_in n (tree_in (parsed l)) ≡ r)

-- n and the output are in order, and what a text comes to decides
text_decides : (n : ℕ) (l out : List ℕ) (v : Verdict) → (check1 n).fault ≡ nowhere → Comes n l v → length out ≡ row_words n
    → read_checks n (parsed l) out ⊳ accepted ≡ v
unfolding read_checks ◌⊳◌
text_decides n l out v a e f = rw (a, eq-eqb (length out) (row_words n) f) e

unread_so : (n : ℕ) (l : List ℕ) (v : Verdict) → (check1 n).fault ≡ nowhere → Comes n l v → (out : List ℕ) → length out ≡ row_words n
    → (reading n l out).verdict ≡ v
unfolding reading
unread_so n l v a e out f = text_decides n l out v a e f

reads_so : (n : ℕ) (l r : List ℕ) → (check1 n).fault ≡ nowhere → Makes n l r → (out : List ℕ) → length out ≡ row_words n
    → reading n l out ≡ leaves r
unfolding reading
reads_so n l r a e out f = ap left (text_decides n l out accepted a e.0 f) ∙ ap leaves e.1
  where
    left : Verdict → Outcome
    left v = record { verdict = v; words = cond (is_accepted v) (row_in n (tree_in (parsed l))) out }

texts_read : Makes 5 (ascii "(((0,1)2,2)2,(3,4)2);") agreed_row × Makes 5 (ascii "(((0,1),2),(3,4));") agreed_row
    × Makes 2 (ascii "(0,1);") (3 ∷ 2 ∷ 2 ∷ 65535 ∷ []) × Makes 2 (ascii "(((0)),1);") (3 ∷ 2 ∷ 2 ∷ 65535 ∷ [])
    × Makes 3 (ascii "((0),1,2);") bare_of3 × Makes 3 (ascii "((0,1,2));") bare_of3
    × Makes 4 (ascii "(((0,1)),2,3);") pair_of4 × Makes 4 (ascii "(((0,1)8)7,2,3);") pair_of4
unfolding text_checks row_in ◌⊳◌ parsed walk final step entered begun longer shut next last kind_of depth
    meaning.samples samples_in group_of groups_of groups_in above
    filter tabulate first weigh size lowest before same list_first enter ordered last_with parents row_of
texts_read = ((refl, refl), (refl, refl), (refl, refl), (refl, refl), (refl, refl), (refl, refl), (refl, refl), (refl, refl))

texts_unread : Comes 2 (ascii "(0,1") (refused 17 4) × Comes 2 (ascii "(00,1);") (refused 17 2)
    × Comes 2 (ascii "(0,123456);") (refused 17 8)
    × Comes 2 (ascii "(0 1);") (refused 17 3) × Comes 2 (ascii "(0,1):.5;") (refused 17 6) × Comes 2 (ascii "();") (refused 17 1)
    × Comes 2 (ascii "(0,0);") (refused 18 0) × Comes 2 (ascii "(0,2);") (refused 18 1) × Comes 2 (ascii "(0,1,7);") (refused 18 7)
    × Comes 2 (ascii "0;") (refused 18 1)
unfolding text_checks ◌⊳◌ parsed walk final step entered begun longer shut next last kind_of depth meaning.samples samples_in above tabulate
    first weigh
texts_unread = (refl, refl, refl, refl, refl, refl, refl, refl, refl, refl)

-- the text of a valid row, in a buffer that is long enough
writes_so : (n : ℕ) (r : List ℕ) (w : Wanted) (l : List ℕ) → judged n r ≡ accepted → Fitting n w → written n r w ≡ l
    → (text : List ℕ) → length l ≤ length text → writing n r w text ≡ fills l text
writes_so n r w l ok f e text h =
    let a : (writing n r w text).verdict ≡ wrote (length l) = (writing_accepts n r w text (length l)).1
    (judged_valid n r ok, f, ap length (sym e), rw e h) in
    let b = (writing_bytes n r w text (length l) a).1 in
    outcome_same (writing n r w text) (wrote (length l)) (l ++ drop (length l) text) a (b ∙ rw e refl)
  where
    outcome_same : (o : Outcome) (v : Verdict) (ws : List ℕ) → o.verdict ≡ v → o.words ≡ ws → o ≡ record { verdict = v; words = ws }
    outcome_same o v ws p q = rw (← p, ← q) refl

texts_written : (written 5 agreed_row (with_words support_row) ≡ ascii "(((0,1)2,2)2,(3,4)2);")
    × (written 5 agreed_row plain ≡ ascii "(((0,1),2),(3,4));")
    × (written 3 over_one plain ≡ ascii "((0),1,2);") × (written 3 chain_at_root plain ≡ ascii "((0,1,2));")
    × (written 4 chain_inside plain ≡ ascii "(((0,1)),2,3);") × (written 4 chain_inside (with_words chain_words) ≡ ascii "(((0,1)8)7,2,3);")
unfolding written node_text listed commas children_of by_lowest gather filter tabulate first weigh nodes parent meets group_at lowest decimal
    digits
texts_written = (refl, refl, refl, refl, refl, refl)

-- 20 bytes are one too few for the first
too_short : (text : List ℕ) → length text ≡ 20 → (writing 5 agreed_row (with_words support_row) text).verdict ≡ refused 3 0
unfolding writing write_checks row_checks ◌⊳◌ tabulate first weigh nodes parent meets ends
too_short text e = rw (e, texts_written.0) refl

-- ---- the table

three-runs : Stores 5 case_runs three_runs
unfolding tabulate filter first weigh size lowest same list_first before member nodes parent meets ends group_at groups ◌⊳◌ row_checks
    judge_checks judged
    enter ordered group_set last_with parents row_of renumbered every find insert_run gathered slots encode runs capacity
three-runs = record {
  opens = λ w l. record { least = omega arith; most = omega arith; one = rw l (omega arith) };
  once = (refl, (refl, (refl, tt)));
  fit = refl;
  named = refl;
  room = omega arith;
  stores = refl;
  over = refl;
  some = omega arith;
}

two_runs_lem : Stores 3 (run 1 row01 ∷ run 2 row02 ∷ []) two_runs
unfolding tabulate filter first weigh size lowest same list_first before member nodes parent meets ends group_at groups ◌⊳◌ row_checks
    judge_checks judged
    enter ordered group_set last_with parents row_of renumbered every find insert_run gathered slots encode runs capacity
two_runs_lem = record {
  opens = λ w l. record { least = omega arith; most = omega arith; one = rw l (omega arith) };
  once = (refl, (refl, tt));
  fit = refl;
  named = refl;
  room = omega arith;
  stores = refl;
  over = refl;
  some = omega arith;
}

one-run : Stores 3 (run 1 over_one ∷ []) (one_run 3 bare_of3)
unfolding tabulate filter first weigh size lowest same list_first before member nodes parent meets ends group_at groups ◌⊳◌ row_checks
    judge_checks judged
    enter ordered group_set last_with parents row_of renumbered every find insert_run gathered slots encode runs capacity
one-run = record {
  opens = λ w l. record { least = omega arith; most = omega arith; one = rw l (omega arith) };
  once = (refl, tt);
  fit = refl;
  named = refl;
  room = omega arith;
  stores = refl;
  over = refl;
  some = omega arith;
}

-- the rows that are stored have single branches
branches_stored : (well_formed (one_run 3 over_one) ≡ false) × (well_formed (one_run 3 chain_at_root) ≡ false)
    × (well_formed (one_run 4 chain_inside) ≡ false)
unfolding well_formed standard tabulate first weigh nodes parent meets ends group_at inner ◌⊳◌ row_checks judge_checks judged in_order before
    size same list_first
    every runs slots rising same_words capacity
branches_stored = (refl, refl, refl)

three_shown : Shows three_runs 0 agreed_row support_row × Shows three_runs 50 agreed_row support_row × Shows three_runs 66 agreed_row support_row
    × Shows three_runs 67 trivial_row trivial_supports × Shows three_runs 100 trivial_row trivial_supports
unfolding tabulate filter weigh size lowest same list_first before member nodes parent meets group_at groups
    enter ordered last_with parents row_of support total held shown agreed supports_of runs threshold is_shown
three_shown = (
  record { in_range = (omega arith, omega arith); row = refl; counts = refl },
  record { in_range = (omega arith, omega arith); row = refl; counts = refl },
  record { in_range = (omega arith, omega arith); row = refl; counts = refl },
  record { in_range = (omega arith, omega arith); row = refl; counts = refl },
  record { in_range = (omega arith, omega arith); row = refl; counts = refl },
)

two_shown : Shows two_runs 0 bare_of3 (2 ∷ 2 ∷ 2 ∷ 2 ∷ 2 ∷ 0 ∷ [])
unfolding tabulate filter weigh size lowest same list_first before member nodes parent meets group_at groups
    enter ordered last_with parents row_of support total held shown agreed supports_of runs threshold is_shown
two_shown = record { in_range = (omega arith, omega arith); row = refl; counts = refl }

one_shown : Shows (one_run 3 bare_of3) 0 bare_of3 (1 ∷ 1 ∷ 1 ∷ 1 ∷ 1 ∷ 0 ∷ [])
unfolding tabulate filter weigh size lowest same list_first before member nodes parent meets group_at groups
    enter ordered last_with parents row_of support total held shown agreed supports_of runs threshold is_shown
one_shown = record { in_range = (omega arith, omega arith); row = refl; counts = refl }

branches_out : Says (renumbers 3 over_one bare_of3) × Says (renumbers 3 chain_at_root bare_of3) × Says (renumbers 4 chain_inside pair_of4)
unfolding tabulate filter first weigh size lowest same list_first before member nodes parent meets ends group_at groups ◌⊳◌ row_checks
    judge_checks judged
    enter ordered group_set last_with parents row_of renumbered
branches_out = (
  λ out. renumbers_so 3 over_one bare_of3 out refl refl,
  λ out. renumbers_so 3 chain_at_root bare_of3 out refl refl,
  λ out. renumbers_so 4 chain_inside pair_of4 out refl refl,
)

one_tree : Says (renumbers 3 (5 ∷ 3 ∷ 3 ∷ 4 ∷ 4 ∷ 65535 ∷ []) row01)
unfolding tabulate filter first weigh size lowest same list_first before member nodes parent meets ends group_at groups ◌⊳◌ row_checks
    judge_checks judged
    enter ordered group_set last_with parents row_of renumbered
one_tree out = renumbers_so 3 (5 ∷ 3 ∷ 3 ∷ 4 ∷ 4 ∷ 65535 ∷ []) row01 out refl refl

first_word : (m : ℕ) → outside 4 5 m ≡ true → Says (nodes_give 3 m (refused 5 0))
first_word m e ws l = nodes_refused 3 m ws (omega arith) (omega arith) l e

pub specimens_hold : AllSay specimens
unfolding tabulate filter first weigh size lowest same list_first before member nodes parent meets ends group_at groups
    ◌⊳◌ row_checks judge_checks judged enter ordered group_set last_with parents row_of renumbered nontrivial compared compare_checks comparing
specimens_hold =
    reports_so 5 _ _ _ _ _ three-runs three_shown.0
    and refl
    and only_two
    and refl
    and refl
    and one_tree
    and refl
    and refl
    and refl
    and refl
    and refl
    and refl
    and first_word 3 refl
    and first_word 6 refl
    and reports_so 3 _ _ _ _ _ two_runs_lem two_shown
    and refl
    and refl
    and refl
    and refl
    and reports_so 5 _ _ _ _ _ three-runs three_shown.1
    and reports_so 5 _ _ _ _ _ three-runs three_shown.2
    and reports_so 5 _ _ _ _ _ three-runs three_shown.3
    and reports_so 5 _ _ _ _ _ three-runs three_shown.4
    and writes_so 5 agreed_row (with_words support_row) _ refl refl texts_written.0
    and writes_so 5 agreed_row plain _ refl tt texts_written.1
    and too_short
    and reads_so 5 _ _ refl texts_read.0
    and reads_so 5 _ _ refl texts_read.1
    and reads_so 2 _ _ refl texts_read.2
    and unread_so 2 _ _ refl texts_unread.0
    and unread_so 2 _ _ refl texts_unread.1
    and unread_so 2 _ _ refl texts_unread.2
    and unread_so 2 _ _ refl texts_unread.3
    and unread_so 2 _ _ refl texts_unread.4
    and unread_so 2 _ _ refl texts_unread.5
    and unread_so 2 _ _ refl texts_unread.6
    and unread_so 2 _ _ refl texts_unread.7
    and unread_so 2 _ _ refl texts_unread.8
    and unread_so 2 _ _ refl texts_unread.9
    and reads_so 2 _ _ refl texts_read.3
    and refl
    and refl
    and refl
    and branches_out.0
    and branches_out.1
    and branches_out.2
    and refl
    and reports_so 3 _ _ _ _ _ one-run one_shown
    and branches_stored.0
    and branches_stored.1
    and branches_stored.2
    and writes_so 3 over_one plain _ refl tt texts_written.2
    and writes_so 3 chain_at_root plain _ refl tt texts_written.3
    and writes_so 4 chain_inside plain _ refl tt texts_written.4
    and writes_so 4 chain_inside (with_words chain_words) _ refl refl texts_written.5
    and reads_so 3 _ _ refl texts_read.4
    and reads_so 3 _ _ refl texts_read.5
    and reads_so 4 _ _ refl texts_read.6
    and reads_so 4 _ _ refl texts_read.7
    and nothing
