-- The specimens that are proved (RULES 10.1 to 10.6, 10.11, 10.13 to 10.15): one table, and what each of its rows says of the calls.
use Rattle.std.specs.Prelude.{ℕ, ◌≡◌, List, [], ◌∷◌, ◌++◌, true, false, ◌≤◌, length, drop}
use Rattle.trees.specs.Checks.{Verdict, accepted, refused, counted, wrote, row_words, judged}
use Rattle.trees.specs.Valid.{is_accepted}
use Rattle.trees.specs.Outcomes.{Outcome}
use Rattle.trees.specs.RowCalls.{renumbering, comparing}
use Rattle.trees.specs.Reporting.{Run}
use Rattle.trees.specs.Case.{row1, row2, row3, agreed_row, support_row, bare_of3, over_one, chain_at_root, pair_of4, chain_inside}
use Rattle.runs.specs.Runs.{every}
use Rattle.runs.specs.Formed.{well_formed}
use Rattle.runs.specs.Calls.{opened}
use Rattle.runs.specs.Histories.{answers, study_after, adds}
use Rattle.runs.specs.Reports.{Report, reported}
use Rattle.ascii.specs.Ascii.{ascii}
use Rattle.newick.specs.ReadCalls.{reading}
use Rattle.newick.specs.RowText.{Wanted, writing}
use Rattle.newick.specs.RowText.Wanted.{plain, with_words}

pub data Specimen : Type 0 where
  judges : ℕ → List ℕ → Verdict → Specimen
  only_tree : ℕ → List ℕ → Specimen
  nodes_give : ℕ → ℕ → Verdict → Specimen
  renumbers : ℕ → List ℕ → List ℕ → Specimen
  compares : ℕ → List ℕ → List ℕ → Verdict → Specimen
  reports : ℕ → List Run → List ℕ → ℕ → List ℕ → List ℕ → Specimen
  unformed : List ℕ → Specimen
  reads : ℕ → List ℕ → List ℕ → Specimen
  unread : ℕ → List ℕ → Verdict → Specimen
  writes : ℕ → List ℕ → Wanted → List ℕ → Specimen
  unwritten : ℕ → List ℕ → Wanted → ℕ → Verdict → Specimen

-- what an accepted call leaves in the buffer that it writes, and an accepted report in its two
abbrev pub leaves : List ℕ → Outcome
leaves ws = record { verdict = accepted; words = ws }

-- what an accepted writing leaves in its buffer
abbrev pub fills : List ℕ → List ℕ → Outcome
fills l text = record { verdict = wrote (length l); words = l ++ drop (length l) text }

abbrev pub shows : List ℕ → List ℕ → Report
shows a s = record { verdict = accepted; agreed_row = a; support_row = s }

-- A buffer as long as `words` is opened for n samples and takes each of the runs; then its words are these, and its report at p is
-- the rows a and s.
pub record RunsGive (n : ℕ) (rs : List Run) (words : List ℕ) (p : ℕ) (a s w x y : List ℕ) : Type 0 where
  pub opens : (opened n w).verdict ≡ accepted
  pub takes : every is_accepted (answers (opened n w).words (adds rs)) ≡ true
  pub stores : study_after n w (adds rs) ≡ words
  pub report : reported words p x y ≡ shows a s

-- judging or comparing these words answers this; it is the only tree over n samples; a row of 2n words that begins with m is judged so,
-- whatever its other words are; renumbering these words leaves those, whatever the output held; so does reporting on runs that were
-- added; these words are no study that is well formed; reading this text leaves these words, or answers this; writing this row leaves
-- this text in front, in any buffer that is as long or longer, or answers this, in any buffer of so many bytes
abbrev pub Says : Specimen → Type 0
Says (judges n r v) = judged n r ≡ v
Says (only_tree n r) = (q : List ℕ) → judged n q ≡ accepted → q ≡ r
Says (nodes_give n m v) = (ws : List ℕ) → length (m ∷ ws) ≡ row_words n → judged n (m ∷ ws) ≡ v
Says (renumbers n r q) = (out : List ℕ) → length out ≡ row_words n → renumbering n r out ≡ leaves q
Says (compares n r q v) = comparing n r q ≡ v
Says (reports n rs words p a s) = (w x y : List ℕ) → length w ≡ length words → length x ≡ row_words n → length y ≡ row_words n
    → RunsGive n rs words p a s w x y
Says (unformed words) = well_formed words ≡ false
Says (reads n l r) = (out : List ℕ) → length out ≡ row_words n → reading n l out ≡ leaves r
Says (unread n l v) = (out : List ℕ) → length out ≡ row_words n → (reading n l out).verdict ≡ v
Says (writes n r w l) = (text : List ℕ) → length l ≤ length text → writing n r w text ≡ fills l text
Says (unwritten n r w k v) = (text : List ℕ) → length text ≡ k → (writing n r w text).verdict ≡ v

-- each row of a table says what is so
infixr 5 ◌and◌
pub data AllSay : List Specimen → Type 0 where
  nothing : AllSay []
  ◌and◌ : {s : Specimen} {ss : List Specimen} → Says s → AllSay ss → AllSay (s ∷ ss)

abbrev pub run : ℕ → List ℕ → Run
run i r = record { identifier = i; row = r }

-- three samples, with the group {0,1}, and with the group {0,2}
abbrev pub row01 : List ℕ
row01 = 5 ∷ 4 ∷ 4 ∷ 3 ∷ 65535 ∷ 3 ∷ []

abbrev pub row02 : List ℕ
row02 = 5 ∷ 4 ∷ 3 ∷ 4 ∷ 65535 ∷ 3 ∷ []

-- words of a support row for the chain of four samples
abbrev pub chain_words : List ℕ
chain_words = 9 ∷ 9 ∷ 9 ∷ 9 ∷ 9 ∷ 9 ∷ 7 ∷ 8 ∷ []

-- the three runs; and the row of five samples that has trivial groups alone, with its support row where three runs are in force
abbrev pub case_runs : List Run
case_runs = run 1 row1 ∷ run 2 row2 ∷ run 3 row3 ∷ []

abbrev pub trivial_row : List ℕ
trivial_row = 6 ∷ 5 ∷ 5 ∷ 5 ∷ 5 ∷ 5 ∷ 65535 ∷ 0 ∷ 0 ∷ 0 ∷ []

abbrev pub trivial_supports : List ℕ
trivial_supports = 3 ∷ 3 ∷ 3 ∷ 3 ∷ 3 ∷ 3 ∷ 3 ∷ 0 ∷ 0 ∷ 0 ∷ []

-- a study over five samples with the three runs, and one over three samples with two: the header, then a slot for each (RULES 6.1 to 6.3)
abbrev pub three_runs : List ℕ
three_runs = (65 ∷ 82 ∷ 66 ∷ 1 ∷ 5 ∷ 3 ∷ 0 ∷ 0 ∷ []) ++ (1 ∷ row1) ++ (2 ∷ row2) ++ (3 ∷ row3)

abbrev pub two_runs : List ℕ
two_runs = (65 ∷ 82 ∷ 66 ∷ 1 ∷ 3 ∷ 2 ∷ 0 ∷ 0 ∷ []) ++ (1 ∷ row01) ++ (2 ∷ row02)

-- a study over n samples with one run
abbrev pub one_run : ℕ → List ℕ → List ℕ
one_run n r = (65 ∷ 82 ∷ 66 ∷ 1 ∷ n ∷ 1 ∷ 0 ∷ 0 ∷ []) ++ (1 ∷ r)

abbrev pub specimens : List Specimen
specimens =
    -- the three runs (RULES 10.1): the study's 41 words, the agreed row, the support row
    reports 5 case_runs three_runs 0 agreed_row support_row
    -- the one tree of two samples (RULES 10.2)
    ∷ judges 2 (3 ∷ 2 ∷ 2 ∷ 65535 ∷ []) accepted
    ∷ only_tree 2 (3 ∷ 2 ∷ 2 ∷ 65535 ∷ [])
    -- one tree in two numberings (RULES 10.3)
    ∷ judges 3 row01 accepted
    ∷ judges 3 (5 ∷ 3 ∷ 3 ∷ 4 ∷ 4 ∷ 65535 ∷ []) accepted
    ∷ renumbers 3 (5 ∷ 3 ∷ 3 ∷ 4 ∷ 4 ∷ 65535 ∷ []) row01
    -- rows over three samples, judged (RULES 10.4)
    ∷ judges 3 (4 ∷ 3 ∷ 3 ∷ 3 ∷ 65535 ∷ 7 ∷ []) (refused 8 5)
    ∷ judges 3 bare_of3 accepted
    ∷ judges 3 (5 ∷ 3 ∷ 3 ∷ 3 ∷ 65535 ∷ 4 ∷ []) (refused 9 4)
    ∷ judges 3 (5 ∷ 3 ∷ 3 ∷ 3 ∷ 65535 ∷ 3 ∷ []) (refused 10 4)
    ∷ judges 3 (5 ∷ 2 ∷ 3 ∷ 3 ∷ 65535 ∷ 3 ∷ []) (refused 6 0)
    ∷ judges 3 (5 ∷ 4 ∷ 4 ∷ 3 ∷ 65535 ∷ 65535 ∷ []) (refused 7 0)
    ∷ nodes_give 3 3 (refused 5 0)
    ∷ nodes_give 3 6 (refused 5 0)
    -- two runs in conflict (RULES 10.5)
    ∷ reports 3 (run 1 row01 ∷ run 2 row02 ∷ []) two_runs 0 bare_of3 (2 ∷ 2 ∷ 2 ∷ 2 ∷ 2 ∷ 0 ∷ [])
    -- comparisons (RULES 10.6): of the second one the two sides differ; then one tree in two numberings, and that of two samples
    ∷ compares 5 row1 row2 (counted 1 1 1)
    ∷ compares 5 row1 row3 (counted 1 1 2)
    ∷ compares 3 row01 (5 ∷ 3 ∷ 3 ∷ 4 ∷ 4 ∷ 65535 ∷ []) (counted 1 0 0)
    ∷ compares 2 (3 ∷ 2 ∷ 2 ∷ 65535 ∷ []) (3 ∷ 2 ∷ 2 ∷ 65535 ∷ []) (counted 0 0 0)
    -- the three runs at other thresholds (RULES 10.11)
    ∷ reports 5 case_runs three_runs 50 agreed_row support_row
    ∷ reports 5 case_runs three_runs 66 agreed_row support_row
    ∷ reports 5 case_runs three_runs 67 trivial_row trivial_supports
    ∷ reports 5 case_runs three_runs 100 trivial_row trivial_supports
    -- the report of the three runs, written and read (RULES 10.13)
    ∷ writes 5 agreed_row (with_words support_row) (ascii "(((0,1)2,2)2,(3,4)2);")
    ∷ writes 5 agreed_row plain (ascii "(((0,1),2),(3,4));")
    ∷ unwritten 5 agreed_row (with_words support_row) 20 (refused 3 0)
    ∷ reads 5 (ascii "(((0,1)2,2)2,(3,4)2);") agreed_row
    ∷ reads 5 (ascii "(((0,1),2),(3,4));") agreed_row
    -- texts over two samples (RULES 10.14)
    ∷ reads 2 (ascii "(0,1);") (3 ∷ 2 ∷ 2 ∷ 65535 ∷ [])
    ∷ unread 2 (ascii "(0,1") (refused 17 4)
    ∷ unread 2 (ascii "(00,1);") (refused 17 2)
    ∷ unread 2 (ascii "(0,123456);") (refused 17 8)
    ∷ unread 2 (ascii "(0 1);") (refused 17 3)
    ∷ unread 2 (ascii "(0,1):.5;") (refused 17 6)
    ∷ unread 2 (ascii "();") (refused 17 1)
    ∷ unread 2 (ascii "(0,0);") (refused 18 0)
    ∷ unread 2 (ascii "(0,2);") (refused 18 1)
    ∷ unread 2 (ascii "(0,1,7);") (refused 18 7)
    ∷ unread 2 (ascii "0;") (refused 18 1)
    ∷ reads 2 (ascii "(((0)),1);") (3 ∷ 2 ∷ 2 ∷ 65535 ∷ [])
    -- single branches (RULES 10.15): judged, renumbered, compared, stored, written and read
    ∷ judges 3 over_one accepted
    ∷ judges 3 chain_at_root accepted
    ∷ judges 4 chain_inside accepted
    ∷ renumbers 3 over_one bare_of3
    ∷ renumbers 3 chain_at_root bare_of3
    ∷ renumbers 4 chain_inside pair_of4
    ∷ compares 4 chain_inside pair_of4 (counted 1 0 0)
    ∷ reports 3 (run 1 over_one ∷ []) (one_run 3 bare_of3) 0 bare_of3 (1 ∷ 1 ∷ 1 ∷ 1 ∷ 1 ∷ 0 ∷ [])
    ∷ unformed (one_run 3 over_one)
    ∷ unformed (one_run 3 chain_at_root)
    ∷ unformed (one_run 4 chain_inside)
    ∷ writes 3 over_one plain (ascii "((0),1,2);")
    ∷ writes 3 chain_at_root plain (ascii "((0,1,2));")
    ∷ writes 4 chain_inside plain (ascii "(((0,1)),2,3);")
    ∷ writes 4 chain_inside (with_words chain_words) (ascii "(((0,1)8)7,2,3);")
    ∷ reads 3 (ascii "((0),1,2);") bare_of3
    ∷ reads 3 (ascii "((0,1,2));") bare_of3
    ∷ reads 4 (ascii "(((0,1)),2,3);") pair_of4
    ∷ reads 4 (ascii "(((0,1)8)7,2,3);") pair_of4
    ∷ []
