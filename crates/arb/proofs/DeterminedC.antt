-- The promise of each call for C determines its number and the words that it leaves, and unpacking the number gives the verdict back. Assumes nothing.
use Rattle.std.specs.Prelude.{ℕ, ◌<◌, ◌≡◌, List, length}
use Rattle.std.proofs.Common.{sym, ap, ◌∙◌}
use Rattle.trees.specs.Checks.{judged}
use Rattle.trees.specs.Outcomes.{Outcome}
use Rattle.trees.specs.RowCalls.{renumbering, comparing}
use Rattle.runs.specs.Calls.{opened, added, withdrawn}
use Rattle.runs.specs.Reports.{Report, reported}
use Rattle.newick.specs.ReadCalls.{reading}
use Rattle.newick.specs.RowText.{Wanted, writing}
use Rattle.arb.specs.Packing.{places, packed, unpacked, unpacked_counts, unpacked_length}
use Rattle.arb.proofs.PackingLaws.{opened_unpacked, added_unpacked, withdrawn_unpacked, reported_unpacked}
use Rattle.arb.proofs.PackingLaws.{judged_unpacked, renumbering_unpacked, comparing_unpacked}
use Rattle.arb.proofs.PackingLaws.{reading_unpacked, writing_unpacked}
use Rattle.writer.specs.Lengths.{SmallWords}

-- what a number and words have to be, where a call for C leaves an outcome
pub record PackedLeaves (o : Outcome) (x : ℕ) (w : List ℕ) : Type 0 where
  pub answer : x ≡ packed o.verdict
  pub words : w ≡ o.words

-- two results of one call are equal, and from either the verdict can be read
abbrev pub Same : Outcome → ℕ → ℕ → List ℕ → List ℕ → Type 0
Same o x y v w = (x ≡ y) × (v ≡ w) × (unpacked x ≡ o.verdict)

packed_determined : (o : Outcome) → unpacked (packed o.verdict) ≡ o.verdict → (x y : ℕ) (v w : List ℕ)
    → PackedLeaves o x v → PackedLeaves o y w → Same o x y v w
packed_determined o e x y v w p q = (p.answer ∙ sym q.answer, p.words ∙ sym q.words, ap unpacked p.answer ∙ e)

pub c_open_determined : (n : ℕ) (words : List ℕ) (x y : ℕ) (v w : List ℕ)
    → PackedLeaves (opened n words) x v → PackedLeaves (opened n words) y w → Same (opened n words) x y v w
c_open_determined n words = packed_determined (opened n words) (opened_unpacked n words)

pub c_add_determined : (words : List ℕ) (id : ℕ) (row : List ℕ) (x y : ℕ) (v w : List ℕ)
    → PackedLeaves (added words id row) x v → PackedLeaves (added words id row) y w → Same (added words id row) x y v w
c_add_determined words id row = packed_determined (added words id row) (added_unpacked words id row)

pub c_withdraw_determined : (words : List ℕ) (id : ℕ) (x y : ℕ) (v w : List ℕ)
    → PackedLeaves (withdrawn words id) x v → PackedLeaves (withdrawn words id) y w → Same (withdrawn words id) x y v w
c_withdraw_determined words id = packed_determined (withdrawn words id) (withdrawn_unpacked words id)

pub c_renumber_determined : (n : ℕ) (row out : List ℕ) (x y : ℕ) (v w : List ℕ)
    → PackedLeaves (renumbering n row out) x v → PackedLeaves (renumbering n row out) y w → Same (renumbering n row out) x y v w
c_renumber_determined n row out = packed_determined (renumbering n row out) (renumbering_unpacked n row out)

pub c_judge_determined : (n : ℕ) (row : List ℕ) (x y : ℕ) → x ≡ packed (judged n row) → y ≡ packed (judged n row) → (x ≡ y) × (unpacked x ≡ judged n row)
c_judge_determined n row x y p q = (p ∙ sym q, ap unpacked p ∙ judged_unpacked n row)

pub c_compare_determined : (n : ℕ) (first second : List ℕ) (x y : ℕ) → x ≡ packed (comparing n first second) → y ≡ packed (comparing n first second)
    → (x ≡ y) × (unpacked_counts x ≡ comparing n first second)
c_compare_determined n first second x y p q = (p ∙ sym q, ap unpacked_counts p ∙ comparing_unpacked n first second)

-- what a number and two rows have to be, where a report for C leaves them
pub record PackedReports (o : Report) (x : ℕ) (agreed support : List ℕ) : Type 0 where
  pub answer : x ≡ packed o.verdict
  pub row : agreed ≡ o.agreed_row
  pub supports : support ≡ o.support_row

pub c_report_determined : (words : List ℕ) (p : ℕ) (a b : List ℕ) (x y : ℕ) (r s q t : List ℕ)
    → PackedReports (reported words p a b) x r s → PackedReports (reported words p a b) y q t
    → (x ≡ y) × (r ≡ q) × (s ≡ t) × (unpacked x ≡ (reported words p a b).verdict)
c_report_determined words p a b x y r s q t m k = (
  m.answer ∙ sym k.answer,
  m.row ∙ sym k.row,
  m.supports ∙ sym k.supports,
  ap unpacked m.answer ∙ reported_unpacked words p a b,
)

-- of a text shorter than 2^56 bytes
pub c_read_determined : (n : ℕ) (text out : List ℕ) → length text < places → (x y : ℕ) (v w : List ℕ)
    → PackedLeaves (reading n text out) x v → PackedLeaves (reading n text out) y w → Same (reading n text out) x y v w
c_read_determined n text out h = packed_determined (reading n text out) (reading_unpacked n text out h)

-- with supports, which are words, and without
pub c_write_determined : (n : ℕ) (row : List ℕ) (s : Wanted) (text : List ℕ) → SmallWords s → (x y : ℕ) (v w : List ℕ)
    → PackedLeaves (writing n row s text) x v → PackedLeaves (writing n row s text) y w
    → (x ≡ y) × (v ≡ w) × (unpacked_length x ≡ (writing n row s text).verdict)
c_write_determined n row s text h x y v w p q = (
  p.answer ∙ sym q.answer,
  p.words ∙ sym q.words,
  ap unpacked_length p.answer ∙ writing_unpacked n row s text h,
)
