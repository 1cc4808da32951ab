-- Each promise determines the call's answer and the words that it leaves: any two results that keep it are equal (RULES 12.1). Assumes nothing.
use Rattle.std.specs.Prelude.{ℕ, ◌≡◌, List}
use Rattle.std.proofs.Common.{sym, ◌∙◌}
use Rattle.trees.specs.Checks.{judged}
use Rattle.trees.specs.Outcomes.{Outcome}
use Rattle.trees.specs.RowCalls.{renumbering, comparing}
use Rattle.runs.specs.Calls.{opened, added, withdrawn}
use Rattle.runs.specs.Reports.{Report, reported}
use Rattle.judge.specs.Verdicts.{Answer, verdict}
use Rattle.judge.specs.VerdictLaws.{verdict_injective}
use Rattle.compare.specs.Comparisons.{Compared, comparison}
use Rattle.compare.specs.ComparisonLaws.{comparison_injective}
use Rattle.newick.specs.ReadCalls.{reading}
use Rattle.newick.specs.RowText.{Wanted, writing}
use Rattle.writer.specs.Writings.{Written, written_verdict}
use Rattle.writer.specs.WritingsLaws.{written_injective}

pub judge_determined : (n : ℕ) (row : List ℕ) (a b : Answer) → verdict a ≡ judged n row → verdict b ≡ judged n row → a ≡ b
judge_determined n row a b p q = verdict_injective a b (p ∙ sym q)

-- what an answer and words have to be, where a call leaves an outcome
pub record Leaves (o : Outcome) (a : Answer) (w : List ℕ) : Type 0 where
  pub answer : verdict a ≡ o.verdict
  pub words : w ≡ o.words

outcome_determined : (o : Outcome) (a b : Answer) (v w : List ℕ) → Leaves o a v → Leaves o b w → (a ≡ b) × (v ≡ w)
outcome_determined o a b v w p q = (verdict_injective a b (p.answer ∙ sym q.answer), p.words ∙ sym q.words)

pub open_determined : (n : ℕ) (words : List ℕ) (a b : Answer) (v w : List ℕ) → Leaves (opened n words) a v → Leaves (opened n words) b w → (a ≡ b) × (v ≡ w)
open_determined n words = outcome_determined (opened n words)

pub add_determined : (words : List ℕ) (id : ℕ) (row : List ℕ) (a b : Answer) (v w : List ℕ)
    → Leaves (added words id row) a v → Leaves (added words id row) b w → (a ≡ b) × (v ≡ w)
add_determined words id row = outcome_determined (added words id row)

pub withdraw_determined : (words : List ℕ) (id : ℕ) (a b : Answer) (v w : List ℕ) → Leaves (withdrawn words id) a v
    → Leaves (withdrawn words id) b w → (a ≡ b) × (v ≡ w)
withdraw_determined words id = outcome_determined (withdrawn words id)

pub renumber_determined : (n : ℕ) (row out : List ℕ) (a b : Answer) (v w : List ℕ)
    → Leaves (renumbering n row out) a v → Leaves (renumbering n row out) b w → (a ≡ b) × (v ≡ w)
renumber_determined n row out = outcome_determined (renumbering n row out)

pub compare_determined : (n : ℕ) (first second : List ℕ) (a b : Compared)
    → comparison a ≡ comparing n first second → comparison b ≡ comparing n first second → a ≡ b
compare_determined n first second a b p q = comparison_injective a b (p ∙ sym q)

-- what an answer and two rows have to be, where a report leaves them
pub record Reports (o : Report) (a : Answer) (agreed support : List ℕ) : Type 0 where
  pub answer : verdict a ≡ o.verdict
  pub row : agreed ≡ o.agreed_row
  pub supports : support ≡ o.support_row

pub report_determined : (words : List ℕ) (p : ℕ) (x y : List ℕ) (a b : Answer) (r s q t : List ℕ)
    → Reports (reported words p x y) a r s → Reports (reported words p x y) b q t → (a ≡ b) × (r ≡ q) × (s ≡ t)
report_determined words p x y a b r s q t m k = (verdict_injective a b (m.answer ∙ sym k.answer), m.row ∙ sym k.row, m.supports ∙ sym k.supports)

pub read_determined : (n : ℕ) (text out : List ℕ) (a b : Answer) (v w : List ℕ)
    → Leaves (reading n text out) a v → Leaves (reading n text out) b w → (a ≡ b) × (v ≡ w)
read_determined n text out = outcome_determined (reading n text out)

-- what an answer and bytes have to be, where a writing leaves them
pub record Fills (o : Outcome) (a : Written) (bytes : List ℕ) : Type 0 where
  pub answer : written_verdict a ≡ o.verdict
  pub bytes_after : bytes ≡ o.words

-- with supports and without
pub write_determined : (n : ℕ) (row : List ℕ) (w : Wanted) (text : List ℕ) (a b : Written) (x y : List ℕ)
    → Fills (writing n row w text) a x → Fills (writing n row w text) b y → (a ≡ b) × (x ≡ y)
write_determined n row w text a b x y p q = (written_injective a b (p.answer ∙ sym q.answer), p.bytes_after ∙ sym q.bytes_after)
