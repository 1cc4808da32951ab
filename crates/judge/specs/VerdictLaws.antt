-- Two answers with one verdict are the same answer. Assumes nothing.
use Rattle.std.specs.Prelude.{◌≡◌, refl, ℕ, cond, eqb, Ok, Err}
use Rattle.std.proofs.Common.{sym, ◌∙◌, ap, rules}
use Rattle.trees.specs.Checks.{Verdict, refused}
use Rattle.judge.specs.declared.Reason.{Reason}
use Rattle.judge.specs.declared.Reason.TheVariants.{Samples, Study, Words, Identifier, Nodes, Parent, Root, Filler, Lost, Children, Taken, Full, Absent, Empty, File, Threshold, Form, Leaves}
use Rattle.judge.specs.declared.Refusal.{Refusal}
use Rattle.judge.specs.Verdicts.{number_of, Answer, verdict}

-- the reason that has a number
reason_of : ℕ → Reason
reason_of k =
    cond (eqb k 1) Samples (
    cond (eqb k 2) Study (
    cond (eqb k 3) Words (
    cond (eqb k 4) Identifier (
    cond (eqb k 5) Nodes (
    cond (eqb k 6) Parent (
    cond (eqb k 7) Root (
    cond (eqb k 8) Filler (
    cond (eqb k 9) Lost (
    cond (eqb k 10) Children (
    cond (eqb k 11) Taken (
    cond (eqb k 12) Full (
    cond (eqb k 13) Absent (
    cond (eqb k 14) Empty (
    cond (eqb k 15) File (
    cond (eqb k 16) Threshold (
    cond (eqb k 17) Form (
    Leaves)))))))))))))))))

reason_numbered : (r : Reason) → reason_of (number_of r) ≡ r
unfolding reason_of
reason_numbered Samples = refl
reason_numbered Study = refl
reason_numbered Words = refl
reason_numbered Identifier = refl
reason_numbered Nodes = refl
reason_numbered Parent = refl
reason_numbered Root = refl
reason_numbered Filler = refl
reason_numbered Lost = refl
reason_numbered Children = refl
reason_numbered Taken = refl
reason_numbered Full = refl
reason_numbered Absent = refl
reason_numbered Empty = refl
reason_numbered File = refl
reason_numbered Threshold = refl
reason_numbered Form = refl
reason_numbered Leaves = refl

-- no two reasons have one number
pub number_injective : (r s : Reason) → number_of r ≡ number_of s → r ≡ s
number_injective r s e = sym (reason_numbered r) ∙ ap reason_of e ∙ reason_numbered s

-- the number and the place in a verdict
number_in : Verdict → ℕ
number_in (refused k p) = k
number_in _ = 0

place_in : Verdict → ℕ
place_in (refused k p) = p
place_in _ = 0

refusal_same : (x y : Refusal) → x.reason ≡ y.reason → x.place ≡ y.place → x ≡ y
refusal_same x y e f = search rules

-- no two refusals have one number and one place
pub refusal_injective : (r s : Refusal) → verdict (Err r) ≡ verdict (Err s) → r ≡ s
unfolding number_in place_in
refusal_injective r s e = refusal_same r s (number_injective r.reason s.reason (ap number_in e)) (ap place_in e)

pub verdict_injective : (a b : Answer) → verdict a ≡ verdict b → a ≡ b
verdict_injective (Ok _) (Ok _) e = refl
verdict_injective (Ok _) (Err r) e = cc
verdict_injective (Err r) (Ok _) e = cc
verdict_injective (Err r) (Err s) e = ap Err (refusal_injective r s e)
