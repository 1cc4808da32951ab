-- The number and the place that an answer of the code stands for.
use Rattle.std.specs.Prelude.{ℕ, Result, Ok, Err}
use Rattle.trees.specs.Checks.{Verdict, accepted, refused}
use Rattle.judge.specs.declared.Reason.{Reason}
use Rattle.judge.specs.declared.Reason.TheVariants.{Samples, Study, Words, Identifier, Nodes, Parent, Root, Filler, Lost, Children, Taken, Full, Absent, Empty, File, Threshold, Form, Leaves}
use Rattle.judge.specs.declared.Refusal.{Refusal}

-- the number of a refusal (RULES 7.5)
abbrev pub number_of : Reason → ℕ
number_of Samples = 1
number_of Study = 2
number_of Words = 3
number_of Identifier = 4
number_of Nodes = 5
number_of Parent = 6
number_of Root = 7
number_of Filler = 8
number_of Lost = 9
number_of Children = 10
number_of Taken = 11
number_of Full = 12
number_of Absent = 13
number_of Empty = 14
number_of File = 15
number_of Threshold = 16
number_of Form = 17
number_of Leaves = 18

-- what a call answers: acceptance, or a refusal
abbrev pub Answer : Type 0
Answer = Result Unit Refusal

-- an acceptance, or the refusal's number and place (RULES 7.1)
abbrev pub verdict : Answer → Verdict
verdict (Ok _) = accepted
verdict (Err r) = refused (number_of r.reason) r.place
