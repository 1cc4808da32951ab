-- What the head of a request says and what the head of a reply holds. Assumes nothing.
use Rattle.std.specs.Prelude.{ℕ, ◌/◌, ◌%◌, List, [], ◌∷◌, get_or, Option, None, Some, Ok, Err}
use Rattle.judge.specs.declared.Refusal.{Refusal}
use Rattle.judge.specs.Verdicts.{Answer, number_of}
use Rattle.compare.specs.Comparisons.{Compared}
use Rattle.writer.specs.Writings.{Written}
use Rattle.replay.specs.declared.calls.Op.{Op}
use Rattle.replay.specs.declared.calls.Op.TheVariants as op
use Rattle.replay.specs.declared.calls.Head.{Head}
use Rattle.replay.specs.declared.calls.Reply.{Reply}

-- the call with a number, if there is one; they are numbered from 1 on
abbrev pub op_at : ℕ → Option Op
op_at number = get_or
    (None ∷ Some op.Open ∷ Some op.Add ∷ Some op.Withdraw ∷ Some op.Report ∷ Some op.Judge ∷ Some op.Renumber ∷ Some op.Compare
    ∷ Some op.Read ∷ Some op.Write ∷ []) number None

-- a request's six words: the call, its two numbers, the lengths of its buffers
abbrev pub head_of : List ℕ → Head
head_of s = record { op = get_or s 0 0; x = get_or s 1 0; y = get_or s 2 0; la = get_or s 3 0; lb = get_or s 4 0; lc = get_or s 5 0 }

-- the reply of a call that is accepted: number and place are 0
abbrev pub counts_reply : ℕ → ℕ → ℕ → Reply
counts_reply c1 c2 c3 = record { number = 0; place = 0; c1 = c1; c2 = c2; c3 = c3 }

-- the reply of a call that is refused: its number and place, and no counts
abbrev pub refused_reply : Refusal → Reply
refused_reply r = record { number = number_of r.reason; place = r.place; c1 = 0; c2 = 0; c3 = 0 }

-- the reply that an answer makes
abbrev pub reply_to : Answer → Reply
reply_to (Ok _) = counts_reply 0 0 0
reply_to (Err r) = refused_reply r

-- the reply that a comparison makes: its counts
abbrev pub reply_counts : Compared → Reply
reply_counts (Ok c) = counts_reply c.both c.first c.second
reply_counts (Err r) = refused_reply r

-- the reply that a writing makes: the length of the text as its first count
abbrev pub reply_length : Written → Reply
reply_length (Ok k) = counts_reply k 0 0
reply_length (Err r) = refused_reply r

-- a reply's six words: the number, the place's low word and high word, the counts
abbrev pub reply_words : Reply → List ℕ
reply_words r =
    (r.number % 65536)
    ∷ (r.place % 65536)
    ∷ (r.place / 65536 % 65536)
    ∷ (r.c1 % 65536)
    ∷ (r.c2 % 65536)
    ∷ (r.c3 % 65536)
    ∷ []
