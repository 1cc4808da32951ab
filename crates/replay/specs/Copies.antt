-- A list copied element by element. Assumes nothing.
use Rattle.std.specs.Prelude.{ℕ, ◌+◌, ◌<◌, ◌≡◌, List, [], ◌++◌, length, get_or, take, drop, set}
use Rattle.std.proofs.Common.{sym, ◌∙◌, append-nil, add-one, drop-cons, take-suc-set}
use Rattle.std.proofs.Math.Seq.{append_snoc, drop-length, take-length}

-- the first i of ys are those of xs
abbrev pub CopiedTo : List ℕ → ℕ → List ℕ → Type 0
CopiedTo xs i ys = take i ys ++ drop i xs ≡ xs

pub copied_more : (xs ys : List ℕ) (i : ℕ) → i < length xs → i < length ys → CopiedTo xs i ys → CopiedTo xs (i + 1) (set ys i (get_or xs i 0))
copied_more xs ys i h k p = rw (add-one i, take-suc-set ys i (get_or xs i 0) k, append_snoc, ← drop-cons xs i 0 h) p

pub copied_all : (xs ys : List ℕ) (i : ℕ) → length ys ≡ length xs → i ≡ length xs → CopiedTo xs i ys → ys ≡ xs
copied_all xs ys i l e p =
    let q : take (length xs) ys ++ drop (length xs) xs ≡ xs = rw (← e) p in
    let z : take (length ys) ys ++ [] ≡ xs = rw (l, ← drop-length xs) q in
    sym (take-length ys) ∙ sym (append-nil (take (length ys) ys)) ∙ z
