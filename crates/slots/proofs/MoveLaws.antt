-- What moves of words make together: a slot put in, a slot closed up. Assumes nothing.
use Prim.Native.Nat.{ℕ, zero, suc, ◌+◌, ◌-◌, ◌<◌, ◌≤◌}
use mathlib.Core.Path.{◌≡◌, refl, sym, ap, ◌∙◌}
use mathlib.Core.List.{List, [], ◌∷◌, ◌++◌, append_assoc}
use native.Mathlib.Nat.{sub-zero, zero-sub, suc-sub-suc, le_of_eq}
use native.Mathlib.Numerals.{add-one}
use native.Mathlib.Omega.{arith}
use lib.ListN.{length, take, drop, set, length-append, length-take, length-drop}
use lib.Seq.{paste, slice, take_all, take-nil, take-suc-set, take-append-le, take-take, take-paste}
use lib.Seq.{drop_at, drop-drop, drop-paste, drop-set-lt, length-take-le}
use borrow.Rule.Slice.PartMut.{put_mid}
use Rattle.trees.specs.Lists.{zeros}
use Rattle.runs.specs.Moves.{put_at, close_at}

slice_take : (a t : ℕ) (w : List ℕ) → slice a t w ≡ take (t - a) (drop a w)
slice_take zero t w = ap (λ (n : ℕ). take n w) (sym (sub-zero t))
slice_take (suc a) zero w = ap (λ (n : ℕ). take n (drop (suc a) w)) (sym (zero-sub (suc a)))
slice_take (suc a) (suc t) [] = sym (take-nil (suc t - suc a))
slice_take (suc a) (suc t) (x ∷ w) = slice_take a t w ∙ ap (λ (n : ℕ). take n (drop a w)) (sym (suc-sub-suc t a))

-- words lowered over s words at f, and the s words after them cleared
pub close_law : (w : List ℕ) (f t s : ℕ) {w₁ ys : List ℕ} → f + s ≤ t → t ≤ length w
    → w₁ ≡ paste w f (drop (f + s) w) (t - (f + s)) → ys ≡ zeros (length (take (t - (t - s)) (drop (t - s) w₁)))
    → put_mid (t - s) (t - (t - s)) w₁ ys ≡ close_at w f t s
close_law w f t s {w₁} {ys} h k e₁ e₂ =
    let c : ℕ = t - (f + s) in
    let l : ℕ = t - s in
    let i : f + c ≡ l = omega arith in
    let j : l + (t - l) ≡ t = omega arith in
    let src : List ℕ = drop (f + s) w in
    let hs : c ≤ length src = simp length-drop (omega arith) in
    let a₁ : take l w₁ ≡ take f w ++ slice (f + s) t w = ap (λ (n : ℕ). take n w₁) (sym i)
    ∙ rw e₁ (take-paste w f src c (omega arith) hs ∙ ap (λ (x : List ℕ). take f w ++ x) (sym (slice_take (f + s) t w))) in
    let b : drop l w₁ ≡ drop l w = ap (λ (n : ℕ). drop n w₁) (sym i) ∙ rw e₁ (drop-paste w f src c (omega arith) hs) ∙ ap (λ (n : ℕ). drop n w) i in
    let a₂ : drop (t - l) (drop l w₁) ≡ drop t w = ap (drop (t - l)) b ∙ drop-drop (t - l) l w ∙ ap (λ (n : ℕ). drop n w) j in
    let a₃ : length (take (t - l) (drop l w₁)) ≡ s = rw b (simp (length-take, length-drop) (omega arith)) in
    let a₄ : ys ≡ zeros s = e₂ ∙ ap zeros a₃ in
    rw (a₁, a₂, a₄) (append_assoc (take f w) (slice (f + s) t w) (zeros s ++ drop t w))

-- words laid over a part of as many
pub put_paste : (w s : List ℕ) (a e k : ℕ) → length s ≡ k → e ≡ a + k → put_mid a (e - a) w s ≡ paste w a s k
put_paste w s a e k l q =
    let i : a + (e - a) ≡ a + k = omega arith in
    rw (drop-drop (e - a) a w, i, take_all k s (le_of_eq l)) (sym (append_assoc (take a w) s (drop (a + k) w)))

-- the gap that moving the words from f up to t up by d + 1 leaves, filled with a slot
pub put_law : (w row : List ℕ) (f t v d : ℕ) {w₁ w₂ : List ℕ} → length row ≡ d → f ≤ t → t + (d + 1) ≤ length w
    → w₁ ≡ paste w (f + (d + 1)) (drop f w) (t - f) → w₂ ≡ paste (set w₁ f v) (f + 1) row d → w₂ ≡ put_at w f t (v ∷ row)
put_law w row f t v d {w₁} {w₂} ld h k e₁ e₂ =
    let rest : List ℕ = slice f t w ++ drop (t + (d + 1)) w in
    let l₁ : length (take (f + (d + 1)) w) ≡ f + (d + 1) = length-take-le (f + (d + 1)) w (omega arith) in
    let up : f + (d + 1) + (t - f) ≡ t + (d + 1) = omega arith in
    let e : w₁ ≡ take (f + (d + 1)) w ++ rest = e₁ ∙ rw (up, ← slice_take f t w) (append_assoc (take (f + (d + 1)) w) (slice f t w) (drop (t + (d + 1)) w)) in
    let front : take f w₁ ≡ take f w = rw (e, take-append-le f (take (f + (d + 1)) w) rest (omega arith)) (take-take f (f + (d + 1)) w (omega arith)) in
    let back : drop (f + (d + 1)) w₁ ≡ rest = rw e (drop_at (take (f + (d + 1)) w) rest (f + (d + 1)) l₁) in
    let lw : f < length w₁ = let l = ap length e in let l₂ = length-append (take (f + (d + 1)) w) rest in omega arith in
    let a₁ : take (f + 1) (set w₁ f v) ≡ take f w ++ (v ∷ []) = rw (add-one, take-suc-set w₁ f v lw, front) refl in
    let i : f + 1 + d ≡ f + (d + 1) = omega arith in
    let a₂ : drop (f + 1 + d) (set w₁ f v) ≡ rest = rw (i, drop-set-lt (f + (d + 1)) w₁ f v (omega arith)) back in
    e₂ ∙ rw (a₁, a₂, take_all d row (le_of_eq ld)) (simp (append_assoc, add-one, ← ld) refl)
