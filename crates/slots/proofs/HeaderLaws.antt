-- A header stored with zeros after it. Assumes nothing.
use Prim.Native.Nat.{ℕ, ◌-◌, ◌≤◌}
use mathlib.Core.Path.{◌≡◌, refl, ap, ◌∙◌}
use mathlib.Core.List.{List, [], ◌++◌, append-nil}
use native.Mathlib.Omega.{arith}
use native.Mathlib.Nat.{le_of_eq}
use lib.ListN.{length, take, drop, drop_of_length-le, length-append, length-take, length-drop}
use borrow.Rule.Slice.PartMut.{put_mid}
use Rattle.runs.specs.Words.{header, header_words, slots, encode}
use Rattle.trees.specs.Lists.{zeros}

-- the header stored and the rest cleared
pub start_law : (w : List ℕ) (n : ℕ) {h ys : List ℕ} → header_words ≤ length w → h ≡ header n 0
    → ys ≡ zeros (length (take (length (h ++ drop header_words w) - header_words) (drop header_words (h ++ drop header_words w))))
    → put_mid header_words (length (h ++ drop header_words w) - header_words) (h ++ drop header_words w) ys ≡ encode (length w) n []
unfolding encode slots
start_law w n {h} {ys} l eh ey =
    let k : ℕ = length w - header_words in
    let d : List ℕ = drop header_words w in
    let ld : length d ≡ k = length-drop header_words w in
    let a₁ : length (header n 0 ++ d) - header_words ≡ k = omega (arith, length-append (header n 0) d, ld) in
    let a₂ : length (take k d) ≡ k = simp length-take (omega arith) in
    let a₃ : drop k d ≡ [] = drop_of_length-le d (le_of_eq ld) in
    let e : ys ≡ zeros k = ey ∙ rw (eh, a₁) (ap zeros a₂) in
    rw (eh, a₁, a₃, e, append-nil (zeros k)) refl
