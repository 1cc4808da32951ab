-- The case of RULES 10: its file is good and has its three runs. Assumes nothing.
use Rattle.std.specs.Prelude.{ℕ, ◌/◌, ◌%◌, ◌≡◌, refl, List, [], ◌∷◌, ◌++◌, true, false}
use Rattle.std.proofs.Common.{arith}
use Rattle.trees.specs.Lists.{tabulate, zeros}
use Rattle.trees.specs.Case.{row1, row2, row3}
use Rattle.trees.proofs.ListLaws.{length_zeros}
use Rattle.ascii.specs.Ascii.{ascii}
use Rattle.file.specs.Files.{word_at, file_bytes, begins, bad_file, good, file_of, slot_identifier, slot_row}
use Rattle.file.proofs.FileLaws.{sound_not_bad}

-- words as bytes, the low byte in front
unfoldable pub bytes_of : List ℕ → List ℕ
bytes_of [] = []
bytes_of (w ∷ ws) = w % 256 ∷ w / 256 ∷ bytes_of ws

-- the three runs as a file (RULES 10)
abbrev pub input : List ℕ
input = ascii "ARB" ++ bytes_of ((1 ∷ 5 ∷ 3 ∷ []) ++ (1 ∷ row1) ++ (2 ∷ row2) ++ (3 ∷ row3))

pub specimen_file : file_of input ≡ good 5 3
unfolding file_of bad_file begins word_at file_bytes bytes_of
specimen_file = refl

-- RULES 1.5: a file of 65,529 bytes is taken, here one with n = 17 and k = 936
pub specimen_most : bad_file (ascii "ARB" ++ bytes_of (1 ∷ 17 ∷ 936 ∷ []) ++ zeros 65520) ≡ false
unfolding begins word_at bytes_of
specimen_most =
    let long = length_zeros 65520 in
    sound_not_bad (ascii "ARB" ++ bytes_of (1 ∷ 17 ∷ 936 ∷ []) ++ zeros 65520)
    (record { least = omega (arith, long); most = omega (arith, long); mark = refl; version = refl; long = omega (arith, long) })

-- with a byte more it is bad (RULES 9.3)
pub specimen_long : bad_file (input ++ (0 ∷ [])) ≡ true
unfolding bad_file begins word_at file_bytes bytes_of
specimen_long = refl

pub specimen_slot : (slot_identifier input 5 2 ≡ 3) × (slot_row input 5 0 ≡ row1) × (slot_row input 5 1 ≡ row2) × (slot_row input 5 2 ≡ row3)
unfolding slot_identifier slot_row word_at file_bytes bytes_of tabulate
specimen_slot = (refl, refl, refl, refl)
