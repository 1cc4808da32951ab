-- Where slots end, in what order they stand, and what a well-formed study has room for. Assumes nothing.
use Rattle.std.specs.Prelude.{ℕ, suc, ◌+◌, ◌<◌, ◌≤◌, ◌≡◌, List, false, length}
use Rattle.std.proofs.Common.{mul-le-mul_right, add-one, arith}
use Rattle.runs.specs.Words.{samples, in_force, header_words, slot_words, slot_start, most_runs, full}
use Rattle.runs.specs.Formed.{Formed}
use Rattle.runs.proofs.WordLaws.{capacity_most, capacity_room, room_exactly, slot_next}

-- a slot ends within the words in which all k slots do
pub slot_within : (n i k len : ℕ) → i < k → slot_start n k ≤ len → slot_start n i + slot_words n ≤ len
slot_within n i k len h l = omega (arith, slot_next n i, mul-le-mul_right (slot_words n) h)

-- slots stand in the order of their numbers
pub slot_order : (n i k : ℕ) → i ≤ k → slot_start n i ≤ slot_start n k
slot_order n i k h = omega (arith, mul-le-mul_right (slot_words n) h)

pub slot_after : (n i : ℕ) → slot_start n (i + 1) ≡ slot_start n i + slot_words n
slot_after n i = rw add-one (slot_next n i)

-- ---- what a well-formed study has room for

module _ {w : List ℕ} (f : Formed w) where
  -- its header
  pub formed_long : header_words ≤ length w
  formed_long = omega (arith, capacity_room (length w) (samples w) (in_force w) f.one f.fits)

module _ (w : List ℕ) (f : Formed w) where
  pub formed_fits : slot_start (samples w) (in_force w) ≤ length w
  formed_fits = capacity_room (length w) (samples w) (in_force w) f.one f.fits

  pub formed_few : in_force w ≤ most_runs
  formed_few = omega (arith, f.fits, capacity_most (length w) (samples w))

  -- where it is not full, for one slot more
  pub next_fits : full w ≡ false → (in_force w < most_runs) × (slot_start (samples w) (in_force w) + slot_words (samples w) ≤ length w)
  next_fits e =
      let c = (room_exactly w f.fits).0 e in (
        omega (arith, capacity_most (length w) (samples w)),
        omega (arith, slot_next (samples w) (in_force w), capacity_room (length w) (samples w) (suc (in_force w)) f.one c),
      )
