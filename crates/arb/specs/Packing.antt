-- A verdict as one number, for C.
use Rattle.std.specs.Prelude.{ℕ, ◌+◌, ◌*◌, ◌/◌, ◌%◌, cond, eqb}
use Rattle.trees.specs.Checks.{Verdict, accepted, refused, counted, wrote}

-- how many numbers, places and counts a packed answer can distinguish
abbrev pub numbers : ℕ
numbers = 256

abbrev pub places : ℕ
places = 72057594037927936

abbrev pub counts : ℕ
counts = 65536

-- the low 8 bits are the refusal's number, 0 for accepted, and above them stands the place, or the length of a text that is written; an accepted
-- comparison has its three counts in bits 16 to 31, 32 to 47 and 48 to 63
abbrev pub packed : Verdict → ℕ
packed accepted = 0
packed (refused k p) = k % numbers + numbers * (p % places)
packed (counted a b c) = 65536 * (a % counts) + (4294967296 * (b % counts) + 281474976710656 * (c % counts))
packed (wrote k) = numbers * (k % places)

-- what a packed answer says, where `said` is what it says if it is no refusal
abbrev pub unpacked_by : (ℕ → Verdict) → ℕ → Verdict
unpacked_by said x = cond (eqb (x % numbers) 0) (said x) (refused (x % numbers) (x / numbers))

-- of a comparison, of writing, and of any other call
abbrev pub counts_in : ℕ → Verdict
counts_in x = counted (x / 65536 % counts) (x / 4294967296 % counts) (x / 281474976710656)

abbrev pub unpacked_counts : ℕ → Verdict
unpacked_counts x = unpacked_by counts_in x

abbrev pub length_in : ℕ → Verdict
length_in x = wrote (x / numbers)

abbrev pub unpacked_length : ℕ → Verdict
unpacked_length x = unpacked_by length_in x

abbrev pub unpacked : ℕ → Verdict
unpacked x = unpacked_by (λ y. accepted) x
