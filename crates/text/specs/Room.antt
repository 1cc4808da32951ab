-- The bytes that the parts of a line take at most.
use Rattle.std.specs.Prelude.{ℕ}

-- the bytes that a buffer must have for any line: that of a node has three fields in front, at most 512 samples and a line feed
abbrev pub line_bytes : ℕ
line_bytes = 4096

-- the most bytes of a space and a number of 64 bits
abbrev pub field_bytes : ℕ
field_bytes = 21

-- the most bytes of a space and a sample
abbrev pub sample_bytes : ℕ
sample_bytes = 4
