-- The bytes of numbers in wire formats, the greatest first.
use Rattle.std.specs.Prelude.{ℕ, ◌<◌, List, slice_index}
use Rattle.byteorder.specs.Endian.{big_bytes}

-- the two bytes of a number below 2^16
unfoldable pub u16_bytes : ℕ → List ℕ
u16_bytes n = big_bytes 2 n

-- the four bytes of a number below 2^32
unfoldable pub u32_bytes : ℕ → List ℕ
u32_bytes n = big_bytes 4 n

-- the eight bytes of a number below 2^64
unfoldable pub u64_bytes : ℕ → List ℕ
u64_bytes n = big_bytes 8 n

-- each item is a byte
abbrev pub AreBytes : List ℕ → Type 0
AreBytes bytes = (i : ℕ) → slice_index bytes i < 256
