-- Numbers as bytes: written and read again, and read and written again.
use Rattle.std.proofs.Common.{◌≡◌, ◌<◌, ◌+◌, ◌*◌, ◌/◌, ◌%◌, ℕ, List, [], ◌∷◌, refl, arith}
use Rattle.byteorder.specs.Endian.{big_number}
use Rattle.r2_base.specs.Numbers.{u16_bytes, u32_bytes}

-- two bytes are those of their number
pub u16_bytes-number : (a b : ℕ) (rest : List ℕ) → a < 256 → b < 256 → u16_bytes (big_number 2 (a ∷ b ∷ rest)) ≡ a ∷ b ∷ []
unfolding u16_bytes
u16_bytes-number a b rest ha hb =
    let high : (a * 256 + (b * 1 + 0)) / 256 % 256 ≡ a = omega arith in
    let low : (a * 256 + (b * 1 + 0)) % 256 ≡ b = omega arith in
    rw (high, low) refl

-- four bytes are those of their number
pub u32_bytes-number : (a b c d : ℕ) (rest : List ℕ) → a < 256 → b < 256 → c < 256 → d < 256 → u32_bytes (big_number 4 (a ∷ b ∷ c ∷ d ∷ rest)) ≡ a ∷ b ∷ c ∷ d ∷ []
unfolding u32_bytes
u32_bytes-number a b c d rest ha hb hc hd =
    let n : ℕ = a * 16777216 + (b * 65536 + (c * 256 + (d * 1 + 0))) in
    let first : n / 16777216 % 256 ≡ a = omega arith in
    let second : n / 65536 % 256 ≡ b = omega arith in
    let third : n / 256 % 256 ≡ c = omega arith in
    let fourth : n % 256 ≡ d = omega arith in
    rw (first, second, third, fourth) refl
