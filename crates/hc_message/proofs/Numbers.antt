-- The numbers that bytes begin with: read and encoded again, and encoded and read again.
use Rattle.std.proofs.Common.{◌≡◌, ℕ, ◌^◌, ◌<◌, ◌≤◌, ltb, false, List, ◌++◌, length, drop, Ok, Err, refl, ap, subst, ◌∙◌, arith}
use Rattle.std.proofs.lemmas.Bool.{ltb-false, le-ltb, lt-ltb}
use Rattle.std.proofs.lemmas.List.{drop_at, length-append}
use Rattle.byteorder.specs.Endian.{big_number}
use Rattle.r2_base.specs.Numbers.{u16_bytes, u32_bytes, u64_bytes, AreBytes}
use Rattle.r2_base.proofs.NumberBytes.{IsWide, wide16, wide32, wide64, wide-again, wide-begin}
use Rattle.hc_message.specs.declared.field_fault.FieldFault.TheVariants.{Short}
use Rattle.hc_message.specs.Fields.{front_wide, front_u16, front_u32, front_u64}
use Rattle.hc_message.proofs.Takes.{AreBytes-drop, Takes, guard_ok}

wide_takes : (size limit : ℕ) (text : ℕ → List ℕ) → IsWide size limit text → (bytes : List ℕ) (x : ℕ × List ℕ) → AreBytes bytes → front_wide size bytes ≡ Ok x → Takes bytes (text x.0) x.1 × (x.0 < limit)
wide_takes size limit text wide bytes x are e =
    let g = guard_ok (ltb (length bytes) size) Short (big_number size bytes, drop size bytes) x e in
    let long : size ≤ length bytes = ltb-false _ _ g.0 in
    subst (λ (y : ℕ × List ℕ). Takes bytes (text y.0) y.1 × (y.0 < limit)) g.1 (
      record { parts = wide-begin size limit text wide bytes are long; rest_are = AreBytes-drop size bytes are },
      wide.below bytes are,
    )

wide_again : (size limit : ℕ) (text : ℕ → List ℕ) → IsWide size limit text → (n : ℕ) (rest : List ℕ) → n < limit → front_wide size (text n ++ rest) ≡ Ok (n, rest)
wide_again size limit text wide n rest fits =
    let len = wide.len n in
    let long : ltb (length (text n ++ rest)) size ≡ false = le-ltb _ _ (omega (arith, length-append (text n) rest)) in
    rw (long, wide-again size limit text wide n rest fits, drop_at (text n) rest size len) refl

pub u16_takes : (bytes : List ℕ) (x : ℕ × List ℕ) → AreBytes bytes → front_u16 bytes ≡ Ok x → Takes bytes (u16_bytes x.0) x.1 × (x.0 < 2 ^ 16)
unfolding front_u16
u16_takes = wide_takes 2 (2 ^ 16) u16_bytes wide16

pub u16_again : (n : ℕ) (rest : List ℕ) → n < 2 ^ 16 → front_u16 (u16_bytes n ++ rest) ≡ Ok (n, rest)
unfolding front_u16
u16_again = wide_again 2 (2 ^ 16) u16_bytes wide16

pub u32_takes : (bytes : List ℕ) (x : ℕ × List ℕ) → AreBytes bytes → front_u32 bytes ≡ Ok x → Takes bytes (u32_bytes x.0) x.1 × (x.0 < 2 ^ 32)
unfolding front_u32
u32_takes = wide_takes 4 (2 ^ 32) u32_bytes wide32

pub u32_again : (n : ℕ) (rest : List ℕ) → n < 2 ^ 32 → front_u32 (u32_bytes n ++ rest) ≡ Ok (n, rest)
unfolding front_u32
u32_again = wide_again 4 (2 ^ 32) u32_bytes wide32

pub u64_takes : (bytes : List ℕ) (x : ℕ × List ℕ) → AreBytes bytes → front_u64 bytes ≡ Ok x → Takes bytes (u64_bytes x.0) x.1 × (x.0 < 2 ^ 64)
unfolding front_u64
u64_takes = wide_takes 8 (2 ^ 64) u64_bytes wide64

pub u64_again : (n : ℕ) (rest : List ℕ) → n < 2 ^ 64 → front_u64 (u64_bytes n ++ rest) ≡ Ok (n, rest)
unfolding front_u64
u64_again = wide_again 8 (2 ^ 64) u64_bytes wide64

-- bytes that begin with a number's, and bytes that are too few
pub front_u16_first : (bytes : List ℕ) (n : ℕ) (rest : List ℕ) → n < 2 ^ 16 → bytes ≡ u16_bytes n ++ rest → front_u16 bytes ≡ Ok (n, rest)
front_u16_first bytes n rest fits e = ap front_u16 e ∙ u16_again n rest fits

pub front_u16_short : (bytes : List ℕ) → length bytes < 2 → front_u16 bytes ≡ Err Short
unfolding front_u16
front_u16_short bytes few = rw (lt-ltb (length bytes) 2 few) refl

pub front_u32_first : (bytes : List ℕ) (n : ℕ) (rest : List ℕ) → n < 2 ^ 32 → bytes ≡ u32_bytes n ++ rest → front_u32 bytes ≡ Ok (n, rest)
front_u32_first bytes n rest fits e = ap front_u32 e ∙ u32_again n rest fits

pub front_u32_short : (bytes : List ℕ) → length bytes < 4 → front_u32 bytes ≡ Err Short
unfolding front_u32
front_u32_short bytes few = rw (lt-ltb (length bytes) 4 few) refl

pub front_u64_first : (bytes : List ℕ) (n : ℕ) (rest : List ℕ) → n < 2 ^ 64 → bytes ≡ u64_bytes n ++ rest → front_u64 bytes ≡ Ok (n, rest)
front_u64_first bytes n rest fits e = ap front_u64 e ∙ u64_again n rest fits

pub front_u64_short : (bytes : List ℕ) → length bytes < 8 → front_u64 bytes ≡ Err Short
unfolding front_u64
front_u64_short bytes few = rw (lt-ltb (length bytes) 8 few) refl
