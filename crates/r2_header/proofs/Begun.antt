-- What passes each check begins with the bytes of its fields.
use Rattle.std.proofs.Common.{◌≡◌, ◌≤◌, ◌<◌, ◌+◌, ◌*◌, ◌/◌, ◌%◌, ◌==◌, ◌&&◌, ◌⊎◌, inl, inr, ℕ, zero, suc, true, false, List, [], ◌∷◌, All, Ok, slice_index, refl, sym, subst, arith}
use Rattle.std.proofs.lemmas.Bool.{leb-true}
use Rattle.std.proofs.lemmas.Bool.Decides.{nat_tests}
use Rattle.r2_header.specs.declared.header.Header.{Header}
use Rattle.r2_header.specs.Header.{IsValid, client_bytes, flags_of, kind_bytes, spelling}
use Rattle.r2_header.specs.Laws.{BeginsWith, WhatIsReadIsSpelled}
use Rattle.r2_header.specs.Reading.{client_at, fields_at, header_at, is_size, packet_numbered, u16_at, u32_at}
use Rattle.r2_header.specs.Table.{type_number}
use Rattle.r2_header.proofs.Checks.{PassesAll, all_pass, ok_unless-ok}
use Rattle.r2_header.proofs.Numbers.{u16_bytes-number, u32_bytes-number}
use Rattle.r2_header.proofs.Tests.{and_parts, id_fits-true, is_within-true, last_fits-true}

-- a type's number up to 7 is that of its type
type_number-packet_numbered : (n : ℕ) → n ≤ 7 → type_number (packet_numbered n) ≡ n
type_number-packet_numbered zero h = refl
type_number-packet_numbered (suc zero) h = refl
type_number-packet_numbered (suc (suc zero)) h = refl
type_number-packet_numbered (suc (suc (suc zero))) h = refl
type_number-packet_numbered (suc (suc (suc (suc zero)))) h = refl
type_number-packet_numbered (suc (suc (suc (suc (suc zero))))) h = refl
type_number-packet_numbered (suc (suc (suc (suc (suc (suc zero)))))) h = refl
type_number-packet_numbered (suc (suc (suc (suc (suc (suc (suc zero))))))) h = refl
type_number-packet_numbered (suc (suc (suc (suc (suc (suc (suc (suc n)))))))) h = absurd (omega arith)

-- the third byte is its type's number and its policy
kind_byte : (b : ℕ) → b / 16 ≤ 7 → type_number (packet_numbered (b / 16)) * 16 + b % 16 ≡ b
kind_byte b h = let e = type_number-packet_numbered (b / 16) h in omega (arith, e)

-- the flags in a multiple of 0x40
flags_quarter : (q b : ℕ) → q < 4 → b ≡ q * 64 → flags_of (b / 0x80 % 2 == 1) (b / 0x40 % 2 == 1) ≡ b
flags_quarter zero b h e = rw e refl
flags_quarter (suc zero) b h e = rw e refl
flags_quarter (suc (suc zero)) b h e = rw e refl
flags_quarter (suc (suc (suc zero))) b h e = rw e refl
flags_quarter (suc (suc (suc (suc q)))) b h e = absurd (omega arith)

-- the fourth byte is that of its flags, where it has no other bit
flags_byte : (b : ℕ) → b < 256 → (b % 0x40 == 0) ≡ true → flags_of (b / 0x80 % 2 == 1) (b / 0x40 % 2 == 1) ≡ b
flags_byte b h e =
    let none : b % 64 ≡ 0 = grind (arith, nat_tests) in
    flags_quarter (b / 64) b (omega arith) (omega arith)

-- a header that passes the checks is valid
IsValid-passed : (bytes : List ℕ) (h : Header) → PassesAll bytes h → IsValid h
IsValid-passed bytes h p =
    let table = and_parts _ _ p.table in
    let front = and_parts _ _ table.0 in
    let count = and_parts _ _ p.count in
    record {
      policy = is_within-true _ _ front.1;
      id = id_fits-true h.packet h.id table.1;
      number = is_within-true _ _ count.0;
      last = last_fits-true h.first h.last h.number count.1;
    }

-- the bytes of a header of eight
abbrev eight : ℕ → ℕ → ℕ → ℕ → ℕ → ℕ → ℕ → ℕ → List ℕ → List ℕ
eight m n a b c d e f rest = m ∷ n ∷ a ∷ b ∷ c ∷ d ∷ e ∷ f ∷ rest

-- eight bytes that pass the checks are those of their fields
begins_8 : (a b c d e f : ℕ) (rest : List ℕ) → All (λ x. x < 256) (eight 0x52 8 a b c d e f rest) → PassesAll (eight 0x52 8 a b c d e f rest) (fields_at (eight 0x52 8 a b c d e f rest)) → BeginsWith (fields_at (eight 0x52 8 a b c d e f rest)) 8 (eight 0x52 8 a b c d e f rest)
unfolding fields_at client_at u16_at spelling kind_bytes client_bytes
begins_8 a b c d e f rest ranges p =
    let rb : b < 256 = ranges 3 0 (omega arith) in
    let rc : c < 256 = ranges 4 0 (omega arith) in
    let rd : d < 256 = ranges 5 0 (omega arith) in
    let re : e < 256 = ranges 6 0 (omega arith) in
    let rf : f < 256 = ranges 7 0 (omega arith) in
    let table = and_parts _ _ p.table in
    let type = and_parts _ _ table.0 in
    let known : a / 16 ≤ 7 = leb-true (a / 16) 7 type.0 in
    let flags = and_parts _ _ p.flags in
    record {
      room = omega arith;
      fits = record { id = omega arith; client = tt };
      spells = record {
        valid = IsValid-passed _ _ p;
        same = rw (kind_byte a known, flags_byte b rb flags.0, u16_bytes-number c d (e ∷ f ∷ rest) rc rd, u16_bytes-number e f rest re rf) refl;
      };
    }

-- and so are sixteen
begins_16 : (a b c d e f g h i j k l : ℕ) (rest : List ℕ) → All (λ x. x < 256) (eight 0x52 16 a b c d e f (eight g h i j k l 0 0 rest)) → PassesAll (eight 0x52 16 a b c d e f (eight g h i j k l 0 0 rest)) (fields_at (eight 0x52 16 a b c d e f (eight g h i j k l 0 0 rest))) → BeginsWith (fields_at (eight 0x52 16 a b c d e f (eight g h i j k l 0 0 rest))) 16 (eight 0x52 16 a b c d e f (eight g h i j k l 0 0 rest))
unfolding fields_at client_at u16_at u32_at spelling kind_bytes client_bytes
begins_16 a b c d e f g h i j k l rest ranges p =
    let rb : b < 256 = ranges 3 0 (omega arith) in
    let rc : c < 256 = ranges 4 0 (omega arith) in
    let rd : d < 256 = ranges 5 0 (omega arith) in
    let re : e < 256 = ranges 6 0 (omega arith) in
    let rf : f < 256 = ranges 7 0 (omega arith) in
    let rg : g < 256 = ranges 8 0 (omega arith) in
    let rh : h < 256 = ranges 9 0 (omega arith) in
    let ri : i < 256 = ranges 10 0 (omega arith) in
    let rj : j < 256 = ranges 11 0 (omega arith) in
    let rk : k < 256 = ranges 12 0 (omega arith) in
    let rl : l < 256 = ranges 13 0 (omega arith) in
    let table = and_parts _ _ p.table in
    let type = and_parts _ _ table.0 in
    let known : a / 16 ≤ 7 = leb-true (a / 16) 7 type.0 in
    let flags = and_parts _ _ p.flags in
    record {
      room = omega arith;
      fits = record { id = omega arith; client = record { ip = omega arith; port = omega arith } };
      spells = record {
        valid = IsValid-passed _ _ p;
        same =
            rw (kind_byte a known, flags_byte b rb flags.0, u16_bytes-number c d (eight e f g h i j k l (0 ∷ 0 ∷ rest)) rc rd, u16_bytes-number e f (eight g h i j k l 0 0 rest) re rf, u32_bytes-number g h i j (k ∷ l ∷ 0 ∷ 0 ∷ rest) rg rh ri rj, u16_bytes-number k l (0 ∷ 0 ∷ rest) rk rl) refl;
      };
    }

-- a first byte that is tested for the protocol's, and the two sizes
magic_byte : (m : ℕ) → (m == 0x52) ≡ true → m ≡ 0x52
magic_byte m e = grind (arith, nat_tests)

size_byte : (n : ℕ) → is_size n ≡ true → (n ≡ 8) ⊎ (n ≡ 16)
size_byte n e = grind (arith, nat_tests)

-- what passes the checks on its fields begins with their bytes
abbrev Begins : List ℕ → Type 0
Begins bytes =
    All (λ x. x < 256) bytes → PassesAll bytes (fields_at bytes) → BeginsWith (fields_at bytes) (slice_index bytes 1) bytes

-- fewer bytes than a header has
too_short : {A : Type 0} → false ≡ true → A
too_short e = cc

-- the two zeros
zeros : (m n : ℕ) → (m == 0 && n == 0) ≡ true → (m ≡ 0) × (n ≡ 0)
zeros m n e =
    let parts = and_parts (m == 0) (n == 0) e in
    (grind (arith, nat_tests), grind (arith, nat_tests))

-- bytes after the first eight, where the size is 16
begins_long : (a b c d e f : ℕ) (rest : List ℕ) → Begins (eight 0x52 16 a b c d e f rest)
begins_long a b c d e f [] ranges p = too_short p.room
begins_long a b c d e f (g ∷ []) ranges p = too_short p.room
begins_long a b c d e f (g ∷ h ∷ []) ranges p = too_short p.room
begins_long a b c d e f (g ∷ h ∷ i ∷ []) ranges p = too_short p.room
begins_long a b c d e f (g ∷ h ∷ i ∷ j ∷ []) ranges p = too_short p.room
begins_long a b c d e f (g ∷ h ∷ i ∷ j ∷ k ∷ []) ranges p = too_short p.room
begins_long a b c d e f (g ∷ h ∷ i ∷ j ∷ k ∷ l ∷ []) ranges p = too_short p.room
begins_long a b c d e f (g ∷ h ∷ i ∷ j ∷ k ∷ l ∷ m ∷ []) ranges p = too_short p.room
begins_long a b c d e f (g ∷ h ∷ i ∷ j ∷ k ∷ l ∷ m ∷ n ∷ rest) ranges p =
    let zero = zeros m n p.extension in
    subst
    (λ (x : ℕ). Begins (eight 0x52 16 a b c d e f (eight g h i j k l x n rest)))
    (sym zero.0)
    (subst
    (λ (y : ℕ). Begins (eight 0x52 16 a b c d e f (eight g h i j k l 0 y rest)))
    (sym zero.1)
    (begins_16 a b c d e f g h i j k l rest))
    ranges
    p

-- bytes whose second is a size
begins_sized : (n a b c d e f : ℕ) (rest : List ℕ) → (n ≡ 8) ⊎ (n ≡ 16) → Begins (eight 0x52 n a b c d e f rest)
begins_sized n a b c d e f rest (inl s) =
    subst (λ (x : ℕ). Begins (eight 0x52 x a b c d e f rest)) (sym s) (begins_8 a b c d e f rest)
begins_sized n a b c d e f rest (inr s) =
    subst (λ (x : ℕ). Begins (eight 0x52 x a b c d e f rest)) (sym s) (begins_long a b c d e f rest)

-- bytes that pass the checks
begins : (bytes : List ℕ) → Begins bytes
begins [] ranges p = too_short p.least
begins (m ∷ []) ranges p = too_short p.least
begins (m ∷ n ∷ []) ranges p = too_short p.least
begins (m ∷ n ∷ a ∷ []) ranges p = too_short p.least
begins (m ∷ n ∷ a ∷ b ∷ []) ranges p = too_short p.least
begins (m ∷ n ∷ a ∷ b ∷ c ∷ []) ranges p = too_short p.least
begins (m ∷ n ∷ a ∷ b ∷ c ∷ d ∷ []) ranges p = too_short p.least
begins (m ∷ n ∷ a ∷ b ∷ c ∷ d ∷ e ∷ []) ranges p = too_short p.least
begins (m ∷ n ∷ a ∷ b ∷ c ∷ d ∷ e ∷ f ∷ rest) ranges p =
    subst
    (λ (x : ℕ). Begins (eight x n a b c d e f rest))
    (sym (magic_byte m p.first_byte))
    (begins_sized n a b c d e f rest (size_byte n p.size))
    ranges
    p

-- what reads as a header begins with that header's bytes
pub what_is_read_is_spelled : WhatIsReadIsSpelled
unfolding header_at
what_is_read_is_spelled h n bytes ranges e =
    let read = ok_unless-ok {A = Header × ℕ} _ _ _ e in
    let p = all_pass bytes (fields_at bytes) read.0 in
    let here = begins bytes ranges p in
    subst (λ (v : Header × ℕ). BeginsWith v.0 v.1 bytes) read.1 here

-- what reads as a header is a valid one, whatever the bytes
pub read_is_valid : (h : Header) (n : ℕ) (bytes : List ℕ) → header_at bytes ≡ Ok (h, n) → IsValid h
unfolding header_at
read_is_valid h n bytes e =
    let read = ok_unless-ok {A = Header × ℕ} _ _ _ e in
    let p = all_pass bytes (fields_at bytes) read.0 in
    subst (λ (v : Header × ℕ). IsValid v.0) read.1 (IsValid-passed bytes (fields_at bytes) p)
