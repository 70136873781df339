-- The text of an address, part by part.
use Rattle.std.proofs.Common.{◌≡◌, ℕ, zero, suc, ◌<◌, ◌^◌, List, [], ◌∷◌, ◌++◌, get_or, arith, refl, ap, ◌∙◌, decimal, append_assoc, codes, false}
use Rattle.std.proofs.lemmas.Nat.{be_bytes_4, from_be_bytes-to_be_bytes_4}
use Rattle.std.specs.Char.{is_ascii_digit}
use Rattle.std.specs.Int.{w32, byte_at, to_be_bytes, from_be_bytes}
use Rattle.r2_base.proofs.Decimals.{decimal_without}
use Rattle.r2_base.specs.Addr.{ip_text, addr_text}
use Rattle.r2_base.specs.Text.{IsSplit}
use Rattle.r2_base.specs.declared.addr.Addr.{Addr}

-- an octet, the byte that ends it and the rest are a split there
pub octet_split : (end n : ℕ) (text rest : List ℕ) → is_ascii_digit end ≡ false → n < 256 → text ≡ decimal n ++ end ∷ rest
    → IsSplit end text (decimal n) rest
octet_split end n text rest other fits same = record {
  joined = same;
  first = decimal_without end n (omega arith) other;
}

-- the text after each dot
abbrev pub from_d : Addr → List ℕ
from_d a = decimal (byte_at 0 a.ip) ++ 58 ∷ decimal a.port

abbrev pub from_c : Addr → List ℕ
from_c a = decimal (byte_at 1 a.ip) ++ 46 ∷ from_d a

abbrev pub from_b : Addr → List ℕ
from_b a = decimal (byte_at 2 a.ip) ++ 46 ∷ from_c a

pub addr_text-parts : (a : Addr) → addr_text a ≡ decimal (byte_at 3 a.ip) ++ 46 ∷ from_b a
unfolding addr_text ip_text
addr_text-parts a = simp append_assoc

-- the four bytes give the number back
pub ip_from_bytes : (ip : ℕ) → ip < 2 ^ 32 → from_be_bytes w32 (byte_at 3 ip ∷ byte_at 2 ip ∷ byte_at 1 ip ∷ byte_at 0 ip ∷ []) ≡ ip
ip_from_bytes ip fits = from_be_bytes-to_be_bytes_4 ip fits

all_below : (a b c d : ℕ) → a < 256 → b < 256 → c < 256 → d < 256 → (i : ℕ) → get_or (a ∷ b ∷ c ∷ d ∷ []) i 0 < 256
all_below a b c d fits_a fits_b fits_c fits_d zero = fits_a
all_below a b c d fits_a fits_b fits_c fits_d (suc zero) = fits_b
all_below a b c d fits_a fits_b fits_c fits_d (suc (suc zero)) = fits_c
all_below a b c d fits_a fits_b fits_c fits_d (suc (suc (suc zero))) = fits_d
all_below a b c d fits_a fits_b fits_c fits_d (suc (suc (suc (suc i)))) = omega arith

-- four numbers below 256 are the bytes of what they give
pub bytes_of_ip : (a b c d ip : ℕ) → a < 256 → b < 256 → c < 256 → d < 256 → ip ≡ from_be_bytes w32 (a ∷ b ∷ c ∷ d ∷ [])
    → (byte_at 3 ip ≡ a) × (byte_at 2 ip ≡ b) × (byte_at 1 ip ≡ c) × (byte_at 0 ip ≡ d)
bytes_of_ip a b c d ip fits_a fits_b fits_c fits_d is =
    let same : to_be_bytes w32 ip ≡ a ∷ b ∷ c ∷ d ∷ [] = be_bytes_4 (a ∷ b ∷ c ∷ d ∷ []) ip refl (all_below a b c d fits_a fits_b fits_c fits_d) is in
    (ap (λ t. get_or t 0 0) same, ap (λ t. get_or t 1 0) same, ap (λ t. get_or t 2 0) same, ap (λ t. get_or t 3 0) same)

-- parts that were read one after another are the text of what they give
pub addr_text-from_parts : (a b c d ip port : ℕ) (text behind_a behind_b behind_c behind_d : List ℕ) → a < 256 → b < 256 → c < 256 → d < 256
    → ip ≡ from_be_bytes w32 (a ∷ b ∷ c ∷ d ∷ [])
    → text ≡ decimal a ++ 46 ∷ behind_a → behind_a ≡ decimal b ++ 46 ∷ behind_b → behind_b ≡ decimal c ++ 46 ∷ behind_c
    → behind_c ≡ decimal d ++ 58 ∷ behind_d → behind_d ≡ decimal port → text ≡ addr_text (record { ip = ip; port = port })
addr_text-from_parts a b c d ip port text behind_a behind_b behind_c behind_d fits_a fits_b fits_c fits_d is at_a at_b at_c at_d at_port =
    let bytes = bytes_of_ip a b c d ip fits_a fits_b fits_c fits_d is in
    let parts = addr_text-parts (record { ip = ip; port = port }) in
    rw (parts, bytes.0, bytes.1, bytes.2, bytes.3, at_a, at_b, at_c, at_d, at_port) refl

-- the bytes and the port of an address give it back
pub addr_from_parts : (addr : Addr) (a b c d ip port : ℕ) → addr.ip < 2 ^ 32 → a ≡ byte_at 3 addr.ip → b ≡ byte_at 2 addr.ip → c ≡ byte_at 1 addr.ip
    → d ≡ byte_at 0 addr.ip → ip ≡ from_be_bytes w32 (a ∷ b ∷ c ∷ d ∷ []) → port ≡ addr.port → record { ip = ip; port = port } ≡ addr
addr_from_parts addr a b c d ip port fits at_a at_b at_c at_d is at_port =
    let same : ip ≡ addr.ip = is ∙ rw (at_a, at_b, at_c, at_d) (ip_from_bytes addr.ip fits) in
    λ i. record { ip = same i; port = at_port i }

-- what is printed of four bytes and a port, piece by piece
abbrev pub printed : List ℕ → ℕ → List ℕ
printed bytes port =
    decimal (get_or bytes 0 0) ++ (codes "." ++ (decimal (get_or bytes 1 0) ++ (codes "." ++ (decimal (get_or bytes 2 0) ++ (codes "."
    ++ (decimal (get_or bytes 3 0) ++ (codes ":" ++ decimal port)))))))

pub printed_is : (a : Addr) (bytes : List ℕ) → bytes ≡ to_be_bytes w32 a.ip → printed bytes a.port ≡ addr_text a
printed_is a bytes same = rw (same, addr_text-parts a) refl
