-- A valid header's bytes: how many there are.
use Rattle.std.proofs.Common.{◌≡◌, ◌+◌, ℕ, List, ◌++◌, length, take, Option, None, Some, refl, ap, sym, ◌∙◌, arith}
use Rattle.std.proofs.Math.Seq.{take-append_seam}
use Rattle.r2_header.specs.declared.header.Header.{Header}
use Rattle.r2_base.specs.declared.addr.Addr.{Addr}
use Rattle.r2_base.specs.Numbers.{u16_bytes, u32_bytes}
use Rattle.r2_header.specs.Header.{IsValid, Spells, client_bytes, kind_bytes, size_with, spelling}

-- the client's bytes are what the size counts above 8
pub length-client_bytes : (client : Option Addr) → 8 + length (client_bytes client) ≡ size_with client
unfolding client_bytes u16_bytes u32_bytes
length-client_bytes None = refl
length-client_bytes (Some a) = refl

-- the size counts the header's bytes
pub length-spelling : (h : Header) → length (spelling h) ≡ size_with h.client
unfolding spelling kind_bytes u16_bytes
length-spelling h = let e = length-client_bytes h.client in omega (arith, e)

-- where bytes begin with those of a header, the first ones, as many as its size, encode it
pub Spells_front : (h : Header) (bytes rest : List ℕ) (n : ℕ) → IsValid h → n ≡ size_with h.client → bytes ≡ spelling h ++ rest → Spells h (take n bytes)
Spells_front h bytes rest n valid size e =
    let counted : n ≡ length (spelling h) = size ∙ sym (length-spelling h) in
    record {
      valid = valid;
      same = ap (λ (k : ℕ). take k bytes) counted ∙ ap (take (length (spelling h))) e ∙ take-append_seam (spelling h) rest;
    }
