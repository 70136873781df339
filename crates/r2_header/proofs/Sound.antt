-- A valid header's bytes pass each check, and read as the header.
use Rattle.std.proofs.Common.{◌≡◌, ◌≤◌, ◌+◌, ◌*◌, ◌/◌, ◌&&◌, ℕ, Bool, true, List, ◌++◌, Option, Some, None, is_some, Ok, length, slice_index, refl, ap, sym, subst, ◌∙◌, arith}
use Rattle.std.proofs.lemmas.Bool.{le-leb}
use Rattle.std.proofs.lemmas.List.{length-append}
use Rattle.r2_base.specs.declared.addr.Addr.{Addr}
use Rattle.r2_header.specs.declared.header.Header.{Header}
use Rattle.r2_header.specs.declared.packet.Packet.{Packet}
use Rattle.r2_header.specs.declared.packet.Packet.TheVariants.{Req0, Reply, ReqRdy, ReqN, Feedback, Reject, Ordering, Recover}
use Rattle.r2_base.specs.Numbers.{u16_bytes, u32_bytes}
use Rattle.r2_header.specs.Header.{IsValid, client_bytes, kind_bytes, size_with, spelling}
use Rattle.r2_header.specs.Laws.{FitsHeader, SpellingIsRead}
use Rattle.r2_header.specs.Reading.{field_checks, fields_at, first_fault, form_checks, header_at, is_zero_padded, is_size, ok_unless}
use Rattle.r2_header.specs.Table.{type_number}
use Rattle.r2_header.proofs.Checks.{PassesAll, none_fails}
use Rattle.r2_header.proofs.Fields.{fields_at-spelling, flags_of-others}
use Rattle.r2_header.proofs.Spelling.{length-spelling}
use Rattle.r2_header.proofs.Tests.{flags_fit-valid, numbers-most, policies-most, true-id_fits, true-is_within, true-last_fits}

-- both tests hold
both_true : (a b : Bool) → a ≡ true → b ≡ true → (a && b) ≡ true
both_true a b p q = rw (p, q) refl

-- no type has a number above 7
type_number-most : (p : Packet) → type_number p ≤ 7
type_number-most Req0 = omega arith
type_number-most Reply = omega arith
type_number-most ReqRdy = omega arith
type_number-most ReqN = omega arith
type_number-most Feedback = omega arith
type_number-most Reject = omega arith
type_number-most Ordering = omega arith
type_number-most Recover = omega arith

-- the size is one of the two
is_size-with : (client : Option Addr) → is_size (size_with client) ≡ true
is_size-with None = refl
is_size-with (Some a) = refl

-- and at least 8
size_with-least : (client : Option Addr) → 8 ≤ size_with client
size_with-least None = omega arith
size_with-least (Some a) = omega arith

-- the bytes after the client's address are zero
is_zero_padded-spelling : (h : Header) (client : Option Addr) (rest : List ℕ) → h.client ≡ client → is_zero_padded (spelling h ++ rest) ≡ true
unfolding spelling kind_bytes u16_bytes u32_bytes client_bytes
is_zero_padded-spelling h None rest e = rw e refl
is_zero_padded-spelling h (Some a) rest e = rw e refl

-- a valid header's bytes pass each check
passes-spelling : (h : Header) (rest : List ℕ) → IsValid h → PassesAll (spelling h ++ rest) h
unfolding spelling kind_bytes
passes-spelling h rest valid =
    let counted = length-spelling h in
    let joined = length-append (spelling h) rest in
    let least = size_with-least h.client in
    let low_policy = policies-most h.packet (is_some h.client) in
    let within = valid.policy.high in
    let type : (type_number h.packet * 16 + h.policy) / 16 ≡ type_number h.packet = omega arith in
    record {
      least = le-leb 8 (length (spelling h ++ rest)) (omega arith);
      first_byte = refl;
      size = is_size-with h.client;
      room = le-leb (size_with h.client) (length (spelling h ++ rest)) (omega arith);
      table =
          both_true _ _ (both_true _ _ (rw type (le-leb (type_number h.packet) 7 (type_number-most h.packet))) (true-is_within _ _ valid.policy)) (true-id_fits h.packet h.id valid.id);
      flags =
          both_true _ _ (flags_of-others h.first h.last) (flags_fit-valid h.packet h.first h.last h.number valid.number valid.last);
      count = both_true _ _ (true-is_within _ _ valid.number) (true-last_fits h.first h.last h.number valid.last);
      extension = is_zero_padded-spelling h h.client rest refl;
    }

-- bytes whose fields are a header's, and that pass each check against it, read as it
header_at-passed : (bytes : List ℕ) (h : Header) → fields_at bytes ≡ h → PassesAll bytes h → header_at bytes ≡ Ok (h, slice_index bytes 1)
unfolding header_at
header_at-passed bytes h e p =
    subst
    (λ (k : Header). ok_unless {A = Header × ℕ} (first_fault (form_checks bytes ++ field_checks bytes k)) (k, slice_index bytes 1) ≡ Ok (h, slice_index bytes 1))
    (sym e)
    (rw (none_fails bytes h p) refl)

-- the second byte is the size
size-spelling : (h : Header) (rest : List ℕ) → slice_index (spelling h ++ rest) 1 ≡ length (spelling h)
unfolding spelling kind_bytes
size-spelling h rest = sym (length-spelling h)

-- a valid header's bytes, whatever follows them, read as that header and their number
pub spelling_is_read : SpellingIsRead
spelling_is_read h bytes rest fits spells =
    let low_policy = policies-most h.packet (is_some h.client) in
    let within = spells.valid.policy.high in
    let low_number = numbers-most h.packet h.first in
    let counted = spells.valid.number.high in
    let e = fields_at-spelling h rest (omega arith) (omega arith) fits in
    let read = header_at-passed (spelling h ++ rest) h e (passes-spelling h rest spells.valid) in
    subst
    (λ (b : List ℕ). header_at (b ++ rest) ≡ Ok (h, length b))
    (sym spells.same)
    (read ∙ ap (λ (n : ℕ). Ok (h, n)) (size-spelling h rest))

-- where bytes begin with those of a valid header, it is read back
pub read_back : (h : Header) (bytes rest : List ℕ) (n : ℕ) → FitsHeader h → IsValid h → n ≡ size_with h.client → bytes ≡ spelling h ++ rest → header_at bytes ≡ Ok (h, n)
read_back h bytes rest n fits valid size e =
    let read = spelling_is_read h (spelling h) rest fits (record { valid = valid; same = refl }) in
    let counted : length (spelling h) ≡ n = length-spelling h ∙ sym size in
    ap header_at e ∙ read ∙ ap (λ (k : ℕ). Ok (h, k)) counted
