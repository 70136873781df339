-- What reads as a record is that record's bytes, and the bytes of a record in range read as it.
use Rattle.std.proofs.Common.{◌≡◌, ℕ, ◌+◌, ◌*◌, ◌≤◌, inl, inr, Bool, true, false, cond, eqb, List, [], ◌∷◌, ◌++◌, length, Result, Ok, Err, refl, sym, ap, ◌∙◌, append_assoc, length-append, arith}
use Rattle.std.specs.List.{flat_map, AllByRecursion}
use Rattle.std.proofs.lemmas.Bool.{eqb-true}
use Rattle.std.proofs.lemmas.List.{append-nil}
use Rattle.std.proofs.lemmas.List.Concat.{flat_map-cons}
use Rattle.std.proofs.lemmas.List.Elements.{recursion_from_All}
use Rattle.r2_base.specs.Numbers.{u64_bytes}
use Rattle.r2_base.proofs.NumberBytes.{length-u16_bytes, length-u64_bytes}
use Rattle.hc_message.specs.declared.field_fault.FieldFault.{FieldFault}
use Rattle.hc_message.specs.declared.field_fault.FieldFault.TheVariants as field
use Rattle.hc_message.proofs.Takes.{AreBytes-behind}
use Rattle.hc_message.proofs.Taken.{chosen}
use Rattle.hc_message.proofs.Sizes.{length-entry_bytes}
use Rattle.hc_log.specs.declared.record.Record.{Record}
use Rattle.hc_log.specs.declared.stored.Stored.{Stored}
use Rattle.hc_log.specs.Ranges.{IsInRange, IsStored}
use Rattle.hc_journal.specs.declared.record_fault.RecordFault.TheVariants.{Version, Extra, Memory}
use Rattle.hc_journal.specs.Record.{head_bytes, record_bytes, stored_bytes, record_version_1, vote_number}
use Rattle.hc_journal.specs.RecordLaws.{BytesBehindAreExtra, ExtraIsBehindARecord, FitsRecord, NoBytesWantMemory, RecordsAreShort, SpellingIsRead, WhatIsReadIsSpelled}
use Rattle.hc_journal.specs.RecordReading.{ended, front_fields, decode_record}
use Rattle.hc_journal.proofs.RecordFields.{FitsKind-most, fields_again, fields_take}

-- a record that came to its end
pub ended_ok : (read : Result (Record × List ℕ) FieldFault) (r : Record) → ended read ≡ Ok r → read ≡ Ok (r, [])
ended_ok (Ok (n, [])) r e = cc
ended_ok (Ok (n, b ∷ rest)) r e = absurd cc
ended_ok (Err field.Short) r e = absurd cc
ended_ok (Err field.Range) r e = absurd cc

-- the version that is read, and what comes after it
versioned : (v : ℕ) (bytes : List ℕ) (r : Record) → cond (eqb v record_version_1) (ended (front_fields bytes)) (Err Version) ≡ Ok r → (v ≡ record_version_1) × (front_fields bytes ≡ Ok (r, []))
versioned v bytes r e =
    elim (chosen (eqb v record_version_1) (ended (front_fields bytes)) (Err Version) (Ok r) e) [
      | inl is ↦ (eqb-true v record_version_1 is.0, ended_ok (front_fields bytes) r is.1)
      | inr other ↦ absurd cc
    ]

-- what reads as a record is that record's bytes
pub what_is_read_is_spelled : WhatIsReadIsSpelled
unfolding decode_record
what_is_read_is_spelled r [] are e = absurd cc
what_is_read_is_spelled r (v ∷ bytes) are e =
    let is = versioned v bytes r e in
    let read = fields_take bytes (r, []) (AreBytes-behind v bytes are) is.1 in
    record {
      fits = read.fits;
      spells = record {
        in_range = read.in_range;
        same = ap (λ (n : ℕ). n ∷ bytes) is.0 ∙ read.taken.parts ∙ append-nil (record_bytes r);
      };
    }

-- the bytes of a record in range, and what follows them
reads : (r : Record) (rest : List ℕ) → FitsRecord r → IsInRange r → decode_record (record_bytes r ++ rest) ≡ ended (Ok (r, rest))
unfolding decode_record record_bytes head_bytes
reads r rest fits is =
    let regrouped : (((u64_bytes r.term ++ vote_number r.vote ∷ u64_bytes r.keep) ++ length r.entries ∷ []) ++ flat_map stored_bytes r.entries) ++ rest ≡ u64_bytes r.term ++ (vote_number r.vote ∷ (u64_bytes r.keep ++ (length r.entries ∷ (flat_map stored_bytes r.entries ++ rest)))) = regroup (u64_bytes r.term) (vote_number r.vote ∷ u64_bytes r.keep) (length r.entries) (flat_map stored_bytes r.entries) rest in
    rw (regrouped, fields_again r rest is fits) refl
  where
    regroup : (a x : List ℕ) (n : ℕ) (f rest : List ℕ) → (((a ++ x) ++ n ∷ []) ++ f) ++ rest ≡ a ++ (x ++ (n ∷ (f ++ rest)))
    regroup a x n f rest = simp append_assoc

pub spelling_is_read : SpellingIsRead
spelling_is_read r bytes fits spells =
    ap decode_record (spells.same ∙ sym (append-nil (record_bytes r))) ∙ reads r [] fits spells.in_range

pub bytes_behind_are_extra : BytesBehindAreExtra
bytes_behind_are_extra r b rest fits is = reads r (b ∷ rest) fits is

-- what reads as Extra: a record with a byte after it
record IsBehind (read : Result (Record × List ℕ) FieldFault) : Type 0 where
  front : Record
  byte : ℕ
  rest : List ℕ
  is_read : read ≡ Ok (front, byte ∷ rest)

ended_extra : (read : Result (Record × List ℕ) FieldFault) → ended read ≡ Err Extra → IsBehind read
ended_extra (Ok (r, [])) e = absurd cc
ended_extra (Ok (r, b ∷ rest)) e = record { front = r; byte = b; rest = rest; is_read = refl }
ended_extra (Err field.Short) e = absurd cc
ended_extra (Err field.Range) e = absurd cc

version_extra : (v : ℕ) (read : Result (Record × List ℕ) FieldFault) → cond (eqb v record_version_1) (ended read) (Err Version) ≡ Err Extra → (v ≡ record_version_1) × IsBehind read
version_extra v read e =
    elim (chosen (eqb v record_version_1) (ended read) (Err Version) (Err Extra) e) [
      | inl is ↦ (eqb-true v record_version_1 is.0, ended_extra read is.1)
      | inr other ↦ absurd cc
    ]

pub extra_is_behind_a_record : ExtraIsBehindARecord
unfolding decode_record
extra_is_behind_a_record [] are e = absurd cc
extra_is_behind_a_record (v ∷ bytes) are e =
    let is = version_extra v (front_fields bytes) e in
    let behind = is.1 in
    let read = fields_take bytes (behind.front, behind.byte ∷ behind.rest) (AreBytes-behind v bytes are) behind.is_read in
    record {
      front = behind.front;
      fits = read.fits;
      in_range = read.in_range;
      byte = behind.byte;
      rest = behind.rest;
      same = ap (λ (n : ℕ). n ∷ bytes) is.0 ∙ read.taken.parts;
    }

-- no bytes read as the fault Memory
ended_memory : (read : Result (Record × List ℕ) FieldFault) → ended read ≡ Err Memory → ⊥
ended_memory (Ok (n, [])) e = cc
ended_memory (Ok (n, b ∷ rest)) e = cc
ended_memory (Err field.Short) e = cc
ended_memory (Err field.Range) e = cc

version_memory : (b : Bool) (read : Result (Record × List ℕ) FieldFault) → cond b (ended read) (Err Version) ≡ Err Memory → ⊥
version_memory true read e = ended_memory read e
version_memory false read e = cc

pub no_bytes_want_memory : NoBytesWantMemory
unfolding decode_record
no_bytes_want_memory [] e = cc
no_bytes_want_memory (v ∷ bytes) e = version_memory (eqb v record_version_1) (front_fields bytes) e

-- how many bytes a record has
length-stored_bytes : (s : Stored) → IsStored s → length (stored_bytes s) ≤ 61460
unfolding stored_bytes
length-stored_bytes s is =
    let most = FitsKind-most s.entry.kind s.body is.body in
    simp length-append (omega (arith, length-entry_bytes s.entry, length-u16_bytes (length s.body)))

length-entries : (ss : List Stored) → AllByRecursion IsStored ss → length (flat_map stored_bytes ss) ≤ length ss * 61460
length-entries [] are = omega arith
length-entries (s ∷ ss) are =
    let joined : length (flat_map stored_bytes (s ∷ ss)) ≡ length (stored_bytes s) + length (flat_map stored_bytes ss) = ap length (flat_map-cons stored_bytes s ss) ∙ length-append (stored_bytes s) (flat_map stored_bytes ss) in
    omega (arith, joined, length-stored_bytes s are.0, length-entries ss are.1)

pub records_are_short : RecordsAreShort
unfolding record_bytes head_bytes
records_are_short r is =
    let count = is.count in
    let behind = length-entries r.entries (recursion_from_All IsStored r.entries is.entries) in
    simp length-append (omega (arith, length-u64_bytes r.term, length-u64_bytes r.keep))
