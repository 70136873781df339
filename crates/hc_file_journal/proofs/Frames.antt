-- The record whose length and bytes are first.
use Rattle.std.proofs.Common.{◌≡◌, ◌≢◌, ℕ, ◌+◌, ◌<◌, ◌≤◌, ◌^◌, true, false, List, ◌++◌, length, take, drop, Result, Ok, Err, sym, ap, ◌∙◌, subst, arith, append_assoc, length-append, length-take}
use Rattle.std.specs.Bool.{MatchBool}
use Rattle.std.proofs.lemmas.List.{take-append-drop, take_at}
use Rattle.r2_base.specs.Numbers.{u32_bytes}
use Rattle.r2_base.proofs.NumberBytes.{length-u32_bytes}
use Rattle.hc_log.specs.declared.record.Record.{Record}
use Rattle.hc_log.specs.Durable.{State, IsNext}
use Rattle.hc_log.specs.Ranges.{IsInRange}
use Rattle.hc_journal.specs.declared.record_fault.RecordFault.{RecordFault}
use Rattle.hc_journal.specs.Record.{record_bytes}
use Rattle.hc_journal.specs.RecordFaults.{is_memory}
use Rattle.hc_journal.specs.RecordLaws.{IsSpelled, most_record_bytes}
use Rattle.hc_journal.specs.RecordReading.{decode_record}
use Rattle.hc_file_journal.specs.File.{ReadsBack, framed}
use Rattle.hc_file_journal.specs.RowReading.{HasNoNext}
use Rattle.hc_journal.proofs.RecordLaws.{records_are_short}
use Rattle.hc_file_journal.proofs.Rows.{same_first, short_in_range}

-- bytes split in one way only into four bytes of a number and others
abbrev pub Splits : List ℕ → ℕ → List ℕ → Type 0
Splits bytes n rest = (m : ℕ) (more : List ℕ) → m < 2 ^ 32 → bytes ≡ u32_bytes m ++ more → (n ≡ m) × (rest ≡ more)

-- bytes that begin with a framed record have the number of its bytes first, and then these
record Frames (rest : List ℕ) (n : ℕ) (r : Record) (more : List ℕ) : Type 0 where
  number : n ≡ length (record_bytes r)
  same : rest ≡ record_bytes r ++ more
  long : length rest ≡ length (record_bytes r) + length more
  short : length (record_bytes r) ≤ most_record_bytes

frames : (bytes rest : List ℕ) (n : ℕ) (r : Record) (more : List ℕ) → Splits bytes n rest → IsInRange r → bytes ≡ framed r ++ more → Frames rest n r more
unfolding framed
frames bytes rest n r more split in_range same =
    let m = length (record_bytes r) in
    let parts = split m (record_bytes r ++ more) (short_in_range r in_range) (same ∙ append_assoc (u32_bytes m) (record_bytes r) more) in
    record { number = parts.0; same = parts.1; long = ap length parts.1 ∙ length-append (record_bytes r) more; short = records_are_short r in_range }

-- the number is greater than any record's
pub too_long : (bytes rest : List ℕ) (n : ℕ) (r : Record) (more : List ℕ) → Splits bytes n rest → 4194304 < n → IsInRange r → bytes ≢ framed r ++ more
too_long bytes rest n r more split long in_range same =
    let f = frames bytes rest n r more split in_range same in omega (arith, f.number, f.short, long)

-- or than what is left
pub too_few : (bytes rest : List ℕ) (n : ℕ) (r : Record) (more : List ℕ) → Splits bytes n rest → length rest < n → IsInRange r → bytes ≢ framed r ++ more
too_few bytes rest n r more split long in_range same =
    let f = frames bytes rest n r more split in_range same in omega (arith, f.number, f.long, long)

-- there is no number
pub no_number : (bytes : List ℕ) (r : Record) (more : List ℕ) → (4 ≤ length bytes → false ≡ true) → bytes ≢ framed r ++ more
unfolding framed
no_number bytes r more short same =
    cc (short (omega (arith, ap length same, length-append (u32_bytes (length (record_bytes r)) ++ record_bytes r) more, length-append (u32_bytes (length (record_bytes r))) (record_bytes r), length-u32_bytes (length (record_bytes r)))))

-- what the reading of a record says of the bytes where it fails
abbrev pub Says : List ℕ → RecordFault → Type 0
Says body fault = MatchBool (is_memory fault) (Unit {0}) (Err fault ≡ decode_record body)

-- the bytes that are to be the record's read as none
pub not_read : (bytes rest body : List ℕ) (n : ℕ) (r : Record) (more : List ℕ) (fault : RecordFault) → Splits bytes n rest → body ≡ take n rest → Err fault ≡ decode_record body → IsInRange r → ReadsBack r
    → bytes ≢ framed r ++ more
not_read bytes rest body n r more fault split is fails in_range reads same =
    let f = frames bytes rest n r more split in_range same in
    let bytes_are : body ≡ record_bytes r = is ∙ ap (take n) f.same ∙ take_at (record_bytes r) more n (sym f.number) in
    differ (decode_record body) fault r fails (ap decode_record bytes_are ∙ reads)
  where
    differ : (result : Result Record RecordFault) (fault : RecordFault) (r : Record) → Err fault ≡ result → result ≡ Ok r → ⊥
    differ result fault r failed read = cc

-- they read as this one
pub found_first : (bytes rest body more : List ℕ) (n : ℕ) (r : Record) → bytes ≡ u32_bytes n ++ rest → n ≤ length rest → body ≡ take n rest → more ≡ drop n rest → IsSpelled r body
    → bytes ≡ framed r ++ more
unfolding framed
found_first bytes rest body more n r split enough body_is more_is is =
    let encoded : take n rest ≡ record_bytes r = sym body_is ∙ is.spells.same in
    let number : n ≡ length (record_bytes r) = omega (arith, ap length encoded, length-take n rest, enough) in
    split
    ∙ ap (λ (l : List ℕ). u32_bytes n ++ l) (sym (take-append-drop n rest))
    ∙ ap (λ (l : List ℕ). u32_bytes n ++ (l ++ drop n rest)) encoded
    ∙ ap (λ (l : List ℕ). u32_bytes n ++ (record_bytes r ++ l)) (sym more_is)
    ∙ sym (append_assoc (u32_bytes n) (record_bytes r) more)
    ∙ ap (λ (k : ℕ). (u32_bytes k ++ record_bytes r) ++ more) number

-- the record that is first may not be the next one, and no other one is first
pub not_next : (d : State) (bytes rest : List ℕ) (r : Record) → bytes ≡ framed r ++ rest → IsInRange r → ReadsBack r → (IsNext d r → ⊥) → HasNoNext d bytes
not_next d bytes rest r is in_range reads unfit other more next reads_other same =
    unfit (subst (IsNext d) (same_first other r more rest (short_in_range other next.in_range) reads_other (short_in_range r in_range) reads (sym same ∙ is)).0 next)
