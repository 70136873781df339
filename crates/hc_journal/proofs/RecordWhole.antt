-- From a record's version and fields to the whole of it.
use Rattle.std.proofs.Common.{◌≡◌, ◌==◌, ℕ, Bool, true, false, cond, eqb, List, [], ◌∷◌, length, Result, Ok, Err, refl, sym, ap, ◌∙◌, arith}
use Rattle.std.specs.Prelude.{IfOk, MatchBool}
use Rattle.r2_base.specs.Memory.{GivesUnlessMemory}
use Rattle.std.proofs.lemmas.Bool.{eqb-true}
use Rattle.std.proofs.lemmas.Bool.Decides.{nat_tests}
use Rattle.r2_base.specs.Numbers.{AreBytes}
use Rattle.hc_message.specs.declared.field_fault.FieldFault.{FieldFault}
use Rattle.hc_message.specs.declared.field_fault.FieldFault.TheVariants as field
use Rattle.hc_message.specs.Fields.{after, checked, front_byte, of_fields}
use Rattle.hc_message.proofs.Unless.{unless_given, unless_then}
use Rattle.hc_message.proofs.Takes.{ok_is}
use Rattle.hc_log.specs.declared.record.Record.{Record}
use Rattle.hc_journal.specs.declared.record_fault.RecordFault.{RecordFault}
use Rattle.hc_journal.specs.declared.record_fault.RecordFault.TheVariants.{Version, Extra}
use Rattle.hc_journal.specs.Record.{record_version_1}
use Rattle.hc_journal.specs.RecordFaults.{is_memory, record_fault_of}
use Rattle.hc_journal.specs.RecordLaws.{IsSpelled}
use Rattle.hc_journal.specs.RecordReading.{ended, front_fields, decode_record}
use Rattle.hc_journal.proofs.RecordLaws.{what_is_read_is_spelled}
use Rattle.hc_journal.proofs.RecordLoop.{of_fields-ok}

abbrev at : ℕ → List ℕ → Result (ℕ × List ℕ) FieldFault
at v fields = Ok (v, fields)

-- no byte at all
pub no_version : (bytes : List ℕ) (f : FieldFault) → front_byte bytes ≡ Err f → decode_record bytes ≡ Err (record_fault_of f)
unfolding decode_record
no_version [] field.Short e = refl
no_version [] field.Range e = absurd cc
no_version (b ∷ bytes) f e = absurd cc

-- a version and what comes after it
versioned : (bytes : List ℕ) (v : ℕ) (fields : List ℕ) → front_byte bytes ≡ at v fields → decode_record bytes ≡ cond (eqb v record_version_1) (ended (front_fields fields)) (Err Version)
unfolding decode_record
versioned [] v fields e = absurd cc
versioned (b ∷ bytes) v fields e =
    ap (λ (x : ℕ × List ℕ). cond (eqb x.0 record_version_1) (ended (front_fields x.1)) (Err Version)) (ok_is (b, bytes) (v, fields) e)

pub other_version : (bytes : List ℕ) (v : ℕ) (fields : List ℕ) → front_byte bytes ≡ at v fields → (v ≡ record_version_1 → ⊥) → decode_record bytes ≡ Err Version
other_version bytes v fields e other =
    let test : eqb v record_version_1 ≡ false = grind (arith, nat_tests) in
    versioned bytes v fields e ∙ rw test refl

this_version : (bytes : List ℕ) (v : ℕ) (fields : List ℕ) → front_byte bytes ≡ at v fields → v ≡ record_version_1 → decode_record bytes ≡ ended (front_fields fields)
this_version bytes v fields e is = versioned bytes v fields e ∙ rw is refl

-- ---- with the record

abbrev failed : RecordFault → Result Record RecordFault
failed fault = Err fault

abbrev Fields : Type 0
Fields = Result (Record × List ℕ) FieldFault

abbrev none : RecordFault → Result (Record × List ℕ) RecordFault
none fault = Err fault

pub version_fault : (bytes : List ℕ) (f : FieldFault) → front_byte bytes ≡ Err f → MatchBool (is_memory (record_fault_of f)) (Unit {0}) (decode_record bytes ≡ Err (record_fault_of f))
version_fault bytes f e = unless_given (is_memory (record_fault_of f)) (decode_record bytes ≡ failed (record_fault_of f)) (no_version bytes f e)

-- a fault of the fields is the record's
ended_fault : (fault : RecordFault) (r : Fields) → of_fields record_fault_of r ≡ none fault → ended r ≡ failed fault
ended_fault fault (Ok x) e = absurd cc
ended_fault fault (Err f) e = cc

pub fields_fault : (bytes : List ℕ) (v : ℕ) (fields : List ℕ) (fault : RecordFault) → front_byte bytes ≡ at v fields → v ≡ record_version_1
    → MatchBool (is_memory fault) (Unit {0}) (of_fields record_fault_of (front_fields fields) ≡ Err fault) → MatchBool (is_memory fault) (Unit {0}) (decode_record bytes ≡ Err fault)
fields_fault bytes v fields fault e is fails =
    unless_then (is_memory fault) (of_fields record_fault_of (front_fields fields) ≡ none fault) (decode_record bytes ≡ failed fault) (λ one. this_version bytes v fields e is ∙ ended_fault fault (front_fields fields) one) fails

-- bytes after the fields
ended_extra : (r : Record) (rest : List ℕ) (empty : Bool) → empty ≡ (length rest == 0) → empty ≡ false → ended (Ok (r, rest)) ≡ Err Extra
ended_extra r [] empty is full = absurd cc
ended_extra r (b ∷ rest) empty is full = refl

pub some_extra : (bytes : List ℕ) (v : ℕ) (fields : List ℕ) (r : Record) (rest : List ℕ) (empty : Bool) → front_byte bytes ≡ at v fields → v ≡ record_version_1 → front_fields fields ≡ Ok (r, rest) → empty ≡ (length rest == 0) → empty ≡ false → decode_record bytes ≡ Err Extra
some_extra bytes v fields r rest empty e same read is full = this_version bytes v fields e same ∙ ap ended read ∙ ended_extra r rest empty is full

-- no byte after the fields
ended_whole : (r : Record) (rest : List ℕ) (empty : Bool) → empty ≡ (length rest == 0) → empty ≡ true → ended (Ok (r, rest)) ≡ Ok r
ended_whole r [] empty is none = refl
ended_whole r (b ∷ rest) empty is none =
    let zero : length (b ∷ rest) ≡ 0 = eqb-true (length (b ∷ rest)) 0 (sym is ∙ none) in
    absurd (omega arith)

pub no_extra : (bytes : List ℕ) (v : ℕ) (fields : List ℕ) (r : Record) (rest : List ℕ) (empty : Bool) → front_byte bytes ≡ at v fields → v ≡ record_version_1 → front_fields fields ≡ Ok (r, rest) → empty ≡ (length rest == 0) → empty ≡ true → decode_record bytes ≡ Ok r
no_extra bytes v fields r rest empty e same read is none = this_version bytes v fields e same ∙ ap ended read ∙ ended_whole r rest empty is none

pub some_extra_of : (bytes : List ℕ) (v : ℕ) (fields : List ℕ) (r : Record) (rest : List ℕ) (empty : Bool) → front_byte bytes ≡ at v fields → v ≡ record_version_1 → of_fields record_fault_of (front_fields fields) ≡ Ok (r, rest) → empty ≡ (length rest == 0) → empty ≡ false → decode_record bytes ≡ Err Extra
some_extra_of bytes v fields r rest empty e same read is full = some_extra bytes v fields r rest empty e same (of_fields-ok record_fault_of (front_fields fields) (r, rest) read) is full

pub no_extra_of : (bytes : List ℕ) (v : ℕ) (fields : List ℕ) (r : Record) (rest : List ℕ) (empty : Bool) → front_byte bytes ≡ at v fields → v ≡ record_version_1 → of_fields record_fault_of (front_fields fields) ≡ Ok (r, rest) → empty ≡ (length rest == 0) → empty ≡ true → decode_record bytes ≡ Ok r
no_extra_of bytes v fields r rest empty e same read is none = no_extra bytes v fields r rest empty e same (of_fields-ok record_fault_of (front_fields fields) (r, rest) read) is none

-- what is read is a record's own bytes
pub spelled : (bytes : List ℕ) (r : Result Record RecordFault) → AreBytes bytes → GivesUnlessMemory is_memory (λ m. m) r (decode_record bytes) → IfOk r (λ m. IsSpelled m bytes)
spelled bytes (Ok m) are e = what_is_read_is_spelled m bytes are e
spelled bytes (Err fault) are e = tt

-- ---- by a check, without the record

abbrev fails : FieldFault → Result (List ℕ) FieldFault
fails f = Err f

fault_same : (g f : FieldFault) → fails g ≡ fails f → g ≡ f
fault_same g f e = cc

checked_fault : (r : Fields) (f : FieldFault) → after r ≡ fails f → checked (ended r) ≡ Err (record_fault_of f)
checked_fault (Ok x) f e = absurd cc
checked_fault (Err g) f e = ap (λ (h : FieldFault). checked (failed (record_fault_of h))) (fault_same g f e)

pub check_fault : (bytes : List ℕ) (v : ℕ) (fields : List ℕ) (f : FieldFault) → front_byte bytes ≡ at v fields → v ≡ record_version_1 → after (front_fields fields) ≡ Err f → checked (decode_record bytes) ≡ Err (record_fault_of f)
check_fault bytes v fields f e same is = ap checked (this_version bytes v fields e same) ∙ checked_fault (front_fields fields) f is

abbrev left : List ℕ → Result (List ℕ) FieldFault
left rest = Ok rest

rest_is : (a b : List ℕ) → left a ≡ left b → a ≡ b
rest_is a b e = cc

checked_extra : (r : Fields) (rest : List ℕ) (empty : Bool) → after r ≡ left rest → empty ≡ (length rest == 0) → empty ≡ false → checked (ended r) ≡ Err Extra
checked_extra (Ok x) rest empty e is full =
    let same = rest_is x.1 rest e in
    ap checked (ended_extra x.0 x.1 empty (rw same is) full)
checked_extra (Err f) rest empty e is full = absurd cc

pub check_extra : (bytes : List ℕ) (v : ℕ) (fields rest : List ℕ) (empty : Bool) → front_byte bytes ≡ at v fields → v ≡ record_version_1 → after (front_fields fields) ≡ left rest → empty ≡ (length rest == 0) → empty ≡ false → checked (decode_record bytes) ≡ Err Extra
check_extra bytes v fields rest empty e same read is full =
    ap checked (this_version bytes v fields e same) ∙ checked_extra (front_fields fields) rest empty read is full

checked_whole : (r : Fields) (rest : List ℕ) (empty : Bool) → after r ≡ left rest → empty ≡ (length rest == 0) → empty ≡ true → checked (ended r) ≡ Ok tt
checked_whole (Ok x) rest empty e is none =
    let same = rest_is x.1 rest e in
    ap checked (ended_whole x.0 x.1 empty (rw same is) none)
checked_whole (Err f) rest empty e is none = absurd cc

pub check_whole : (bytes : List ℕ) (v : ℕ) (fields rest : List ℕ) (empty : Bool) → front_byte bytes ≡ at v fields → v ≡ record_version_1 → after (front_fields fields) ≡ left rest → empty ≡ (length rest == 0) → empty ≡ true → checked (decode_record bytes) ≡ Ok tt
check_whole bytes v fields rest empty e same read is none =
    ap checked (this_version bytes v fields e same) ∙ checked_whole (front_fields fields) rest empty read is none
