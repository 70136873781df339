-- Reading entries one after the other, as a loop does, and writing them.
use Rattle.std.proofs.Common.{◌≡◌, ℕ, suc, ◌-◌, ◌+◌, ◌≤◌, ◌<◌, List, [], ◌∷◌, ◌++◌, All, get_or, length, take, Result, Ok, Err, refl, sym, ap, ◌∙◌, append_assoc, arith}
use Rattle.std.specs.Prelude.{MatchBool}
use Rattle.std.proofs.lemmas.List.{append-nil, take_more}
use Rattle.std.proofs.lemmas.List.Elements.{All-push}
use Rattle.hc_message.specs.declared.field_fault.FieldFault.{FieldFault}
use Rattle.r2_base.specs.Names.{FitsRid}
use Rattle.r2_base.specs.Limits.{most_body}
use Rattle.hc_message.specs.Fields.{◌>>=◌, after, of_fields}
use Rattle.hc_message.proofs.EntriesLoop.{after_made}
use Rattle.hc_message.proofs.Unless.{unless_then}
use Rattle.hc_log.specs.declared.stored.Stored.{Stored}
use Rattle.hc_log.specs.Ranges.{IsStored}
use Rattle.hc_journal.specs.declared.record_fault.RecordFault.{RecordFault}
use Rattle.hc_journal.specs.RecordFaults.{is_memory, record_fault_of}
use Rattle.hc_journal.specs.RecordReading.{front_entries, front_stored}
use Rattle.hc_journal.proofs.RecordFields.{FitsKind-most}

abbrev Entries : Type 0
Entries = Result (List Stored × List ℕ) FieldFault

-- what was read before, and what is still read
abbrev pub with_front : List Stored → Entries → Entries
with_front front read = read >>= λ x. Ok (front ++ x.0, x.1)

regroup : (front : List Stored) (s : Stored) (read : Entries) → with_front front (read >>= λ x. Ok (s ∷ x.0, x.1)) ≡ with_front (front ++ s ∷ []) read
regroup front s (Ok x) = ap (λ (ss : List Stored). Ok (ss, x.1)) (simp append_assoc)
regroup front s (Err f) = refl

pub goes_on : (front : List Stored) (count i : ℕ) (bytes : List ℕ) (s : Stored) (behind : List ℕ) (total : Entries) → i < count → front_stored bytes ≡ Ok (s, behind)
    → with_front front (front_entries (count - i) bytes) ≡ total → with_front (front ++ s ∷ []) (front_entries (count - (i + 1)) behind) ≡ total
unfolding front_entries
goes_on front count i bytes s behind total lt h so_far =
    let k : count - i ≡ suc (count - (i + 1)) = omega arith in
    let one : with_front front (front_entries (count - i) bytes) ≡ with_front (front ++ s ∷ []) (front_entries (count - (i + 1)) behind) = rw (k, h) (regroup front s (front_entries (count - (i + 1)) behind)) in
    sym one ∙ so_far

ends_at : (f : FieldFault) (front : List Stored) (count i : ℕ) (bytes : List ℕ) (total : Entries) → i < count → front_stored bytes ≡ Err f
    → with_front front (front_entries (count - i) bytes) ≡ total → total ≡ Err f
unfolding front_entries
ends_at f front count i bytes total lt h so_far =
    let k : count - i ≡ suc (count - (i + 1)) = omega arith in
    let one : with_front front (front_entries (count - i) bytes) ≡ Err f = rw (k, h) refl in
    sym so_far ∙ one

-- fields that were read without a fault
pub of_fields-ok : {A E : Type 0} (fault_of : FieldFault → E) (r : Result A FieldFault) (x : A) → of_fields fault_of r ≡ Ok x → r ≡ Ok x
of_fields-ok fault_of (Ok y) x e = cc
of_fields-ok fault_of (Err f) x e = absurd cc

-- the fault of a whole is one of a field
fault_is : {A : Type 0} (r : Result A FieldFault) (fault : RecordFault) → of_fields record_fault_of r ≡ Err fault → (f : FieldFault) × (r ≡ Err f) × (record_fault_of f ≡ fault)
fault_is (Ok x) fault e = absurd cc
fault_is (Err f) fault e = (f, refl, cc)

abbrev Kept : Type 0
Kept = Result (Stored × List ℕ) RecordFault

abbrev AllKept : Type 0
AllKept = Result (List Stored × List ℕ) RecordFault

abbrev one_fault : RecordFault → Kept
one_fault fault = Err fault

abbrev total_fault : RecordFault → AllKept
total_fault fault = Err fault

ends_by : (fault : RecordFault) (front : List Stored) (count i : ℕ) (bytes : List ℕ) (total : Entries) → i < count → with_front front (front_entries (count - i) bytes) ≡ total
    → of_fields record_fault_of (front_stored bytes) ≡ one_fault fault → of_fields record_fault_of total ≡ total_fault fault
ends_by fault front count i bytes total lt so_far h =
    let is = fault_is (front_stored bytes) fault h in
    ap (of_fields record_fault_of) (ends_at is.0 front count i bytes total lt is.1 so_far) ∙ ap total_fault is.2

pub ends : (fault : RecordFault) (front : List Stored) (count i : ℕ) (bytes : List ℕ) (total : Entries) → i < count
    → MatchBool (is_memory fault) (Unit {0}) (of_fields record_fault_of (front_stored bytes) ≡ Err fault) → with_front front (front_entries (count - i) bytes) ≡ total
    → MatchBool (is_memory fault) (Unit {0}) (of_fields record_fault_of total ≡ Err fault)
ends fault front count i bytes total lt h so_far =
    unless_then (is_memory fault) (of_fields record_fault_of (front_stored bytes) ≡ one_fault fault) (of_fields record_fault_of total ≡ total_fault fault) (ends_by fault front count i bytes total lt so_far) h

pub is_done : (front : List Stored) (count i : ℕ) (bytes : List ℕ) (total : Entries) → count ≤ i → with_front front (front_entries (count - i) bytes) ≡ total → total ≡ Ok (front, bytes)
unfolding front_entries
is_done front count i bytes total le so_far =
    let k : count - i ≡ 0 = omega arith in
    let one : with_front front (front_entries (count - i) bytes) ≡ Ok (front, bytes) = rw k (ap (λ (ss : List Stored). Ok (ss, bytes)) (append-nil front)) in
    sym so_far ∙ one

-- ---- and as a check does, which keeps none of them

abbrev Rest : Type 0
Rest = Result (List ℕ) FieldFault

abbrev left : List ℕ → Rest
left rest = Ok rest

rest_is : (a b : List ℕ) → left a ≡ left b → a ≡ b
rest_is a b e = cc

-- a check of one entry, seen as its reading
checked_one : (read : Result (Stored × List ℕ) FieldFault) (behind : List ℕ) → after read ≡ Ok behind → (s : Stored) × (read ≡ Ok (s, behind))
checked_one (Ok x) behind e = (x.0, ap (λ (b : List ℕ). Ok (x.0, b)) (rest_is x.1 behind e))
checked_one (Err f) behind e = absurd cc

failed_one : (read : Result (Stored × List ℕ) FieldFault) (f : FieldFault) → after read ≡ Err f → read ≡ Err f
failed_one (Ok x) f e = absurd cc
failed_one (Err g) f e = cc

pub check_goes_on : (count i : ℕ) (bytes behind : List ℕ) (total : Rest) → i < count → after (front_stored bytes) ≡ Ok behind
    → after (front_entries (count - i) bytes) ≡ total → after (front_entries (count - (i + 1)) behind) ≡ total
unfolding front_entries
check_goes_on count i bytes behind total lt h so_far =
    let read = checked_one (front_stored bytes) behind h in
    let k : count - i ≡ suc (count - (i + 1)) = omega arith in
    let one : after (front_entries (count - i) bytes) ≡ after (front_entries (count - (i + 1)) behind) = rw (k, read.1) (after_made (front_entries (count - (i + 1)) behind) (λ (ss : List Stored). read.0 ∷ ss)) in
    sym one ∙ so_far

pub check_ends : (f : FieldFault) (count i : ℕ) (bytes : List ℕ) (total : Rest) → i < count → after (front_stored bytes) ≡ Err f
    → after (front_entries (count - i) bytes) ≡ total → total ≡ Err f
unfolding front_entries
check_ends f count i bytes total lt h so_far =
    let k : count - i ≡ suc (count - (i + 1)) = omega arith in
    let one : after (front_entries (count - i) bytes) ≡ Err f = rw (k, failed_one (front_stored bytes) f h) refl in
    sym so_far ∙ one

pub check_is_done : (count i : ℕ) (bytes : List ℕ) (total : Rest) → count ≤ i → after (front_entries (count - i) bytes) ≡ total → total ≡ Ok bytes
unfolding front_entries
check_is_done count i bytes total le so_far =
    let k : count - i ≡ 0 = omega arith in
    let one : after (front_entries (count - i) bytes) ≡ Ok bytes = rw k refl in
    sym so_far ∙ one

-- the request ids of entries that were written fit, one entry after the other
pub fits_more : (ss : List Stored) (i : ℕ) (d : Stored) → i < length ss → All (λ s. FitsRid s.entry.rid) (take i ss) → FitsRid (get_or ss i d).entry.rid → All (λ s. FitsRid s.entry.rid) (take (i + 1) ss)
fits_more ss i d lt so_far here =
    rw (take_more ss i d lt) (All-push (λ s. FitsRid s.entry.rid) (take i ss) (get_or ss i d) so_far here)

-- the bodies of entries in range fit their lengths
pub bodies_fit : (ss : List Stored) → All IsStored ss → All (λ s. length s.body ≤ most_body) ss
bodies_fit ss are = λ k d lt. let here = are k d lt in FitsKind-most _ _ here.body
