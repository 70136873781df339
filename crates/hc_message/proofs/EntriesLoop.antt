-- Reading entries one after the other, as a loop does.
use Rattle.std.proofs.Common.{◌≡◌, ℕ, suc, ◌-◌, ◌+◌, ◌≤◌, ◌<◌, List, [], ◌∷◌, ◌++◌, Result, Ok, Err, refl, sym, ap, ◌∙◌, append_assoc, arith}
use Rattle.std.specs.Prelude.{MatchBool}
use Rattle.std.proofs.lemmas.List.{append-nil}
use Rattle.r2_base.specs.declared.entry.Entry.{Entry}
use Rattle.hc_message.specs.declared.field_fault.FieldFault.{FieldFault}
use Rattle.hc_message.specs.Faults.{is_memory, msg_fault_of}
use Rattle.hc_message.specs.Fields.{◌>>=◌, after, front_entry, of_fields}
use Rattle.hc_message.specs.Reading.{front_entries}
use Rattle.hc_message.proofs.Unless.{unless_given}

abbrev Entries : Type 0
Entries = Result (List Entry × List ℕ) FieldFault

-- what was read before, and what is still read
abbrev pub with_front : List Entry → Entries → Entries
with_front front read = read >>= λ x. Ok (front ++ x.0, x.1)

regroup : (front : List Entry) (e : Entry) (read : Entries) → with_front front (read >>= λ x. Ok (e ∷ x.0, x.1)) ≡ with_front (front ++ e ∷ []) read
regroup front e (Ok x) = ap (λ (es : List Entry). Ok (es, x.1)) (simp append_assoc)
regroup front e (Err f) = refl

pub goes_on : (front : List Entry) (count i least most : ℕ) (bytes : List ℕ) (e : Entry) (behind : List ℕ) (total : Entries) → i < count → front_entry least most bytes ≡ Ok (e, behind)
    → with_front front (front_entries (count - i) least most bytes) ≡ total → with_front (front ++ e ∷ []) (front_entries (count - (i + 1)) e.term most behind) ≡ total
unfolding front_entries
goes_on front count i least most bytes e behind total lt h so_far =
    let k : count - i ≡ suc (count - (i + 1)) = omega arith in
    let one : with_front front (front_entries (count - i) least most bytes) ≡ with_front (front ++ e ∷ []) (front_entries (count - (i + 1)) e.term most behind) = rw (k, h) (regroup front e (front_entries (count - (i + 1)) e.term most behind)) in
    sym one ∙ so_far

ends_at : (f : FieldFault) (front : List Entry) (count i least most : ℕ) (bytes : List ℕ) (total : Entries) → i < count → front_entry least most bytes ≡ Err f
    → with_front front (front_entries (count - i) least most bytes) ≡ total → total ≡ Err f
unfolding front_entries
ends_at f front count i least most bytes total lt h so_far =
    let k : count - i ≡ suc (count - (i + 1)) = omega arith in
    let one : with_front front (front_entries (count - i) least most bytes) ≡ Err f = rw (k, h) refl in
    sym so_far ∙ one

pub ends : (f : FieldFault) (front : List Entry) (count i least most : ℕ) (bytes : List ℕ) (total : Entries) → i < count → front_entry least most bytes ≡ Err f
    → with_front front (front_entries (count - i) least most bytes) ≡ total
    → MatchBool (is_memory (msg_fault_of f)) (Unit {0}) (of_fields msg_fault_of total ≡ Err (msg_fault_of f))
ends f front count i least most bytes total lt h so_far =
    unless_given (is_memory (msg_fault_of f)) (of_fields msg_fault_of total ≡ Err (msg_fault_of f))
    (ap (of_fields msg_fault_of) (ends_at f front count i least most bytes total lt h so_far))

pub is_done : (front : List Entry) (count i least most : ℕ) (bytes : List ℕ) (total : Entries) → count ≤ i → with_front front (front_entries (count - i) least most bytes) ≡ total → total ≡ Ok (front, bytes)
unfolding front_entries
is_done front count i least most bytes total le so_far =
    let k : count - i ≡ 0 = omega arith in
    let one : with_front front (front_entries (count - i) least most bytes) ≡ Ok (front, bytes) = rw k (ap (λ (es : List Entry). Ok (es, bytes)) (append-nil front)) in
    sym so_far ∙ one

-- ---- and as a check does, which keeps none of them

-- what is made of the value leaves the bytes after it
pub after_made : {A B : Type 0} (read : Result (A × List ℕ) FieldFault) (make : A → B) → after (read >>= λ x. Ok (make x.0, x.1)) ≡ after read
after_made (Ok x) make = refl
after_made (Err f) make = refl

abbrev Rest : Type 0
Rest = Result (List ℕ) FieldFault

pub check_goes_on : (count i least most : ℕ) (bytes : List ℕ) (e : Entry) (behind : List ℕ) (total : Rest) → i < count → front_entry least most bytes ≡ Ok (e, behind)
    → after (front_entries (count - i) least most bytes) ≡ total → after (front_entries (count - (i + 1)) e.term most behind) ≡ total
unfolding front_entries
check_goes_on count i least most bytes e behind total lt h so_far =
    let k : count - i ≡ suc (count - (i + 1)) = omega arith in
    let one : after (front_entries (count - i) least most bytes) ≡ after (front_entries (count - (i + 1)) e.term most behind) = rw (k, h) (after_made (front_entries (count - (i + 1)) e.term most behind) (λ (es : List Entry). e ∷ es)) in
    sym one ∙ so_far

pub check_ends : (f : FieldFault) (count i least most : ℕ) (bytes : List ℕ) (total : Rest) → i < count → front_entry least most bytes ≡ Err f
    → after (front_entries (count - i) least most bytes) ≡ total → total ≡ Err f
unfolding front_entries
check_ends f count i least most bytes total lt h so_far =
    let k : count - i ≡ suc (count - (i + 1)) = omega arith in
    let one : after (front_entries (count - i) least most bytes) ≡ Err f = rw (k, h) refl in
    sym so_far ∙ one

pub check_is_done : (count i least most : ℕ) (bytes : List ℕ) (total : Rest) → count ≤ i → after (front_entries (count - i) least most bytes) ≡ total → total ≡ Ok bytes
unfolding front_entries
check_is_done count i least most bytes total le so_far =
    let k : count - i ≡ 0 = omega arith in
    let one : after (front_entries (count - i) least most bytes) ≡ Ok bytes = rw k refl in
    sym so_far ∙ one
