-- From a message's tag and fields to the whole of it.
use Rattle.std.proofs.Common.{◌≡◌, ◌==◌, ℕ, Bool, true, false, List, [], ◌∷◌, length, Result, Ok, Err, refl, sym, ap, ◌∙◌, arith}
use Rattle.std.specs.Prelude.{IfOk, MatchBool}
use Rattle.std.proofs.lemmas.Bool.{eqb-true}
use Rattle.r2_base.specs.Memory.{GivesUnlessMemory}
use Rattle.r2_base.specs.Numbers.{AreBytes}
use Rattle.hc_message.specs.declared.field_fault.FieldFault.{FieldFault}
use Rattle.hc_message.specs.declared.field_fault.FieldFault.TheVariants as field
use Rattle.hc_message.specs.declared.msg.Msg.{Msg}
use Rattle.hc_message.specs.declared.msg_fault.MsgFault.{MsgFault}
use Rattle.hc_message.specs.declared.msg_fault.MsgFault.TheVariants.{Extra}
use Rattle.hc_message.specs.Faults.{is_memory, msg_fault_of}
use Rattle.hc_message.specs.Fields.{after, checked, front_byte}
use Rattle.hc_message.specs.Laws.{IsSpelled}
use Rattle.hc_message.specs.Reading.{decode_message, ended, front_fields}
use Rattle.hc_message.proofs.Takes.{ok_is}
use Rattle.hc_message.proofs.Taken.{what_is_read_is_spelled}
use Rattle.hc_message.proofs.Unless.{unless_given, unless_then}

abbrev Field : Type 0
Field = Result (ℕ × List ℕ) FieldFault

abbrev at : ℕ → List ℕ → Field
at tag fields = Ok (tag, fields)

abbrev Fields : Type 0
Fields = Result (Msg × List ℕ) MsgFault

abbrev failed : MsgFault → Result Msg MsgFault
failed fault = Err fault

-- no byte at all
pub no_tag : (bytes : List ℕ) (f : FieldFault) → front_byte bytes ≡ Err f → decode_message bytes ≡ Err (msg_fault_of f)
unfolding decode_message
no_tag [] field.Short e = refl
no_tag [] field.Range e = absurd cc
no_tag (b ∷ bytes) f e = absurd cc

-- a tag and what comes after it
tagged : (bytes : List ℕ) (tag : ℕ) (fields : List ℕ) → front_byte bytes ≡ at tag fields → decode_message bytes ≡ ended (front_fields tag fields)
unfolding decode_message
tagged [] tag fields e = absurd cc
tagged (b ∷ bytes) tag fields e =
    let same = ok_is (b, bytes) (tag, fields) e in
    ap (λ (x : ℕ × List ℕ). ended (front_fields x.0 x.1)) same

-- ---- with the message

pub tag_fault : (bytes : List ℕ) (f : FieldFault) → front_byte bytes ≡ Err f → MatchBool (is_memory (msg_fault_of f)) (Unit {0}) (decode_message bytes ≡ Err (msg_fault_of f))
tag_fault bytes f e = unless_given (is_memory (msg_fault_of f)) (decode_message bytes ≡ failed (msg_fault_of f)) (no_tag bytes f e)

-- a fault of the fields is the message's
pub fields_fault : (bytes : List ℕ) (tag : ℕ) (fields : List ℕ) (fault : MsgFault) → front_byte bytes ≡ at tag fields
    → MatchBool (is_memory fault) (Unit {0}) (front_fields tag fields ≡ Err fault) → MatchBool (is_memory fault) (Unit {0}) (decode_message bytes ≡ Err fault)
fields_fault bytes tag fields fault e fails =
    let none : Fields = Err fault in
    unless_then (is_memory fault) (front_fields tag fields ≡ none) (decode_message bytes ≡ failed fault) (λ is. tagged bytes tag fields e ∙ ap ended is) fails

-- bytes after the fields
ended_extra : (m : Msg) (rest : List ℕ) (empty : Bool) → empty ≡ (length rest == 0) → empty ≡ false → ended (Ok (m, rest)) ≡ Err Extra
ended_extra m [] empty is full = absurd cc
ended_extra m (b ∷ rest) empty is full = refl

pub some_extra : (bytes : List ℕ) (tag : ℕ) (fields : List ℕ) (m : Msg) (rest : List ℕ) (empty : Bool) → front_byte bytes ≡ at tag fields → front_fields tag fields ≡ Ok (m, rest) → empty ≡ (length rest == 0) → empty ≡ false → decode_message bytes ≡ Err Extra
some_extra bytes tag fields m rest empty e read is full = tagged bytes tag fields e ∙ ap ended read ∙ ended_extra m rest empty is full

-- no byte after the fields
ended_whole : (m : Msg) (rest : List ℕ) (empty : Bool) → empty ≡ (length rest == 0) → empty ≡ true → ended (Ok (m, rest)) ≡ Ok m
ended_whole m [] empty is none = refl
ended_whole m (b ∷ rest) empty is none =
    let zero : length (b ∷ rest) ≡ 0 = eqb-true (length (b ∷ rest)) 0 (sym is ∙ none) in
    absurd (omega arith)

pub no_extra : (bytes : List ℕ) (tag : ℕ) (fields : List ℕ) (m : Msg) (rest : List ℕ) (empty : Bool) → front_byte bytes ≡ at tag fields → front_fields tag fields ≡ Ok (m, rest) → empty ≡ (length rest == 0) → empty ≡ true → decode_message bytes ≡ Ok m
no_extra bytes tag fields m rest empty e read is none = tagged bytes tag fields e ∙ ap ended read ∙ ended_whole m rest empty is none

-- what is read is a message's own bytes
pub spelled : (bytes : List ℕ) (r : Result Msg MsgFault) → AreBytes bytes → GivesUnlessMemory is_memory (λ m. m) r (decode_message bytes) → IfOk r (λ m. IsSpelled m bytes)
spelled bytes (Ok m) are e = what_is_read_is_spelled m bytes are e
spelled bytes (Err fault) are e = tt

-- ---- by a check, without the message

abbrev Check : Type 0
Check = Result (Unit {0}) MsgFault

checked_fault : (r : Fields) (fault : MsgFault) → after r ≡ Err fault → checked (ended r) ≡ Err fault
checked_fault (Ok x) fault e = absurd cc
checked_fault (Err f) fault e = cc

pub check_fault : (bytes : List ℕ) (tag : ℕ) (fields : List ℕ) (fault : MsgFault) → front_byte bytes ≡ at tag fields → after (front_fields tag fields) ≡ Err fault → checked (decode_message bytes) ≡ Err fault
check_fault bytes tag fields fault e is = ap checked (tagged bytes tag fields e) ∙ checked_fault (front_fields tag fields) fault is

abbrev left : List ℕ → Result (List ℕ) MsgFault
left rest = Ok rest

rest_is : (a b : List ℕ) → left a ≡ left b → a ≡ b
rest_is a b e = cc

checked_extra : (r : Fields) (rest : List ℕ) (empty : Bool) → after r ≡ left rest → empty ≡ (length rest == 0) → empty ≡ false → checked (ended r) ≡ Err Extra
checked_extra (Ok x) rest empty e is full =
    let same = rest_is x.1 rest e in
    ap checked (ended_extra x.0 x.1 empty (rw same is) full)
checked_extra (Err f) rest empty e is full = absurd cc

pub check_extra : (bytes : List ℕ) (tag : ℕ) (fields rest : List ℕ) (empty : Bool) → front_byte bytes ≡ at tag fields → after (front_fields tag fields) ≡ left rest → empty ≡ (length rest == 0) → empty ≡ false → checked (decode_message bytes) ≡ Err Extra
check_extra bytes tag fields rest empty e read is full =
    ap checked (tagged bytes tag fields e) ∙ checked_extra (front_fields tag fields) rest empty read is full

checked_whole : (r : Fields) (rest : List ℕ) (empty : Bool) → after r ≡ left rest → empty ≡ (length rest == 0) → empty ≡ true → checked (ended r) ≡ Ok tt
checked_whole (Ok x) rest empty e is none =
    let same = rest_is x.1 rest e in
    ap checked (ended_whole x.0 x.1 empty (rw same is) none)
checked_whole (Err f) rest empty e is none = absurd cc

pub check_whole : (bytes : List ℕ) (tag : ℕ) (fields rest : List ℕ) (empty : Bool) → front_byte bytes ≡ at tag fields → after (front_fields tag fields) ≡ left rest → empty ≡ (length rest == 0) → empty ≡ true → checked (decode_message bytes) ≡ Ok tt
check_whole bytes tag fields rest empty e read is none =
    ap checked (tagged bytes tag fields e) ∙ checked_whole (front_fields tag fields) rest empty read is none

-- what a check answers is the fault that is read
pub checked_err : {X E : Type 0} (r : Result X E) (fault : E) → checked r ≡ Err fault → r ≡ Err fault
checked_err (Ok x) fault e = absurd cc
checked_err (Err f) fault e = cc

-- and where it answers none there is none
pub checked_ok : {X E : Type 0} (r : Result X E) (fault : E) → checked r ≡ Ok tt → r ≡ Err fault → ⊥
checked_ok (Ok x) fault e h = cc
checked_ok (Err f) fault e h = cc
