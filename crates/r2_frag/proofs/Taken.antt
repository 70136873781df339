-- What adding a part comes to, where no check refuses it.
use Rattle.std.proofs.Common.{◌≡◌, ◌≢◌, ◌<◌, ◌≤◌, ◌+◌, ◌&&◌, ◌==◌, inl, inr, ℕ, Bool, true, false, is_some, List, [], ◌∷◌, ◌++◌, Option, Some, None, length, get_or, set, refl, ap, ◌∙◌, arith}
use Rattle.std.specs.List.{find, position, remove}
use Rattle.std.proofs.lemmas.Bool.{and_parts, cases_Bool, eqb-false, eqb-true, le-ltb, lt-ltb}
use Rattle.std.proofs.lemmas.List.{get_or-replicate, get_or_default}
use Rattle.std.proofs.lemmas.List.Quantifiers.{position-Some}
use Rattle.r2_header.specs.declared.header.Header.{Header}
use Rattle.r2_header.specs.declared.packet.Packet.{Packet}
use Rattle.r2_header.specs.declared.packet.Packet.TheVariants.{Req0, Reply, ReqRdy, ReqN, Feedback, Reject, Ordering, Recover}
use Rattle.r2_header.specs.Header.{IsValid}
use Rattle.r2_header.specs.Table.{numbers}
use Rattle.r2_frag.specs.declared.added.Added.{Added}
use Rattle.r2_frag.specs.declared.added.Added.TheVariants.{More, Whole, Dropped}
use Rattle.r2_frag.specs.declared.key.Key.{Key}
use Rattle.r2_frag.specs.declared.part_count.PartCount.{PartCount}
use Rattle.r2_frag.specs.declared.part_count.PartCount.TheVariants.{Exactly, AtLeast}
use Rattle.r2_frag.specs.declared.unfinished.Unfinished.{Unfinished}
use Rattle.r2_frag.specs.Assembly.{added, added_to, begin, begun, both_counts, count_said, go_on, has_all, is_begun, joined, is_of, message_under, number_of, piece_at, refused, settle, whole_body, with_part}
use Rattle.r2_frag.proofs.KeptPieces.{has_all-missing, piece_at-other}
use Rattle.r2_frag.proofs.Places.{IsAbsent-position, IsFirst-position}
use Rattle.r2_frag.proofs.SameKeys.{same_key-true}

-- the message at the place of the key is its message
pub message_under-first : (key : Key) (messages : List Unfinished) (place : ℕ) (d : Unfinished) → position (is_of key) messages ≡ Some place → message_under key messages ≡ get_or messages place d
unfolding message_under
message_under-first key messages place d e = let f = IsFirst-position key messages place d e in rw f.found refl

-- where none has the key, its message is a new one
pub message_under-absent : (key : Key) (messages : List Unfinished) → position (is_of key) messages ≡ None → message_under key messages ≡ begun key
unfolding message_under
message_under-absent key messages e = let a = IsAbsent-position key messages e in rw a.found refl

-- the message at the place has the key
pub key-first : (key : Key) (messages : List Unfinished) (place : ℕ) (d : Unfinished) → position (is_of key) messages ≡ Some place → (get_or messages place d).key ≡ key
key-first key messages place d e =
    let p = position-Some (is_of key) messages place d e in same_key-true (get_or messages place d).key key p.1

-- no piece of a new message is kept
pub piece_at-begun : (key : Key) (n : ℕ) → n < 64 → piece_at n (begun key).pieces ≡ None
unfolding begun
piece_at-begun key n h = get_or-replicate 64 n None None h

-- its key is the one it is begun with, and it has a part at least
pub key-begun : (key : Key) → (begun key).key ≡ key
unfolding begun
key-begun key = refl

pub count-begun : (key : Key) → (begun key).count ≡ AtLeast 1
unfolding begun
count-begun key = refl

-- what comes of a part that no check refuses
pub added-taken : (messages : List Unfinished) (key : Key) (h : Header) (payload : List ℕ) → refused messages key h payload ≡ None → added messages key h payload ≡ settle (with_part (message_under key messages) h payload) messages
unfolding added added_to
added-taken messages key h payload e = rw e refl

-- and of one that a check refuses
pub added-refused : (messages : List Unfinished) (key : Key) (h : Header) (payload : List ℕ) (answer : Added) → refused messages key h payload ≡ Some answer → added messages key h payload ≡ (answer, messages)
unfolding added added_to
added-refused messages key h payload answer e = rw e refl

-- a part that no check refuses, and the message at its key's place as code reads it
pub record IsTaken (messages : List Unfinished) (key : Key) (h : Header) (payload : List ℕ) (place : ℕ) (m : Unfinished) (count : PartCount) (number : ℕ) : Type 0 where
  pub found : position (is_of key) messages ≡ Some place
  pub good : refused messages key h payload ≡ None
  pub read : m ≡ get_or messages place m
  pub counted : count ≡ both_counts m.count (count_said h)
  pub numbered : number ≡ number_of h

-- its message with the part
taken-with_part : (messages : List Unfinished) (key : Key) (h : Header) (payload : List ℕ) (place : ℕ) (m : Unfinished) (count : PartCount) (number : ℕ) → IsTaken messages key h payload place m count number → added messages key h payload ≡ settle (record m { count = count; pieces = set m.pieces number (Some payload) }) messages
unfolding with_part
taken-with_part messages key h payload place m count number t =
    added-taken messages key h payload t.good ∙ rw (message_under-first key messages place m t.found, ← t.read, ← t.counted, ← t.numbered) refl

-- two readings of one place are the same
pub same_read : {X : Type 0} (xs : List X) (i : ℕ) (x y : X) → i < length xs → x ≡ get_or xs i x → y ≡ get_or xs i y → x ≡ y
same_read xs i x y h e f = let same = get_or_default xs i x y h in cc

-- the key's place is one of the messages'
pub place-inside : (key : Key) (messages : List Unfinished) (place : ℕ) → position (is_of key) messages ≡ Some place → place < length messages
place-inside key messages place e = (position-Some (is_of key) messages place (begun key) e).0

-- that message becomes whole
pub added-whole : (messages : List Unfinished) (key : Key) (h : Header) (payload : List ℕ) (place : ℕ) (m : Unfinished) (count : PartCount) (number : ℕ) (body : List ℕ) → IsTaken messages key h payload place m count number → whole_body count (set m.pieces number (Some payload)) ≡ Some body → added messages key h payload ≡ (Whole body, remove messages place)
unfolding settle
added-whole messages key h payload place m count number body t whole =
    let f = IsFirst-position key messages place m t.found in
    let same : m.key ≡ key = ap (λ (u : Unfinished). u.key) t.read ∙ key-first key messages place m t.found in
    taken-with_part messages key h payload place m count number t ∙ rw (whole, same, f.left) refl

-- or goes on
pub added-more : (messages : List Unfinished) (key : Key) (h : Header) (payload : List ℕ) (place : ℕ) (m : Unfinished) (count : PartCount) (number : ℕ) → IsTaken messages key h payload place m count number → whole_body count (set m.pieces number (Some payload)) ≡ None → added messages key h payload ≡ (More, set messages place (record m { count = count; pieces = set m.pieces number (Some payload) }))
unfolding settle go_on is_begun
added-more messages key h payload place m count number t whole =
    let f = IsFirst-position key messages place m t.found in
    let same : m.key ≡ key = ap (λ (u : Unfinished). u.key) t.read ∙ key-first key messages place m t.found in
    let there : is_some (find (is_of m.key) messages) ≡ true = rw (same, f.found) refl in
    let next : Unfinished = record m { count = count; pieces = set m.pieces number (Some payload) } in
    taken-with_part messages key h payload place m count number t ∙ rw (whole, there) (ap (λ (left : List Unfinished). (More, left)) (f.replaced next same))

-- no table has a count or a number below 1
numbers-least : (p : Packet) (first : Bool) → (numbers p first).least ≡ 1
numbers-least Req0 true = refl
numbers-least Req0 false = refl
numbers-least Reply true = refl
numbers-least Reply false = refl
numbers-least ReqRdy true = refl
numbers-least ReqRdy false = refl
numbers-least ReqN true = refl
numbers-least ReqN false = refl
numbers-least Feedback true = refl
numbers-least Feedback false = refl
numbers-least Reject true = refl
numbers-least Reject false = refl
numbers-least Ordering true = refl
numbers-least Ordering false = refl
numbers-least Recover true = refl
numbers-least Recover false = refl

-- a valid header's number is 1 at least
pub number-valid : (h : Header) → IsValid h → 1 ≤ h.number
number-valid h valid = omega (arith, numbers-least h.packet h.first, valid.number.low)

-- a first part that is the only one makes a new message whole
pub whole_body-only : (key : Key) (h : Header) (payload : List ℕ) → h.first ≡ true → h.number ≡ 1 → whole_body (both_counts (begun key).count (count_said h)) (set (begun key).pieces (number_of h) (Some payload)) ≡ Some payload
unfolding begun has_all joined
whole_body-only key h payload first one = rw (first, one) refl

-- a place beside the one that a part fills in a new message is empty
piece_at-beside : (key : Key) (n number : ℕ) (payload : List ℕ) → n < 64 → n ≢ number → is_some (piece_at n (set (begun key).pieces number (Some payload))) ≡ false
piece_at-beside key n number payload h other =
    rw (piece_at-other n number (begun key).pieces (Some payload) other, piece_at-begun key n h) refl

-- an exact count of a new message with one part missing
not_whole : (count n : ℕ) (pieces : List (Option (List ℕ))) → n < count → is_some (piece_at n pieces) ≡ false → whole_body (Exactly count) pieces ≡ None
not_whole count n pieces h e = rw (has_all-missing count n pieces h e) refl

-- any other part doesn't
pub whole_body-first : (key : Key) (h : Header) (payload : List ℕ) → IsValid h → (h.first && (h.number == 1)) ≡ false → whole_body (both_counts (begun key).count (count_said h)) (set (begun key).pieces (number_of h) (Some payload)) ≡ None
whole_body-first key h payload valid e =
    let begins = count-begun key in
    let least = number-valid h valid in
    elim (cases_Bool h.first) [
      | inl first ↦
          let several : (h.number == 1) ≡ false = rw first at e in
          let other : h.number ≢ 1 = eqb-false h.number 1 several in
          rw (begins, first) (not_whole h.number 1 (set (begun key).pieces 0 (Some payload)) (omega arith) (piece_at-beside key 1 0 payload (omega arith) (λ (k : 1 ≡ 0). absurd (omega arith))))
      | inr later ↦
          elim (cases_Bool h.last) [
            | inl last ↦
                rw (begins, later, last) (not_whole (h.number + 1) 0 (set (begun key).pieces h.number (Some payload)) (omega arith) (piece_at-beside key 0 h.number payload (omega arith) (λ (k : 0 ≡ h.number). absurd (omega arith))))
            | inr inner ↦ rw (begins, later, inner) refl
          ]
    ]

-- a new message that is whole at once
pub added-only : (messages : List Unfinished) (key : Key) (h : Header) (payload : List ℕ) → position (is_of key) messages ≡ None → refused messages key h payload ≡ None → (h.first && (h.number == 1)) ≡ true → added messages key h payload ≡ (Whole payload, messages)
unfolding settle with_part
added-only messages key h payload absent good only =
    let parts = and_parts h.first (h.number == 1) only in
    let whole = whole_body-only key h payload parts.0 (eqb-true h.number 1 parts.1) in
    let a = IsAbsent-position key messages absent in
    added-taken messages key h payload good ∙ rw (message_under-absent key messages absent, whole, key-begun key, a.left) refl

-- a new message that goes on
pub added-first : (messages : List Unfinished) (key : Key) (h : Header) (payload : List ℕ) → IsValid h → position (is_of key) messages ≡ None → refused messages key h payload ≡ None → (h.first && (h.number == 1)) ≡ false → added messages key h payload ≡ begin (with_part (begun key) h payload) messages
unfolding settle with_part go_on is_begun
added-first messages key h payload valid absent good several =
    let whole = whole_body-first key h payload valid several in
    let a = IsAbsent-position key messages absent in
    added-taken messages key h payload good ∙ rw (message_under-absent key messages absent, whole, key-begun key, a.found) refl

-- a message after the others, where there is room
pub begin-room : (next : Unfinished) (messages : List Unfinished) → length messages < 256 → begin next messages ≡ (More, messages ++ next ∷ [])
unfolding begin
begin-room next [] h = refl
begin-room next (m ∷ rest) h = rw (lt-ltb (length (m ∷ rest)) 256 h) refl

-- and where there is none
pub begin-full : (next : Unfinished) (messages : List Unfinished) (oldest : Unfinished) → 256 ≤ length messages → oldest ≡ get_or (messages ++ next ∷ []) 0 oldest → begin next messages ≡ (Dropped oldest.key, remove (messages ++ next ∷ []) 0)
unfolding begin
begin-full next [] oldest h e = absurd (omega arith)
begin-full next (m ∷ rest) oldest h e = rw (le-ltb (length (m ∷ rest)) 256 h, e) refl
