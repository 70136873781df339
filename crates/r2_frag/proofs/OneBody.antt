-- Parts of one body, added to messages that keep parts of that body.
use Rattle.std.proofs.Common.{◌≡◌, ◌≢◌, ◌<◌, ◌+◌, ◌⊎◌, inl, inr, ℕ, Bool, true, false, if◌then◌else◌, is_some, length, List, Option, Some, None, set, replicate, refl, ap, sym, ◌∙◌, subst, arith}
use Rattle.std.specs.List.{Contains}
use Rattle.std.proofs.lemmas.Bool.{cases_Bool, cases_eq, cases_lt, eq-eqb, eqb-false, eqb-true, le-leb, le-ltb}
use Rattle.std.proofs.lemmas.List.{get_or-replicate, get_or_past, length-replicate, set_past}
use Rattle.std.proofs.lemmas.List.Elements.{All-contains_itself, All-weaker}
use Rattle.std.proofs.lemmas.Option.{cond_some}
use Rattle.r2_header.specs.declared.header.Header.{Header}
use Rattle.r2_frag.specs.declared.added.Added.{Added}
use Rattle.r2_frag.specs.declared.added.Added.TheVariants.{Repeat}
use Rattle.r2_frag.specs.declared.key.Key.{Key}
use Rattle.r2_frag.specs.declared.part_count.PartCount.{PartCount}
use Rattle.r2_frag.specs.declared.part_count.PartCount.TheVariants.{Exactly, AtLeast}
use Rattle.r2_frag.specs.declared.unfinished.Unfinished.{Unfinished}
use Rattle.r2_frag.specs.Assembly.{added, begun, both_counts, contradicts, count_said, has_all, joined, length_fits, message_under, number_of, piece_at, refusal, whole_body, with_part}
use Rattle.r2_frag.specs.Bodies.{GivesBody, HasOneBody, HasPartsOf, IsAllowed, IsPartOf}
use Rattle.r2_frag.specs.Laws.{OneBody}
use Rattle.r2_frag.specs.Parts.{part_count, piece}
use Rattle.r2_frag.proofs.BodyPieces.{joined-body, piece-inner, piece-most}
use Rattle.r2_frag.proofs.Headers.{part_count-least}
use Rattle.r2_frag.proofs.KeptPieces.{piece_at-other, piece_at-same}
use Rattle.r2_frag.proofs.Outcomes.{answer-go_on, left, outcome}
use Rattle.r2_frag.proofs.Places.{first_or_absent}
use Rattle.r2_frag.proofs.SameKeys.{same_key-true}

-- two that allow one count don't contradict each other
pub not_contradicts : (a b : PartCount) (n : ℕ) → IsAllowed a n → IsAllowed b n → contradicts a b ≡ false
not_contradicts (Exactly a) (Exactly b) n p q = let same : a ≡ b = p ∙ sym q in rw (eq-eqb a b same) refl
not_contradicts (Exactly a) (AtLeast b) n p q = le-ltb a b (omega arith)
not_contradicts (AtLeast a) (Exactly b) n p q = le-ltb b a (omega arith)
not_contradicts (AtLeast a) (AtLeast b) n p q = refl

-- and together allow it
IsAllowed-both : (a b : PartCount) (n : ℕ) → IsAllowed a n → IsAllowed b n → IsAllowed (both_counts a b) n
IsAllowed-both (Exactly a) b n p q = p
IsAllowed-both (AtLeast a) (Exactly b) n p q = q
IsAllowed-both (AtLeast a) (AtLeast b) n p q = omega arith

-- a part of a body says no other count than that of its pieces
pub IsAllowed-said : (body : List ℕ) (h : Header) (payload : List ℕ) → IsPartOf body h payload → IsAllowed (count_said h) (part_count body)
IsAllowed-said body h payload part =
    let below = part.number in
    elim (cases_Bool h.first) [
      | inl first ↦ rw first (part.counted first)
      | inr later ↦
          let number : number_of h ≡ h.number = rw later refl in
          elim (cases_Bool h.last) [
            | inl last ↦
                let here = eqb-true (number_of h + 1) (part_count body) (sym part.last ∙ last) in
                rw (later, last) (omega (arith, number, here))
            | inr inner ↦
                let other = eqb-false (number_of h + 1) (part_count body) (sym part.last ∙ inner) in
                let apart : number_of h + 1 ≢ part_count body = other in
                rw (later, inner) (omega (arith, number, below, apart))
          ]
    ]

-- and is as long as its piece
pub length_fits-part : (body : List ℕ) (h : Header) (payload : List ℕ) → IsPartOf body h payload → length_fits h payload ≡ true
length_fits-part body h payload part =
    let below = part.number in
    let long = ap (λ (p : List ℕ). length p) part.carries in
    elim (cases_Bool h.last) [
      | inl last ↦ rw last (le-leb (length payload) 1024 (omega (arith, long, piece-most body (number_of h))))
      | inr inner ↦
          let apart : number_of h + 1 ≢ part_count body = eqb-false (number_of h + 1) (part_count body) (sym part.last ∙ inner) in
          let before : number_of h + 1 < part_count body = omega (arith, below, apart) in
          rw inner (eq-eqb (length payload) 1024 (long ∙ piece-inner body (number_of h) before))
    ]

-- so it is refused only where it is kept already
pub refusal-part : (body : List ℕ) (count : PartCount) (is_kept : Bool) (h : Header) (payload : List ℕ) → IsAllowed count (part_count body) → IsPartOf body h payload → refusal count is_kept h payload ≡ (if is_kept then Some Repeat else None)
unfolding refusal
refusal-part body count is_kept h payload allowed part =
    rw (length_fits-part body h payload part, not_contradicts count (count_said h) (part_count body) allowed (IsAllowed-said body h payload part)) refl

-- an empty place
pub empty_place : (places n : ℕ) → piece_at n (replicate places None) ≡ None
empty_place places n =
    let none : Option (List ℕ) = None in
    elim (cases_lt n places) [
      | inl h ↦ get_or-replicate places n None None h
      | inr h ↦ get_or_past (replicate places none) n none (omega (arith, length-replicate places none))
    ]

-- a new message has parts of any body
pub HasPartsOf-begun : (body : List ℕ) (key : Key) → HasPartsOf body (begun key)
unfolding begun
HasPartsOf-begun body key =
    record { pieces = λ n p e. let none = empty_place 64 n in cc; count = part_count-least body }

-- the message of a key has the key
pub key-message_under : (key : Key) (messages : List Unfinished) → (message_under key messages).key ≡ key
unfolding message_under begun
key-message_under key messages =
    elim (first_or_absent key messages (begun key)) [
      | inl f ↦ (let place = f.2 in rw place.found (same_key-true _ _ place.has))
      | inr a ↦ rw a.found refl
    ]

-- and parts of the one body that the messages with it have
pub HasPartsOf-message : (body : List ℕ) (key : Key) (messages : List Unfinished) → HasOneBody body key messages → HasPartsOf body (message_under key messages)
unfolding message_under
HasPartsOf-message body key messages one =
    elim (first_or_absent key messages (begun key)) [
      | inl f ↦
          (let place = f.2 in
          rw place.found (one f.0 (begun key) f.1 (same_key-true _ _ place.has)))
      | inr a ↦ rw a.found (HasPartsOf-begun body key)
    ]

-- a part of the body is one more
pub HasPartsOf-with_part : (body : List ℕ) (m : Unfinished) (h : Header) (payload : List ℕ) → HasPartsOf body m → IsPartOf body h payload → HasPartsOf body (with_part m h payload)
unfolding with_part
HasPartsOf-with_part body m h payload has part =
    record {
      pieces = λ n p e.
          elim (cases_eq n (number_of h)) [
            | inl same ↦
                elim (cases_lt (number_of h) (length m.pieces)) [
                  | inl inside ↦
                      (let here = piece_at-same (number_of h) m.pieces (Some payload) inside in
                      let given : piece_at (number_of h) (set m.pieces (number_of h) (Some payload)) ≡ Some p = rw same at e in
                      let is : payload ≡ p = cc in
                      let less = part.number in
                      (omega (arith, same, less), sym is ∙ part.carries ∙ ap (piece body) (sym same)))
                  | inr past ↦ has.pieces n p (rw (set_past m.pieces (number_of h) (Some payload) past) at e)
                ]
            | inr other ↦ has.pieces n p (sym (piece_at-other n (number_of h) m.pieces (Some payload) other) ∙ e)
          ];
      count = IsAllowed-both m.count (count_said h) (part_count body) has.count (IsAllowed-said body h payload part);
    }

-- a message with parts of one body that is whole is that body
pub whole_body-is : (body : List ℕ) (count : PartCount) (pieces : List (Option (List ℕ))) (b : List ℕ) → IsAllowed count (part_count body) → ((n : ℕ) (p : List ℕ) → piece_at n pieces ≡ Some p → p ≡ piece body n) → whole_body count pieces ≡ Some b → b ≡ body
whole_body-is body (Exactly n) pieces b allowed are e =
    let parts = cond_some (has_all n pieces) (joined n pieces) b e in
    let all : has_all (part_count body) pieces ≡ true = rw (← allowed) parts.0 in
    sym parts.1 ∙ ap (λ (k : ℕ). joined k pieces) allowed ∙ joined-body body pieces are all
whole_body-is body (AtLeast n) pieces b allowed are e = cc

-- a kept part is no bad one
repeat-good : (body : List ℕ) (is_kept : Bool) (answer : Added) → (if is_kept then Some Repeat else None) ≡ Some answer → GivesBody body answer
repeat-good body true answer e = let same : Repeat ≡ answer = cc in subst (GivesBody body) same tt
repeat-good body false answer e = cc

-- a message with one part more has its key still
pub key-next : (key : Key) (messages : List Unfinished) (h : Header) (payload : List ℕ) → (with_part (message_under key messages) h payload).key ≡ key
unfolding with_part
key-next key messages h payload = key-message_under key messages

-- what comes of a part of the body that a message has parts of
pub gives_body : (body : List ℕ) (messages : List Unfinished) (key : Key) (h : Header) (payload : List ℕ) → HasPartsOf body (message_under key messages) → IsPartOf body h payload → GivesBody body (added messages key h payload).0
gives_body body messages key h payload has part =
    let m : Unfinished = message_under key messages in
    let next : Unfinished = with_part m h payload in
    let will : HasPartsOf body next = HasPartsOf-with_part body m h payload has part in
    let is_kept : Bool = is_some (piece_at (number_of h) m.pieces) in
    outcome (λ (r : Added × List Unfinished). GivesBody body r.0) messages key h payload
    (λ answer e. repeat-good body is_kept answer (sym (refusal-part body m.count is_kept h payload has.count part) ∙ e))
    (λ b good e. whole_body-is body next.count next.pieces b will.count (λ n p at. (will.pieces n p at).1) e)
    (λ good e. answer-go_on (GivesBody body) next messages tt (λ other. tt))

-- where a key has parts of one body only, a part of that body makes the message that body or goes with the others
pub one_body : OneBody
one_body body messages key h payload one part =
    let m : Unfinished = message_under key messages in
    let has = HasPartsOf-message body key messages one in
    record {
      answer = gives_body body messages key h payload has part;
      left =
          left (λ (u : Unfinished). Contains messages u ⊎ ((u.key ≡ key) × HasPartsOf body u)) messages key h payload
          (All-weaker (Contains messages) (λ (u : Unfinished). Contains messages u ⊎ ((u.key ≡ key) × HasPartsOf body u)) (λ u c. inl c) messages (All-contains_itself messages))
          (λ good e. inr (key-next key messages h payload, HasPartsOf-with_part body m h payload has part));
    }
