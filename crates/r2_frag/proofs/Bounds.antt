-- No more than 256 messages are unfinished.
use Rattle.std.proofs.Common.{◌≡◌, ◌≤◌, ltb, length, List, [], ◌∷◌, inl, inr, refl, arith}
use Rattle.std.proofs.lemmas.Bool.{cases_Bool, ltb-true}
use Rattle.std.proofs.lemmas.List.{length-append}
use Rattle.r2_frag.specs.declared.added.Added.{Added}
use Rattle.r2_frag.specs.declared.key.Key.{Key}
use Rattle.r2_frag.specs.declared.unfinished.Unfinished.{Unfinished}
use Rattle.r2_frag.specs.Assembly.{begin, go_on, is_begun, is_of, message_under, put, with_part, without}
use Rattle.r2_frag.specs.Laws.{MostUnfinished}
use Rattle.r2_frag.proofs.Outcomes.{outcome}

-- without one there are no more
pub length-without : (key : Key) (messages : List Unfinished) → length (without key messages) ≤ length messages
unfolding without
length-without key [] = omega arith
length-without key (m ∷ rest) =
    let tail = length-without key rest in
    elim (cases_Bool (is_of key m)) [ inl t ↦ rw t (omega arith) | inr f ↦ rw f (omega (arith, tail)) ]

-- with one in another's place there are as many
length-put : (next : Unfinished) (messages : List Unfinished) → length (put next messages) ≡ length messages
unfolding put
length-put next [] = refl
length-put next (m ∷ rest) =
    let tail = length-put next rest in
    elim (cases_Bool (is_of next.key m)) [ inl t ↦ rw t refl | inr f ↦ rw f (omega (arith, tail)) ]

-- one more that begins doesn't pass the most
length-begin : (next : Unfinished) (messages : List Unfinished) → length messages ≤ 256 → length (begin next messages).1 ≤ 256
unfolding begin
length-begin next [] h = omega arith
length-begin next (m ∷ rest) h =
    elim (cases_Bool (ltb (length (m ∷ rest)) 256)) [
      | inl t ↦
          (let room = ltb-true (length (m ∷ rest)) 256 t in
          rw t (omega (arith, room, length-append (m ∷ rest) (next ∷ []))))
      | inr f ↦ rw f (omega (arith, h, length-append rest (next ∷ [])))
    ]

length-go_on : (next : Unfinished) (messages : List Unfinished) → length messages ≤ 256 → length (go_on next messages).1 ≤ 256
unfolding go_on
length-go_on next messages h =
    elim (cases_Bool (is_begun next.key messages)) [
      | inl t ↦ rw t (omega (arith, h, length-put next messages))
      | inr f ↦ rw f (length-begin next messages h)
    ]

-- adding a part leaves no more than 256
pub most_unfinished_stay : MostUnfinished
most_unfinished_stay messages key h payload most =
    let next : Unfinished = with_part (message_under key messages) h payload in
    outcome (λ (r : Added × List Unfinished). length r.1 ≤ 256) messages key h payload
    (λ answer e. most)
    (λ body good e. omega (arith, most, length-without next.key messages))
    (λ good e. length-go_on next messages most)
