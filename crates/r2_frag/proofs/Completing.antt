-- The answer to a part of the body after a history: whole exactly at the last part that is missing.
use Rattle.std.proofs.Common.{◌≡◌, ◌<◌, ◌≤◌, ◌==◌, inl, inr, ℕ, zero, suc, true, false, is_some, length, List, ◌∷◌, Option, Some, None, refl, ap, sym, ◌∙◌, subst, arith}
use Rattle.std.proofs.lemmas.Bool.{and_from, cases_Bool, eqb-true}
use Rattle.std.proofs.lemmas.Option.{cond_some}
use Rattle.r2_header.specs.declared.header.Header.{Header}
use Rattle.r2_frag.specs.declared.added.Added.{Added}
use Rattle.r2_frag.specs.declared.added.Added.TheVariants.{More, Whole, Repeat, Dropped}
use Rattle.r2_frag.specs.declared.key.Key.{Key}
use Rattle.r2_frag.specs.declared.part_count.PartCount.{PartCount}
use Rattle.r2_frag.specs.declared.part_count.PartCount.TheVariants.{Exactly, AtLeast}
use Rattle.r2_frag.specs.declared.unfinished.Unfinished.{Unfinished}
use Rattle.r2_frag.specs.Assembly.{added, has_all, joined, message_under, number_of, piece_at, refused, settle, whole_body, with_part}
use Rattle.r2_frag.specs.Bodies.{IsAllowed, IsPartOf}
use Rattle.r2_frag.specs.Histories.{Operation, messages_after, numbers, parts_under}
use Rattle.r2_frag.specs.Laws.{Completes, WholeAtTheLastPart}
use Rattle.r2_frag.specs.Parts.{part_count}
use Rattle.r2_frag.proofs.Gathering.{Holds, Holds-next, Keeps, gathers-after, has_number, has_number-true, true-has_number}
use Rattle.r2_frag.proofs.Headers.{part_count-least}
use Rattle.r2_frag.proofs.KeptPieces.{has_all-missing}
use Rattle.r2_frag.proofs.OneBody.{gives_body, refusal-part, whole_body-is}
use Rattle.r2_frag.proofs.Outcomes.{answer-go_on}
use Rattle.r2_frag.proofs.Taken.{added-refused, added-taken}

-- where each piece is kept all are
has_all-each : (pieces : List (Option (List ℕ))) (count : ℕ) → ((n : ℕ) → n < count → is_some (piece_at n pieces) ≡ true) → has_all count pieces ≡ true
unfolding has_all
has_all-each pieces zero each = refl
has_all-each pieces (suc n) each =
    and_from (has_all n pieces) (is_some (piece_at n pieces)) (has_all-each pieces n (λ k h. each k (omega arith))) (each n (omega arith))

-- and the other way round
each-has_all : (pieces : List (Option (List ℕ))) (count n : ℕ) → has_all count pieces ≡ true → n < count → is_some (piece_at n pieces) ≡ true
each-has_all pieces count n all h =
    elim (cases_Bool (is_some (piece_at n pieces))) [
      | inl t ↦ t
      | inr f ↦ (let missing = has_all-missing count n pieces h f in let clash : true ≡ false = sym all ∙ missing in cc)
    ]

-- a message that holds each number of the body is whole
whole-each : (body : List ℕ) (numbers : List ℕ) (m : Unfinished) → Holds body numbers m → ((n : ℕ) → n < part_count body → has_number n numbers ≡ true) → whole_body m.count m.pieces ≡ Some (joined (part_count body) m.pieces)
whole-each body numbers m holds each =
    let all = has_all-each m.pieces (part_count body) (λ n h. holds.kept n ∙ each n h) in
    rw (holds.counted (each 0 (part_count-least body)), all) refl

-- and one that is whole holds each
each-whole : (body : List ℕ) (numbers : List ℕ) (m : Unfinished) (count : PartCount) (b : List ℕ) → Holds body numbers m → IsAllowed count (part_count body) → whole_body count m.pieces ≡ Some b → (n : ℕ) → n < part_count body → has_number n numbers ≡ true
each-whole body numbers m (Exactly k) b holds allowed e n h =
    let parts = cond_some (has_all k m.pieces) (joined k m.pieces) b e in
    let below : n < k = omega (arith, allowed, h) in
    sym (holds.kept n) ∙ each-has_all m.pieces k n parts.0 below
each-whole body numbers m (AtLeast k) b holds allowed e n h = cc

-- a number that is there already adds none
number-again : (n k : ℕ) (numbers : List ℕ) → has_number k numbers ≡ true → has_number n (k ∷ numbers) ≡ true → has_number n numbers ≡ true
number-again n k numbers there e =
    elim (cases_Bool (k == n)) [
      | inl t ↦ subst (λ (i : ℕ). has_number i numbers ≡ true) (eqb-true k n t) there
      | inr f ↦ rw f at e
    ]

-- the answer to a part that is kept, to one that completes its message, and to any other
answer-kept : (messages : List Unfinished) (key : Key) (h : Header) (payload : List ℕ) → refused messages key h payload ≡ Some Repeat → (added messages key h payload).0 ≡ Repeat
answer-kept messages key h payload e = rw (added-refused messages key h payload Repeat e) refl

answer-whole : (messages : List Unfinished) (key : Key) (h : Header) (payload b : List ℕ) → refused messages key h payload ≡ None → whole_body (with_part (message_under key messages) h payload).count (with_part (message_under key messages) h payload).pieces ≡ Some b → (added messages key h payload).0 ≡ Whole b
unfolding settle
answer-whole messages key h payload b good e = rw (added-taken messages key h payload good, e) refl

answer-other : (P : Added → Type 0) (messages : List Unfinished) (key : Key) (h : Header) (payload : List ℕ) → refused messages key h payload ≡ None → whole_body (with_part (message_under key messages) h payload).count (with_part (message_under key messages) h payload).pieces ≡ None → P More → ((other : Key) → P (Dropped other)) → P (added messages key h payload).0
unfolding settle
answer-other P messages key h payload good e more dropped =
    rw (added-taken messages key h payload good, e) (answer-go_on P (with_part (message_under key messages) h payload) messages more dropped)

-- a part that came since the key began
completes-again : (body : List ℕ) (key : Key) (earlier : List Operation) (h : Header) (payload : List ℕ) → Keeps body (numbers (parts_under key earlier)) (message_under key (messages_after earlier)) → IsPartOf body h payload → has_number (number_of h) (numbers (parts_under key earlier)) ≡ true → refused (messages_after earlier) key h payload ≡ Some Repeat → Completes body key earlier h payload
completes-again body key earlier h payload keeps part there again =
    let messages : List Unfinished = messages_after earlier in
    let came : List ℕ = numbers (parts_under key earlier) in
    let m : Unfinished = message_under key messages in
    let n : ℕ = number_of h in
    let a = answer-kept messages key h payload again in
    record {
      good = gives_body body messages key h payload keeps.holds.parts part;
      whole = (
        λ e. (let clash : Repeat ≡ Whole body = sym a ∙ e in cc),
        λ each.
            (let whole = whole-each body came m keeps.holds (λ k below. number-again k n came there (true-has_number k (n ∷ came) (each k below))) in
            let waits = keeps.waits in
            cc),
      );
      repeat = (λ e. has_number-true n came there, λ c. a);
    }

-- a part that didn't come since then, and completes its message
completes-last : (body : List ℕ) (key : Key) (earlier : List Operation) (h : Header) (payload b : List ℕ) → length body ≤ 65536 → Keeps body (numbers (parts_under key earlier)) (message_under key (messages_after earlier)) → IsPartOf body h payload → has_number (number_of h) (numbers (parts_under key earlier)) ≡ false → refused (messages_after earlier) key h payload ≡ None → whole_body (with_part (message_under key (messages_after earlier)) h payload).count (with_part (message_under key (messages_after earlier)) h payload).pieces ≡ Some b → Completes body key earlier h payload
completes-last body key earlier h payload b short keeps part new good e =
    let messages : List Unfinished = messages_after earlier in
    let came : List ℕ = numbers (parts_under key earlier) in
    let m : Unfinished = message_under key messages in
    let next : Unfinished = with_part m h payload in
    let n : ℕ = number_of h in
    let holds : Holds body (n ∷ came) next = Holds-next body came m h payload short keeps.holds part in
    let is : b ≡ body = whole_body-is body next.count next.pieces b holds.parts.count (λ k p at. (holds.parts.pieces k p at).1) e in
    let a = answer-whole messages key h payload b good e ∙ ap Whole is in
    record {
      good = gives_body body messages key h payload keeps.holds.parts part;
      whole =
          (λ w k below. has_number-true k (n ∷ came) (each-whole body (n ∷ came) next next.count b holds holds.parts.count e k below), λ each. a);
      repeat = (
        λ r. (let clash : Whole body ≡ Repeat = sym a ∙ r in cc),
        λ c.
            (let there = true-has_number n came c in let clash : true ≡ false = sym there ∙ new in cc),
      );
    }

-- or doesn't
completes-more : (body : List ℕ) (key : Key) (earlier : List Operation) (h : Header) (payload : List ℕ) → length body ≤ 65536 → Keeps body (numbers (parts_under key earlier)) (message_under key (messages_after earlier)) → IsPartOf body h payload → has_number (number_of h) (numbers (parts_under key earlier)) ≡ false → refused (messages_after earlier) key h payload ≡ None → whole_body (with_part (message_under key (messages_after earlier)) h payload).count (with_part (message_under key (messages_after earlier)) h payload).pieces ≡ None → Completes body key earlier h payload
completes-more body key earlier h payload short keeps part new good e =
    let messages : List Unfinished = messages_after earlier in
    let came : List ℕ = numbers (parts_under key earlier) in
    let m : Unfinished = message_under key messages in
    let next : Unfinished = with_part m h payload in
    let n : ℕ = number_of h in
    let holds : Holds body (n ∷ came) next = Holds-next body came m h payload short keeps.holds part in
    record {
      good = gives_body body messages key h payload keeps.holds.parts part;
      whole = (
        λ w. absurd (answer-other (λ (x : Added). x ≡ Whole body → ⊥) messages key h payload good e (λ q. cc) (λ other q. cc) w),
        λ each.
            (let whole = whole-each body (n ∷ came) next holds (λ k below. true-has_number k (n ∷ came) (each k below)) in
            cc),
      );
      repeat = (
        λ r. absurd (answer-other (λ (x : Added). x ≡ Repeat → ⊥) messages key h payload good e (λ q. cc) (λ other q. cc) r),
        λ c.
            (let there = true-has_number n came c in let clash : true ≡ false = sym there ∙ new in cc),
      );
    }

-- by whether the message is whole with the part
completes-new : (body : List ℕ) (key : Key) (earlier : List Operation) (h : Header) (payload : List ℕ) (o : Option (List ℕ)) → length body ≤ 65536 → Keeps body (numbers (parts_under key earlier)) (message_under key (messages_after earlier)) → IsPartOf body h payload → has_number (number_of h) (numbers (parts_under key earlier)) ≡ false → refused (messages_after earlier) key h payload ≡ None → whole_body (with_part (message_under key (messages_after earlier)) h payload).count (with_part (message_under key (messages_after earlier)) h payload).pieces ≡ o → Completes body key earlier h payload
completes-new body key earlier h payload (Some b) short keeps part new good e = completes-last body key earlier h payload b short keeps part new good e
completes-new body key earlier h payload None short keeps part new good e = completes-more body key earlier h payload short keeps part new good e

-- in any order and with any repeats the body comes exactly at the part that completes it
pub whole_at_the_last_part : WholeAtTheLastPart
whole_at_the_last_part body key earlier h payload short parts part =
    let messages : List Unfinished = messages_after earlier in
    let m : Unfinished = message_under key messages in
    let keeps = (gathers-after body key earlier short).keeps parts in
    let known = refusal-part body m.count (is_some (piece_at (number_of h) m.pieces)) h payload keeps.holds.parts.count part in
    let there = keeps.holds.kept (number_of h) in
    elim (cases_Bool (is_some (piece_at (number_of h) m.pieces))) [
      | inl t ↦
          (let again : refused messages key h payload ≡ Some Repeat = known ∙ rw t refl in
          completes-again body key earlier h payload keeps part (sym there ∙ t) again)
      | inr f ↦
          (let good : refused messages key h payload ≡ None = known ∙ rw f refl in
          completes-new body key earlier h payload (whole_body (with_part m h payload).count (with_part m h payload).pieces) short keeps part (sym there ∙ f) good refl)
    ]
