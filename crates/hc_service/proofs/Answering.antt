-- The answers of a batch are the one-thread service's replies.
use Rattle.std.proofs.Common.{◌≡◌, ◌⊎◌, inl, inr, ℕ, zero, suc, ◌+◌, ◌-◌, ◌<◌, ◌≤◌, Bool, true, false, List, [], ◌∷◌, ◌++◌, length, take, get_or, slice_get, Option, Some, refl, sym, ap, subst, ◌∙◌, arith}
use Rattle.std.specs.Prelude.{◌==◌, if◌then◌else◌, option_map, option_and_then, Any}
use Rattle.std.specs.FinMap as finite
use Rattle.std.proofs.lemmas.Bool.{cases_lt, eqb-true}
use Rattle.std.proofs.lemmas.Grind.{common_steps}
use Rattle.std.proofs.lemmas.List.{take-map}
use Rattle.std.proofs.lemmas.List.Elements.{All-cons, All-weaker}
use Rattle.std.proofs.lemmas.Option.{slice_get-get_or, slice_get-map}
use Rattle.r2_base.specs.declared.entry.Kind.{Kind}
use Rattle.r2_base.specs.declared.entry.Kind.TheVariants.{Blank, Write, Read}
use Rattle.r2_base.specs.Entry.{is_request}
use Rattle.hc_store.specs.Service.{Contents, Served, serve}
use Rattle.hc_store.specs.State.{State}
use Rattle.hc_store.specs.Replies.{Operation, after_all, after_entry, entry_reply, reply_at, reply_of}
use Rattle.hc_log.specs.declared.stored.Stored.{Stored}
use Rattle.hc_log.specs.Log.{blank_of, stored_at}
use Rattle.hc_service.specs.declared.answer.Answer.{Answer}
use Rattle.hc_service.specs.Batch.{answer_of, entries_between, run_all, run_by, run_one}
use Rattle.hc_service.specs.Entries.{contents_after, operation_of, operations}
use Rattle.hc_service.specs.Laws.{AreAnswers, BatchesAnswer, IsAnswer, IsOwn}
use Rattle.hc_service.proofs.Entries.{contents_after-next}
use Rattle.hc_service.proofs.Running.{between-more, between-none, one-executes, run-more, run-none}

-- the reply to an entry is what one thread would answer after the entries before it
pub reply-here : (log : List Stored) (index before : ℕ) (s : Stored) (contents : Contents) → index ≡ suc before → slice_get log before ≡ Some s → contents ≡ contents_after (take before log)
    → reply_at (operations log) index ≡ entry_reply contents index s.entry.kind s.body
unfolding reply_at operations
reply-here log index before s contents place there is =
    let answer : Contents → Operation → Option (List ℕ) = λ c operation. entry_reply c (suc before) operation.kind operation.body in
    ap (reply_at (operations log)) place
    ∙ ap (option_and_then (answer (after_all finite.empty (take before (operations log))))) (slice_get-map operation_of log before ∙ ap (option_map operation_of) there)
    ∙ ap (λ (front : List Operation). answer (after_all finite.empty front) (operation_of s)) (take-map operation_of before log)
    ∙ ap (λ (c : Contents). answer c (operation_of s)) (sym is)
    ∙ ap (λ (n : ℕ). entry_reply contents n s.entry.kind s.body) (sym place)

-- one entry is executed, and what one thread would keep after it is kept
pub one-follows : (me : ℕ) (log : List Stored) (index : ℕ) (service : State) → 1 ≤ index → index ≤ length log → service.contents ≡ contents_after (take (index - 1) log)
    → (run_one me index (stored_at log index) service).service.contents ≡ contents_after (take (index + 1 - 1) log)
one-follows me log index service some inside is =
    let s = stored_at log index in
    let there : slice_get log (index - 1) ≡ Some s = slice_get-get_or log (index - 1) (blank_of 0) (omega arith) in
    let place : index - 1 + 1 ≡ index + 1 - 1 = omega arith in
    (one-executes me index s service).contents ∙ ap (λ (c : Contents). after_entry c s.entry.kind s.body) is ∙ sym (contents_after-next log (index - 1) s there)
    ∙ ap (λ (n : ℕ). contents_after (take n log)) place

-- an entry gets no answer of this member
record Silent (me : ℕ) (s : Stored) (answers : List Answer) : Type 0 where
  none : answers ≡ []
  foreign : is_request s.entry.kind ≡ true → s.entry.replier ≡ me → ⊥

-- or one
record Speaks (me index : ℕ) (s : Stored) (contents : Contents) (answers : List Answer) : Type 0 where
  a : Answer
  one : answers ≡ a ∷ []
  asks : is_request s.entry.kind ≡ true
  own : s.entry.replier ≡ me
  place : a.index ≡ index
  rid : a.rid ≡ s.entry.rid
  kind : a.kind ≡ s.entry.kind
  payload : entry_reply contents index s.entry.kind s.body ≡ Some a.payload

module _ (me index : ℕ) (s : Stored) (contents : Contents) where
  says : (b : Bool) (served : Served) → (s.entry.replier == me) ≡ b → is_request s.entry.kind ≡ true → entry_reply contents index s.entry.kind s.body ≡ Some (reply_of index served)
      → Silent me s (if b then answer_of index s served ∷ [] else []) ⊎ Speaks me index s contents (if b then answer_of index s served ∷ [] else [])
  says true served mine asks payload =
      inr (record {
        a = answer_of index s served;
        one = refl;
        asks = asks;
        own = eqb-true s.entry.replier me mine;
        place = refl;
        rid = refl;
        kind = refl;
        payload = payload;
      })
  says false served mine asks payload =
      inl (record { none = refl; foreign = λ asked own. absurd (grind (arith, common_steps, mine, own)) })

by-kind : (kind : Kind) (me index : ℕ) (s : Stored) (service : State) → s.entry.kind ≡ kind
    → Silent me s (run_by kind me index s service).answers ⊎ Speaks me index s service.contents (run_by kind me index s service).answers
by-kind Blank me index s service is =
    inl (record { none = refl; foreign = λ asks own. (let blank = ap is_request is in cc) })
by-kind Write me index s service is =
    says me index s service.contents (s.entry.replier == me) (serve service.contents Write s.body) refl (ap is_request is) (ap (λ (k : Kind). entry_reply service.contents index k s.body) is)
by-kind Read me index s service is =
    says me index s service.contents (s.entry.replier == me) (serve service.contents Read s.body) refl (ap is_request is) (ap (λ (k : Kind). entry_reply service.contents index k s.body) is)

one-says : (me index : ℕ) (s : Stored) (service : State) → Silent me s (run_one me index s service).answers ⊎ Speaks me index s service.contents (run_one me index s service).answers
unfolding run_one
one-says me index s service = by-kind s.entry.kind me index s service refl

-- answers from the next index on, and those of one entry more
module _ (me : ℕ) (log : List Stored) (index to : ℕ) where
  wider : (a : Answer) → IsAnswer me log (index + 1) to a → IsAnswer me log index to a
  wider a is = record { first = (let first = is.first in omega (arith, first)); last = is.last; is_own = is.is_own; rid = is.rid; kind = is.kind; payload = is.payload }

  silent-more : (later : List Answer) → (IsOwn me log index → ⊥) → AreAnswers me log (index + 1) to later → AreAnswers me log index to later
  silent-more later foreign are =
      record {
        each = All-weaker (IsAnswer me log (index + 1) to) (IsAnswer me log index to) wider later are.each;
        every = λ i low high own. elim (cases_lt index i) [
          | inl above ↦ are.every i (omega (arith, above)) high own
          | inr below ↦ absurd (foreign (let same : i ≡ index = omega (arith, low, below) in subst (IsOwn me log) same own))
        ];
        rising = are.rising;
      }

  speaks-more : (a : Answer) (later : List Answer) → a.index ≡ index → IsAnswer me log index to a → AreAnswers me log (index + 1) to later → AreAnswers me log index to (a ∷ later)
  speaks-more a later place is are =
      record {
        each = All-cons (IsAnswer me log index to) a later is (All-weaker (IsAnswer me log (index + 1) to) (IsAnswer me log index to) wider later are.each);
        every = λ i low high own. elim (cases_lt index i) as (λ _. Any (λ x. x.index ≡ i) (a ∷ later)) [
          | inl above ↦ (let there = are.every i (omega (arith, above)) high own in (suc there.0, there.1, omega (arith, there.2), there.3, there.4))
          | inr below ↦ (zero, a, omega arith, refl, omega (arith, low, below, place))
        ];
        rising = λ i j d before inside. rises i j d before inside;
      }
    where
      rises : (i j : ℕ) (d : Answer) → i < j → j < suc (length later) → (get_or (a ∷ later) i d).index < (get_or (a ∷ later) j d).index
      rises i zero d before inside = absurd (omega arith)
      rises zero (suc j) d before inside = (let first = (are.each j d (omega arith)).first in omega (arith, first, place))
      rises (suc i) (suc j) d before inside = are.rising i j d (omega arith) (omega arith)

answers-none : (me : ℕ) (log : List Stored) (index to : ℕ) (service : State) → to < index → AreAnswers me log index to (run_all me index (entries_between log index to) service).answers
answers-none me log index to service past =
    let none = ap (λ (es : List Stored). (run_all me index es service).answers) (between-none log index to past) ∙ ap (λ b. b.answers) (run-none me index service) in
    subst (AreAnswers me log index to) (sym none)
    (record {
      each = λ k d h. absurd (omega arith);
      every = λ i low high own. absurd (omega arith);
      rising = λ i j d before inside. absurd (omega arith);
    })

answers-more : (me : ℕ) (log : List Stored) (index to : ℕ) (service : State) → 1 ≤ index → index ≤ to → to ≤ length log → service.contents ≡ contents_after (take (index - 1) log)
    → AreAnswers me log (index + 1) to (run_all me (index + 1) (entries_between log (index + 1) to) (run_one me index (stored_at log index) service).service).answers
    → AreAnswers me log index to (run_all me index (entries_between log index to) service).answers
answers-more me log index to service some inside within is are =
    let s = stored_at log index in
    let first = run_one me index s service in
    let later = (run_all me (index + 1) (entries_between log (index + 1) to) first.service).answers in
    let all = ap (λ (es : List Stored). (run_all me index es service).answers) (between-more log index to some inside within)
    ∙ ap (λ b. b.answers) (run-more me index s (entries_between log (index + 1) to) service) in
    let there : slice_get log (index - 1) ≡ Some s = slice_get-get_or log (index - 1) (blank_of 0) (omega arith) in
    let reply = reply-here log index (index - 1) s service.contents (omega arith) there is in
    subst (AreAnswers me log index to) (sym all)
    (elim (one-says me index s service) as (λ _. AreAnswers me log index to (first.answers ++ later)) [
      | inl silent ↦
          subst (λ (xs : List Answer). AreAnswers me log index to (xs ++ later)) (sym silent.none)
          (silent-more me log index to later (λ own. silent.foreign own.asks own.own) are)
      | inr speaks ↦
          let a = speaks.a in
          let at : (n : ℕ) → n ≡ index → stored_at log n ≡ s = λ n e. ap (stored_at log) e in
          let same = at a.index speaks.place in
          let answer : IsAnswer me log index to a =
          record {
            first = (let place = speaks.place in omega (arith, place));
            last = (let place = speaks.place in omega (arith, place));
            is_own = record { asks = ap (λ (x : Stored). is_request x.entry.kind) same ∙ speaks.asks; own = ap (λ (x : Stored). x.entry.replier) same ∙ speaks.own };
            rid = speaks.rid ∙ sym (ap (λ (x : Stored). x.entry.rid) same);
            kind = speaks.kind ∙ sym (ap (λ (x : Stored). x.entry.kind) same);
            payload = ap (reply_at (operations log)) speaks.place ∙ reply ∙ speaks.payload;
          } in
          subst (λ (xs : List Answer). AreAnswers me log index to (xs ++ later)) (sym speaks.one)
          (speaks-more me log index to a later speaks.place answer are)
    ])

answers-from : (left : ℕ) (me : ℕ) (log : List Stored) (index to : ℕ) (service : State) → index + left ≡ to + 1 → 1 ≤ index → to ≤ length log → service.contents ≡ contents_after (take (index - 1) log)
    → AreAnswers me log index to (run_all me index (entries_between log index to) service).answers
answers-from zero me log index to service sum some within is = answers-none me log index to service (omega arith)
answers-from (suc left) me log index to service sum some within is =
    let after = (run_one me index (stored_at log index) service).service in
    let next = one-follows me log index service some (omega arith) is in
    answers-more me log index to service some (omega arith) within is (answers-from left me log (index + 1) to after (omega arith) (omega arith) within next)

pub batches_answer : BatchesAnswer
batches_answer me log from to service some order within is = answers-from (to + 1 - from) me log from to service (omega arith) some within is
