-- What holds of every outcome of adding a part, and of every message that is left.
use Rattle.std.proofs.Common.{◌≡◌, ℕ, Bool, true, false, if◌then◌else◌, ltb, length, List, [], ◌∷◌, ◌++◌, Option, Some, None, refl}
use Rattle.std.specs.List.{All}
use Rattle.std.proofs.lemmas.List.Elements.{All-cons, All-head, All-nil, All-push, All-tail}
use Rattle.r2_header.specs.declared.header.Header.{Header}
use Rattle.r2_frag.specs.declared.added.Added.{Added}
use Rattle.r2_frag.specs.declared.added.Added.TheVariants.{More, Whole, Dropped}
use Rattle.r2_frag.specs.declared.key.Key.{Key}
use Rattle.r2_frag.specs.declared.unfinished.Unfinished.{Unfinished}
use Rattle.r2_frag.specs.Assembly.{added, added_to, begin, finish_or, go_on, is_begun, is_of, message_under, put, refused, settle, unless_refused, whole_body, with_part, without}

-- one of two outcomes
abbrev either : Bool → Added × List Unfinished → Added × List Unfinished → Added × List Unfinished
either b x y = if b then x else y

-- a property of the outcome
abbrev Outcome : Type 1
Outcome = Added × List Unfinished → Type 0

by_whole : (P : Outcome) (next : Unfinished) (messages : List Unfinished) (o : Option (List ℕ)) → ((body : List ℕ) → o ≡ Some body → P (Whole body, without next.key messages)) → (o ≡ None → P (go_on next messages)) → P (finish_or o next.key messages (go_on next messages))
by_whole P next messages (Some body) whole more = whole body refl
by_whole P next messages None whole more = more refl

by_refusal : (P : Outcome) (next : Unfinished) (messages : List Unfinished) (o : Option Added) → ((answer : Added) → o ≡ Some answer → P (answer, messages)) → (o ≡ None → P (settle next messages)) → P (unless_refused o messages (settle next messages))
by_refusal P next messages (Some answer) refusal taken = refusal answer refl
by_refusal P next messages None refusal taken = taken refl

-- a part is refused, makes its message whole, or goes on
pub outcome : (P : Outcome) (messages : List Unfinished) (key : Key) (h : Header) (payload : List ℕ) → ((answer : Added) → refused messages key h payload ≡ Some answer → P (answer, messages)) → ((body : List ℕ) → refused messages key h payload ≡ None → whole_body (with_part (message_under key messages) h payload).count (with_part (message_under key messages) h payload).pieces ≡ Some body → P (Whole body, without (with_part (message_under key messages) h payload).key messages)) → (refused messages key h payload ≡ None → whole_body (with_part (message_under key messages) h payload).count (with_part (message_under key messages) h payload).pieces ≡ None → P (go_on (with_part (message_under key messages) h payload) messages)) → P (added messages key h payload)
unfolding added added_to settle
outcome P messages key h payload refusal whole more =
    let next : Unfinished = with_part (message_under key messages) h payload in
    by_refusal P next messages (refused messages key h payload) refusal (λ good. by_whole P next messages (whole_body next.count next.pieces) (λ body. whole body good) (more good))

-- what holds of each message holds of those that are left without one
pub All-without : (P : Unfinished → Type 0) (key : Key) (messages : List Unfinished) → All P messages → All P (without key messages)
unfolding without
All-without P key [] all = All-nil P
All-without P key (m ∷ rest) all =
    let tail = All-tail P m rest all in
    elim (is_of key m) as (λ b. All P (if b then rest else m ∷ without key rest)) [
      | true ↦ tail
      | false ↦ All-cons P m (without key rest) (All-head P m rest all) (All-without P key rest tail)
    ]

-- and of those among which one is put
pub All-put : (P : Unfinished → Type 0) (next : Unfinished) (messages : List Unfinished) → P next → All P messages → All P (put next messages)
unfolding put
All-put P next [] new all = All-nil P
All-put P next (m ∷ rest) new all =
    let tail = All-tail P m rest all in
    elim (is_of next.key m) as (λ b. All P (if b then next ∷ rest else m ∷ put next rest)) [
      | true ↦ All-cons P next rest new tail
      | false ↦ All-cons P m (put next rest) (All-head P m rest all) (All-put P next rest new tail)
    ]

-- or after which one is begun
pub All-begin : (P : Unfinished → Type 0) (next : Unfinished) (messages : List Unfinished) → P next → All P messages → All P (begin next messages).1
unfolding begin
All-begin P next [] new all = All-cons P next [] new (All-nil P)
All-begin P next (m ∷ rest) new all =
    elim (ltb (length (m ∷ rest)) 256) as (λ b. All P (either b (More, (m ∷ rest) ++ next ∷ []) (Dropped m.key, rest ++ next ∷ [])).1) [
      | true ↦ All-push P (m ∷ rest) next all new
      | false ↦ All-push P rest next (All-tail P m rest all) new
    ]

-- or where one goes on
pub All-go_on : (P : Unfinished → Type 0) (next : Unfinished) (messages : List Unfinished) → P next → All P messages → All P (go_on next messages).1
unfolding go_on
All-go_on P next messages new all =
    elim (is_begun next.key messages) as (λ b. All P (either b (More, put next messages) (begin next messages)).1) [
      | true ↦ All-put P next messages new all
      | false ↦ All-begin P next messages new all
    ]

-- what is left: what was there before, and the part's message where it isn't whole
pub left : (P : Unfinished → Type 0) (messages : List Unfinished) (key : Key) (h : Header) (payload : List ℕ) → All P messages → (refused messages key h payload ≡ None → whole_body (with_part (message_under key messages) h payload).count (with_part (message_under key messages) h payload).pieces ≡ None → P (with_part (message_under key messages) h payload)) → All P (added messages key h payload).1
left P messages key h payload all new =
    let next : Unfinished = with_part (message_under key messages) h payload in
    outcome (λ (r : Added × List Unfinished). All P r.1) messages key h payload (λ answer e. all) (λ body good e. All-without P next.key messages all) (λ good e. All-go_on P next messages (new good e) all)

-- where a message goes on the answer is More or Dropped
pub answer-go_on : (P : Added → Type 0) (next : Unfinished) (messages : List Unfinished) → P More → ((key : Key) → P (Dropped key)) → P (go_on next messages).0
unfolding go_on begin
answer-go_on P next [] more dropped =
    elim (is_begun next.key []) as (λ b. P (either b (More, put next []) (More, next ∷ [])).0) [ true ↦ more | false ↦ more ]
answer-go_on P next (m ∷ rest) more dropped =
    elim (is_begun next.key (m ∷ rest)) as (λ b. P (either b (More, put next (m ∷ rest)) (either (ltb (length (m ∷ rest)) 256) (More, (m ∷ rest) ++ next ∷ []) (Dropped m.key, rest ++ next ∷ []))).0) [
      | true ↦ more
      | false ↦
          elim (ltb (length (m ∷ rest)) 256) as (λ b. P (either b (More, (m ∷ rest) ++ next ∷ []) (Dropped m.key, rest ++ next ∷ [])).0) [
            | true ↦ more
            | false ↦ dropped m.key
          ]
    ]
