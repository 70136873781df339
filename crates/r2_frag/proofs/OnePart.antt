-- Messages of one part, and what it is to be unfinished.
use Rattle.std.proofs.Common.{◌≡◌, ◌≢◌, ◌<◌, ◌+◌, inl, inr, ℕ, Bool, true, false, is_some, length, List, Some, None, get_or, set, refl, ap, ◌∙◌, arith}
use Rattle.std.specs.List.{All}
use Rattle.std.proofs.lemmas.Bool.{cases_Bool, cases_eq, lt-ltb, ltb-false, ne_eqb}
use Rattle.std.proofs.lemmas.List.{length-set}
use Rattle.std.proofs.lemmas.List.Elements.{All-get_or}
use Rattle.r2_header.specs.declared.header.Header.{Header}
use Rattle.r2_frag.specs.declared.added.Added.{Added}
use Rattle.r2_frag.specs.declared.added.Added.TheVariants.{Bad}
use Rattle.r2_frag.specs.declared.added.Why.{Why}
use Rattle.r2_frag.specs.declared.added.Why.TheVariants.{Length, Count}
use Rattle.r2_frag.specs.declared.key.Key.{Key}
use Rattle.r2_frag.specs.declared.part_count.PartCount.{PartCount}
use Rattle.r2_frag.specs.declared.part_count.PartCount.TheVariants.{Exactly, AtLeast}
use Rattle.r2_frag.specs.declared.unfinished.Unfinished.{Unfinished}
use Rattle.r2_frag.specs.Assembly.{added, begun, both_counts, contradicts, count_said, has_all, joined, least_count, length_fits, message_under, number_of, piece_at, refusal, refused, settle, whole_body, with_part}
use Rattle.r2_frag.specs.Bodies.{GivesAtOnce, IsUnfinished}
use Rattle.r2_frag.specs.Laws.{ForgettingLeavesUnfinished, IsRefusal, OnePart, RefusedChangesNothing, UnfinishedStay}
use Rattle.r2_frag.proofs.OneBody.{empty_place}
use Rattle.r2_frag.proofs.Outcomes.{All-without, answer-go_on, left, outcome}
use Rattle.r2_frag.proofs.Places.{IsAbsent, first_or_absent}
use Rattle.r2_frag.proofs.Taken.{added-refused, added-taken, count-begun, key-begun}

-- what it takes to be refused by none of the checks
pub record PassesChecks (count : PartCount) (is_kept : Bool) (h : Header) (payload : List ℕ) : Type 0 where
  pub fits : length_fits h payload ≡ true
  pub counts : contradicts count (count_said h) ≡ false
  pub new : is_kept ≡ false

-- where there is no refusal each check is passed
pub passes : (count : PartCount) (is_kept : Bool) (h : Header) (payload : List ℕ) → refusal count is_kept h payload ≡ None → PassesChecks count is_kept h payload
unfolding refusal
passes count is_kept h payload e =
    elim (cases_Bool (length_fits h payload)) [
      | inr short ↦ (let some = rw short at e in cc)
      | inl fits ↦
          elim (cases_Bool (contradicts count (count_said h))) [
            | inl against ↦ (let some = rw (fits, against) at e in cc)
            | inr counts ↦
                elim (cases_Bool is_kept) [
                  | inl kept ↦ (let some = rw (fits, counts, kept) at e in cc)
                  | inr new ↦ record { fits = fits; counts = counts; new = new }
                ]
          ]
    ]

-- a part that says that there is one part is the part 0
number-only : (h : Header) → count_said h ≡ Exactly 1 → number_of h ≡ 0
number-only h e =
    elim (cases_Bool h.first) [
      | inl first ↦ rw first refl
      | inr later ↦
          elim (cases_Bool h.last) [
            | inl last ↦
                (let said : Exactly (h.number + 1) ≡ Exactly 1 = rw (later, last) at e in
                let same : h.number + 1 ≡ 1 = ap least_count said in
                rw later (omega (arith, same)))
            | inr inner ↦ (let said : AtLeast (h.number + 2) ≡ Exactly 1 = rw (later, inner) at e in cc)
          ]
    ]

-- an unfinished message contradicts it
unfinished-contradicts : (count : PartCount) → 1 < least_count count → contradicts count (Exactly 1) ≡ true
unfinished-contradicts (Exactly n) h = rw (ne_eqb n 1 (λ (e : n ≡ 1). absurd (omega arith))) refl
unfinished-contradicts (AtLeast n) h = lt-ltb 1 n h

-- a part that is against the kept ones is bad
bad-against : (count : PartCount) (is_kept : Bool) (h : Header) (payload : List ℕ) → contradicts count (count_said h) ≡ true → (why : Why) × (refusal count is_kept h payload ≡ Some (Bad why))
unfolding refusal
bad-against count is_kept h payload against =
    elim (cases_Bool (length_fits h payload)) [
      | inl fits ↦ (Count (least_count count) (least_count (count_said h)), rw (fits, against) refl)
      | inr short ↦ (Length (number_of h) (length payload), rw short refl)
    ]

-- one that has the wrong length is bad
bad-length : (count : PartCount) (is_kept : Bool) (h : Header) (payload : List ℕ) → length_fits h payload ≡ false → refusal count is_kept h payload ≡ Some (Bad (Length (number_of h) (length payload)))
unfolding refusal
bad-length count is_kept h payload short = rw short refl

-- and one that isn't is none
not_bad : (count : PartCount) (h : Header) (payload : List ℕ) → length_fits h payload ≡ true → contradicts count (count_said h) ≡ false → refusal count false h payload ≡ None
unfolding refusal
not_bad count h payload fits counts = rw (fits, counts) refl

-- no piece of a new message is kept
pub none-begun : (key : Key) (n : ℕ) → piece_at n (begun key).pieces ≡ None
unfolding begun
none-begun key n = empty_place 64 n

-- there is a place for each
pub places-begun : (key : Key) → length (begun key).pieces ≡ 64
unfolding begun
places-begun key = refl

-- the only part makes a new message whole
only-whole : (key : Key) (payload : List ℕ) → whole_body (Exactly 1) (set (begun key).pieces 0 (Some payload)) ≡ Some payload
unfolding begun has_all joined
only-whole key payload = refl

-- what comes of one part
abbrev AtOnce : List Unfinished → List ℕ → Added × List Unfinished → Type 0
AtOnce messages payload r = GivesAtOnce payload r.0 × (r.1 ≡ messages)

-- among messages of which none has the key
one_part-absent : (messages : List Unfinished) (key : Key) (h : Header) (payload : List ℕ) → IsAbsent key messages → count_said h ≡ Exactly 1 → AtOnce messages payload (added messages key h payload)
unfolding message_under settle with_part
one_part-absent messages key h payload absent said =
    let new : message_under key messages ≡ begun key = rw absent.found refl in
    let number = number-only h said in
    elim (cases_Bool (length_fits h payload)) [
      | inr short ↦
          (let bad = added-refused messages key h payload _ (bad-length (message_under key messages).count (is_some (piece_at (number_of h) (message_under key messages).pieces)) h payload short) in
          rw bad (tt, refl))
      | inl fits ↦
          (let none : is_some (piece_at (number_of h) (message_under key messages).pieces) ≡ false = rw (new, none-begun key (number_of h)) refl in
          let counts : contradicts (message_under key messages).count (count_said h) ≡ false = rw (new, count-begun key, said) refl in
          let good : refused messages key h payload ≡ None = rw none (not_bad (message_under key messages).count h payload fits counts) in
          let taken = added-taken messages key h payload good in
          rw taken (rw new (rw (count-begun key, said, number, only-whole key payload, key-begun key, absent.left) (refl, refl))))
    ]

-- and where one has it, and waits for further parts
one_part-against : (messages : List Unfinished) (key : Key) (h : Header) (payload : List ℕ) → 1 < least_count (message_under key messages).count → count_said h ≡ Exactly 1 → AtOnce messages payload (added messages key h payload)
one_part-against messages key h payload several said =
    let against : contradicts (message_under key messages).count (count_said h) ≡ true = rw said (unfinished-contradicts (message_under key messages).count several) in
    let bad = bad-against (message_under key messages).count (is_some (piece_at (number_of h) (message_under key messages).pieces)) h payload against in
    rw (added-refused messages key h payload (Bad bad.0) bad.1) (tt, refl)

-- a message of one part is whole at once or isn't taken, and no message among the unfinished changes
pub one_part : OnePart
unfolding message_under
one_part messages key h payload all said =
    elim (first_or_absent key messages (begun key)) [
      | inl f ↦
          (let place = f.2 in
          let waits = All-get_or IsUnfinished messages f.0 (begun key) f.1 all in
          one_part-against messages key h payload (rw place.found waits.several) said)
      | inr a ↦ one_part-absent messages key h payload a said
    ]

-- a refused part changes nothing
pub refused_changes_nothing : RefusedChangesNothing
refused_changes_nothing messages key h payload =
    outcome (λ (r : Added × List Unfinished). IsRefusal r.0 → r.1 ≡ messages) messages key h payload
    (λ answer e i. refl)
    (λ body good e i. absurd i)
    (λ good e i. absurd (answer-go_on (λ (a : Added). IsRefusal a → ⊥) (with_part (message_under key messages) h payload) messages (λ k. k) (λ other k. k) i))

-- a message that isn't refused by what an unfinished one's parts say is unfinished still
several-both : (a b : PartCount) → 1 < least_count a → contradicts a b ≡ false → 1 < least_count (both_counts a b)
several-both (Exactly a) b h e = h
several-both (AtLeast a) (Exactly b) h e = let le = ltb-false b a e in omega (arith, h, le)
several-both (AtLeast a) (AtLeast b) h e = omega arith

-- what the first part of a message says, where it doesn't make it whole
several-begun : (said : PartCount) (key : Key) (h : Header) (payload : List ℕ) → count_said h ≡ said → contradicts (AtLeast 1) said ≡ false → whole_body (both_counts (AtLeast 1) said) (set (begun key).pieces (number_of h) (Some payload)) ≡ None → 1 < least_count (both_counts (AtLeast 1) said)
several-begun (Exactly n) key h payload e counts not_whole =
    let least = ltb-false n 1 counts in
    elim (cases_eq n 1) [
      | inl one ↦
          (let number = number-only h (e ∙ ap Exactly one) in
          let whole = rw (one, number, only-whole key payload) at not_whole in
          cc)
      | inr other ↦ (let apart : n ≢ 1 = other in omega (arith, least, apart))
    ]
several-begun (AtLeast n) key h payload e counts not_whole =
    elim (cases_Bool h.first) [
      | inl first ↦ (let said : Exactly h.number ≡ AtLeast n = rw first at e in cc)
      | inr later ↦
          elim (cases_Bool h.last) [
            | inl last ↦ (let said : Exactly (h.number + 1) ≡ AtLeast n = rw (later, last) at e in cc)
            | inr inner ↦
                (let said : AtLeast (h.number + 2) ≡ AtLeast n = rw (later, inner) at e in
                let same : h.number + 2 ≡ n = ap least_count said in
                omega (arith, same))
          ]
    ]

-- a message that goes on is unfinished
next-unfinished : (messages : List Unfinished) (key : Key) (h : Header) (payload : List ℕ) → All IsUnfinished messages → refused messages key h payload ≡ None → whole_body (with_part (message_under key messages) h payload).count (with_part (message_under key messages) h payload).pieces ≡ None → IsUnfinished (with_part (message_under key messages) h payload)
unfolding message_under with_part
next-unfinished messages key h payload all good not_whole =
    let checks = passes (message_under key messages).count (is_some (piece_at (number_of h) (message_under key messages).pieces)) h payload good in
    elim (first_or_absent key messages (begun key)) [
      | inl f ↦
          (let place = f.2 in
          let waits = All-get_or IsUnfinished messages f.0 (begun key) f.1 all in
          let counts : contradicts (get_or messages f.0 (begun key)).count (count_said h) ≡ false = rw place.found at checks.counts in
          rw place.found (record {
            lacks = rw place.found at not_whole;
            several = several-both (get_or messages f.0 (begun key)).count (count_said h) waits.several counts;
            places = length-set (get_or messages f.0 (begun key)).pieces (number_of h) (Some payload) ∙ waits.places;
          }))
      | inr a ↦
          (let counts : contradicts (AtLeast 1) (count_said h) ≡ false = rw (a.found, count-begun key) at checks.counts in
          let whole : whole_body (both_counts (AtLeast 1) (count_said h)) (set (begun key).pieces (number_of h) (Some payload)) ≡ None = rw (a.found, count-begun key) at not_whole in
          rw a.found (record {
            lacks = rw a.found at not_whole;
            several = rw (count-begun key) (several-begun (count_said h) key h payload refl counts whole);
            places = length-set (begun key).pieces (number_of h) (Some payload) ∙ places-begun key;
          }))
    ]

-- what is unfinished stays so, and what is begun is so
pub unfinished_stay : UnfinishedStay
unfinished_stay messages key h payload all =
    left IsUnfinished messages key h payload all (next-unfinished messages key h payload all)

-- and so where a message is forgotten
pub forgetting_leaves_unfinished : ForgettingLeavesUnfinished
forgetting_leaves_unfinished messages key all = All-without IsUnfinished key messages all
