-- What a message keeps of the parts that came, through every step of a history.
use Rattle.std.proofs.Common.{◌≡◌, ◌<◌, ◌≤◌, ◌==◌, ◌||◌, inl, inr, ℕ, zero, suc, Bool, true, false, is_some, ltb, length, List, [], ◌∷◌, ◌++◌, Option, Some, None, get_or, set, unwrap_or, refl, ap, sym, ◌∙◌, subst, arith}
use Rattle.std.specs.List.{Contains, find}
use Rattle.std.proofs.lemmas.Bool.{cases_Bool, cases_eq, eq-eqb, eqb-true, ne_eqb, or_right}
use Rattle.std.proofs.lemmas.List.{length-set}
use Rattle.std.proofs.lemmas.List.Elements.{All-head, All-tail}
use Rattle.std.proofs.lemmas.Option.{same_Some}
use Rattle.r2_header.specs.declared.header.Header.{Header}
use Rattle.r2_frag.specs.declared.added.Added.{Added}
use Rattle.r2_frag.specs.declared.added.Added.TheVariants.{More, Whole, Repeat, Bad, Dropped}
use Rattle.r2_frag.specs.declared.key.Key.{Key}
use Rattle.r2_frag.specs.declared.part_count.PartCount.{PartCount}
use Rattle.r2_frag.specs.declared.part_count.PartCount.TheVariants.{Exactly, AtLeast}
use Rattle.r2_frag.specs.declared.unfinished.Unfinished.{Unfinished}
use Rattle.r2_frag.specs.Assembly.{added, begin, begun, both_counts, contradicts, count_said, go_on, is_begun, is_of, length_fits, message_under, number_of, piece_at, put, refusal, whole_body, with_part, without}
use Rattle.r2_frag.specs.Bodies.{HasPartsOf, IsAllowed, IsPartOf}
use Rattle.r2_frag.specs.Histories.{ArePartsOf, Part, Operation, Adds, Forgets, messages_after, numbers, parts_by, parts_under, unless_given_up, with_new}
use Rattle.r2_frag.specs.Keys.{same_key}
use Rattle.r2_frag.specs.Laws.{IsRefusal}
use Rattle.r2_frag.specs.Parts.{part_count}
use Rattle.r2_frag.specs.Pending.{AreDistinct}
use Rattle.r2_frag.proofs.Finding.{AreDistinct-push, AreDistinct-put, AreDistinct-without, find-push_other, find-push_same, find-put_other, find-put_same, find-without_other, find-without_same}
use Rattle.r2_frag.proofs.KeptPieces.{piece_at-other, piece_at-same}
use Rattle.r2_frag.proofs.OneBody.{HasPartsOf-begun, HasPartsOf-with_part, key-next}
use Rattle.r2_frag.proofs.OnePart.{none-begun, places-begun}
use Rattle.r2_frag.proofs.Outcomes.{outcome}
use Rattle.r2_frag.proofs.SameKeys.{same_key-true}
use Rattle.r2_frag.proofs.Taken.{count-begun}

-- whether a number is among these
abbrev pub has_number : ℕ → List ℕ → Bool
has_number n [] = false
has_number n (k ∷ ks) = (k == n) || has_number n ks

-- which is to be one of them
pub has_number-true : (n : ℕ) (ks : List ℕ) → has_number n ks ≡ true → Contains ks n
has_number-true n [] e = cc
has_number-true n (k ∷ ks) e =
    elim (cases_Bool (k == n)) [
      | inl t ↦ (0, omega arith, eqb-true k n t)
      | inr f ↦
          (let there = has_number-true n ks (rw f at e) in
          let place : ℕ = there.0 in
          let inside = there.1 in
          (suc place, omega (arith, inside), there.2))
    ]

true-has_number_at : (n : ℕ) (ks : List ℕ) (place : ℕ) → place < length ks → get_or ks place n ≡ n → has_number n ks ≡ true
true-has_number_at n [] place h e = absurd (omega arith)
true-has_number_at n (k ∷ ks) zero h e = rw (eq-eqb k n e) refl
true-has_number_at n (k ∷ ks) (suc place) h e = or_right (k == n) (has_number n ks) (true-has_number_at n ks place (omega arith) e)

pub true-has_number : (n : ℕ) (ks : List ℕ) → Contains ks n → has_number n ks ≡ true
true-has_number n ks c = true-has_number_at n ks c.0 c.1 c.2

-- what a message holds, where parts of the body with these numbers came
pub record Holds (body : List ℕ) (numbers : List ℕ) (m : Unfinished) : Type 0 where
  pub parts : HasPartsOf body m
  pub places : length m.pieces ≡ 64
  pub kept : (n : ℕ) → is_some (piece_at n m.pieces) ≡ has_number n numbers
  pub counted : has_number 0 numbers ≡ true → m.count ≡ Exactly (part_count body)

-- and isn't whole
pub record Keeps (body : List ℕ) (numbers : List ℕ) (m : Unfinished) : Type 0 where
  pub holds : Holds body numbers m
  pub waits : whole_body m.count m.pieces ≡ None

-- a new message keeps nothing
Keeps-begun : (body : List ℕ) (key : Key) → Keeps body [] (begun key)
Keeps-begun body key =
    record {
      holds = record {
        parts = HasPartsOf-begun body key;
        places = places-begun key;
        kept = λ n. rw (none-begun key n) refl;
        counted = λ e. cc;
      };
      waits = rw (count-begun key) refl;
    }

-- a body has 64 parts at most
count-within : (body : List ℕ) → length body ≤ 65536 → part_count body ≤ 64
unfolding part_count
count-within body h = omega arith

-- the first part of a body counts its parts
counted-first : (body : List ℕ) (h : Header) (payload : List ℕ) → IsPartOf body h payload → number_of h ≡ 0 → count_said h ≡ Exactly (part_count body)
counted-first body h payload part e =
    let first : h.first ≡ true = part.first ∙ eq-eqb (number_of h) 0 e in
    rw first (ap Exactly (part.counted first))

-- an exact count stays, and one that is said is taken
both-said : (a : PartCount) (n : ℕ) → IsAllowed a n → both_counts a (Exactly n) ≡ Exactly n
both-said (Exactly a) n e = ap Exactly e
both-said (AtLeast a) n e = refl

-- a message with one part more holds it besides
pub Holds-next : (body : List ℕ) (numbers : List ℕ) (m : Unfinished) (h : Header) (payload : List ℕ) → length body ≤ 65536 → Holds body numbers m → IsPartOf body h payload → Holds body (number_of h ∷ numbers) (with_part m h payload)
unfolding with_part
Holds-next body numbers m h payload short k part =
    let less = part.number in
    let within = count-within body short in
    let inside : number_of h < length m.pieces = omega (arith, less, within, k.places) in
    record {
      parts = HasPartsOf-with_part body m h payload k.parts part;
      places = length-set m.pieces (number_of h) (Some payload) ∙ k.places;
      kept = λ n.
          elim (cases_eq (number_of h) n) [
            | inl same ↦
                (let here = piece_at-same (number_of h) m.pieces (Some payload) inside in
                let there : piece_at n (set m.pieces (number_of h) (Some payload)) ≡ Some payload = ap (λ (i : ℕ). piece_at i (set m.pieces (number_of h) (Some payload))) (sym same) ∙ here in
                rw (there, eq-eqb (number_of h) n same) refl)
            | inr other ↦
                (let there = piece_at-other n (number_of h) m.pieces (Some payload) (λ (e : n ≡ number_of h). other (sym e)) in
                rw (there, ne_eqb (number_of h) n other) (k.kept n))
          ];
      counted = λ e.
          elim (cases_eq (number_of h) 0) [
            | inl first ↦ rw (counted-first body h payload part first) (both-said m.count (part_count body) k.parts.count)
            | inr later ↦
                (let before : has_number 0 numbers ≡ true = rw (ne_eqb (number_of h) 0 later) at e in
                rw (k.counted before) refl)
          ];
    }

-- where the same message is found, the key's message is the same
message_under-same : (key : Key) (a b : List Unfinished) → find (is_of key) a ≡ find (is_of key) b → message_under key a ≡ message_under key b
unfolding message_under
message_under-same key a b e = ap (λ (o : Option Unfinished). unwrap_or o (begun key)) e

message_under-found : (key : Key) (messages : List Unfinished) (m : Unfinished) → find (is_of key) messages ≡ Some m → message_under key messages ≡ m
unfolding message_under
message_under-found key messages m e = rw e refl

message_under-none : (key : Key) (messages : List Unfinished) → find (is_of key) messages ≡ None → message_under key messages ≡ begun key
unfolding message_under
message_under-none key messages e = rw e refl

-- the messages are distinct, and that of the key keeps the parts that were taken, where these are of the body
pub record Gathers (body : List ℕ) (key : Key) (parts : List Part) (messages : List Unfinished) : Type 0 where
  pub distinct : AreDistinct messages
  pub keeps : ArePartsOf body parts → Keeps body (numbers parts) (message_under key messages)

-- a message that goes on under some key: where that is this one, it keeps the parts and one more
record GoesOn (body : List ℕ) (key other : Key) (part : Part) (parts : List Part) (next : Unfinished) : Type 0 where
  owner : next.key ≡ other
  more : same_key other key ≡ true → ArePartsOf body (part ∷ parts) → Keeps body (numbers (part ∷ parts)) next

-- the key of a message that goes on, as the test sees it
owner-test : (key other : Key) (next : Unfinished) (b : Bool) → next.key ≡ other → same_key other key ≡ b → same_key next.key key ≡ b
owner-test key other next b e t = ap (λ (k : Key). same_key k key) e ∙ t

-- a message that is put among the others
after_put : (body : List ℕ) (key other : Key) (part : Part) (parts : List Part) (next : Unfinished) (messages : List Unfinished) → Gathers body key parts messages → GoesOn body key other part parts next → is_some (find (is_of next.key) messages) ≡ true → Gathers body key (with_new key other part parts) (put next messages)
after_put body key other part parts next messages g o begun' =
    elim (cases_Bool (same_key other key)) [
      | inl t ↦
          (let same : next.key ≡ key = o.owner ∙ same_key-true other key t in
          let there : is_some (find (is_of key) messages) ≡ true = subst (λ (k : Key). is_some (find (is_of k) messages) ≡ true) same begun' in
          record {
            distinct = AreDistinct-put next messages g.distinct;
            keeps = rw (t, message_under-found key (put next messages) next (find-put_same key next messages same there)) (o.more t);
          })
      | inr f ↦
          (let apart = owner-test key other next false o.owner f in
          record {
            distinct = AreDistinct-put next messages g.distinct;
            keeps = rw (f, message_under-same key (put next messages) messages (find-put_other key next messages apart)) g.keeps;
          })
    ]

-- a message that is put after the others
after_push : (body : List ℕ) (key other : Key) (part : Part) (parts : List Part) (next : Unfinished) (messages : List Unfinished) → Gathers body key parts messages → GoesOn body key other part parts next → find (is_of next.key) messages ≡ None → Gathers body key (with_new key other part parts) (messages ++ next ∷ [])
after_push body key other part parts next messages g o none =
    elim (cases_Bool (same_key other key)) [
      | inl t ↦
          (let same : next.key ≡ key = o.owner ∙ same_key-true other key t in
          let absent : find (is_of key) messages ≡ None = subst (λ (k : Key). find (is_of k) messages ≡ None) same none in
          let has = owner-test key other next true o.owner t in
          record {
            distinct = AreDistinct-push messages next none g.distinct;
            keeps = rw (t, message_under-found key (messages ++ next ∷ []) next (find-push_same (is_of key) messages next has absent)) (o.more t);
          })
      | inr f ↦
          (let apart = owner-test key other next false o.owner f in
          record {
            distinct = AreDistinct-push messages next none g.distinct;
            keeps = rw (f, message_under-same key (messages ++ next ∷ []) messages (find-push_other (is_of key) messages next apart)) g.keeps;
          })
    ]

-- the message begun first leaves
after_oldest : (body : List ℕ) (key : Key) (parts : List Part) (m : Unfinished) (rest : List Unfinished) → Gathers body key parts (m ∷ rest) → Gathers body key (unless_given_up key m.key parts) rest
after_oldest body key parts m rest g =
    elim (cases_Bool (same_key m.key key)) [
      | inl t ↦
          (let same = same_key-true m.key key t in
          let gone : find (is_of key) rest ≡ None = subst (λ (k : Key). find (is_of k) rest ≡ None) same g.distinct.0 in
          record { distinct = g.distinct.1; keeps = rw (t, message_under-none key rest gone) (λ are. Keeps-begun body key) })
      | inr f ↦
          (let there : find (is_of key) rest ≡ find (is_of key) (m ∷ rest) = rw f refl in
          record { distinct = g.distinct.1; keeps = rw (f, message_under-same key rest (m ∷ rest) there) g.keeps })
    ]

-- and the key of one that begins has none, so the parts that are given up aren't its own
goes_on-oldest : (body : List ℕ) (key other : Key) (part : Part) (parts : List Part) (next m : Unfinished) → GoesOn body key other part parts next → is_of next.key m ≡ false → GoesOn body key other part (unless_given_up key m.key parts) next
goes_on-oldest body key other part parts next m o apart =
    record {
      owner = o.owner;
      more = λ t.
          (let same : next.key ≡ key = o.owner ∙ same_key-true other key t in
          let stays : same_key m.key key ≡ false = subst (λ (k : Key). same_key m.key k ≡ false) same apart in
          rw stays (o.more t));
    }

-- what is gathered after an answer
abbrev GathersBy : List ℕ → Key → Key → Part → List Part → Added × List Unfinished → Type 0
GathersBy body key other part parts r = Gathers body key (parts_by r.0 key other part parts) r.1

-- a message that begins
after_begin : (body : List ℕ) (key other : Key) (part : Part) (parts : List Part) (next : Unfinished) (messages : List Unfinished) → Gathers body key parts messages → GoesOn body key other part parts next → find (is_of next.key) messages ≡ None → GathersBy body key other part parts (begin next messages)
unfolding begin
after_begin body key other part parts next [] g o none = after_push body key other part parts next [] g o none
after_begin body key other part parts next (m ∷ rest) g o none =
    elim (cases_Bool (ltb (length (m ∷ rest)) 256)) [
      | inl room ↦ rw room (after_push body key other part parts next (m ∷ rest) g o none)
      | inr full ↦
          elim (cases_Bool (is_of next.key m)) [
            | inl t ↦ (let some = rw t at none in cc)
            | inr f ↦
                (let tail : find (is_of next.key) rest ≡ None = rw f at none in
                let left = after_oldest body key parts m rest g in
                let on = goes_on-oldest body key other part parts next m o f in
                rw full (after_push body key other part (unless_given_up key m.key parts) next rest left on tail))
          ]
    ]

-- what isn't some is none
none-found : {X : Type 0} (o : Option X) → is_some o ≡ false → o ≡ None
none-found (Some x) e = cc
none-found None e = refl

-- a message that goes on
after_go_on : (body : List ℕ) (key other : Key) (part : Part) (parts : List Part) (next : Unfinished) (messages : List Unfinished) → Gathers body key parts messages → GoesOn body key other part parts next → GathersBy body key other part parts (go_on next messages)
unfolding go_on is_begun
after_go_on body key other part parts next messages g o =
    elim (cases_Bool (is_some (find (is_of next.key) messages))) [
      | inl t ↦ rw t (after_put body key other part parts next messages g o t)
      | inr f ↦ rw f (after_begin body key other part parts next messages g o (none-found (find (is_of next.key) messages) f))
    ]

-- a message that is forgotten, or whole
after_without : (body : List ℕ) (key other owner : Key) (parts : List Part) (messages : List Unfinished) → Gathers body key parts messages → owner ≡ other → Gathers body key (unless_given_up key other parts) (without owner messages)
after_without body key other owner parts messages g e =
    elim (cases_Bool (same_key other key)) [
      | inl t ↦
          (let same : owner ≡ key = e ∙ same_key-true other key t in
          let gone : find (is_of key) (without owner messages) ≡ None = subst (λ (k : Key). find (is_of key) (without k messages) ≡ None) (sym same) (find-without_same key messages g.distinct) in
          record {
            distinct = AreDistinct-without owner messages g.distinct;
            keeps = rw (t, message_under-none key (without owner messages) gone) (λ are. Keeps-begun body key);
          })
      | inr f ↦
          (let apart : same_key owner key ≡ false = ap (λ (k : Key). same_key k key) e ∙ f in
          record {
            distinct = AreDistinct-without owner messages g.distinct;
            keeps = rw (f, message_under-same key (without owner messages) messages (find-without_other key owner messages apart)) g.keeps;
          })
    ]

-- a refusal changes no parts
refused-parts : (answer : Added) (key other : Key) (part : Part) (parts : List Part) → IsRefusal answer → parts_by answer key other part parts ≡ parts
refused-parts Repeat key other part parts i = refl
refused-parts (Bad why) key other part parts i = refl
refused-parts More key other part parts i = absurd i
refused-parts (Whole b) key other part parts i = absurd i
refused-parts (Dropped k) key other part parts i = absurd i

-- each refusal is one
refusal-is : (count : PartCount) (is_kept : Bool) (h : Header) (payload : List ℕ) (answer : Added) → refusal count is_kept h payload ≡ Some answer → IsRefusal answer
unfolding refusal
refusal-is count is_kept h payload answer e =
    elim (cases_Bool (length_fits h payload)) [
      | inr short ↦ (let same : Bad _ ≡ answer = same_Some _ _ (rw short at e) in subst IsRefusal same tt)
      | inl fits ↦
          elim (cases_Bool (contradicts count (count_said h))) [
            | inl against ↦ (let same : Bad _ ≡ answer = same_Some _ _ (rw (fits, against) at e) in subst IsRefusal same tt)
            | inr counts ↦
                elim (cases_Bool is_kept) [
                  | inl kept ↦ (let same : Repeat ≡ answer = same_Some _ _ (rw (fits, counts, kept) at e) in subst IsRefusal same tt)
                  | inr new ↦ (let none = rw (fits, counts, new) at e in cc)
                ]
          ]
    ]

-- a part that is added, under this key or another
after_added : (body : List ℕ) (key other : Key) (parts : List Part) (messages : List Unfinished) (h : Header) (payload : List ℕ) → length body ≤ 65536 → Gathers body key parts messages → GathersBy body key other (h, payload) parts (added messages other h payload)
after_added body key other parts messages h payload short g =
    let n : ℕ = number_of h in
    let part : Part = (h, payload) in
    let next : Unfinished = with_part (message_under other messages) h payload in
    let owner : next.key ≡ other = key-next other messages h payload in
    outcome (GathersBy body key other part parts) messages other h payload
    (λ answer e.
    let none = refused-parts answer key other part parts (refusal-is (message_under other messages).count (is_some (piece_at n (message_under other messages).pieces)) h payload answer e) in
    subst (λ (ps : List Part). Gathers body key ps messages) (sym none) g)
    (λ b good e. after_without body key other next.key parts messages g owner)
    (λ good e. after_go_on body key other part parts next messages g (record {
      owner = owner;
      more = λ t are.
          (let same = same_key-true other key t in
          let mine : message_under other messages ≡ message_under key messages = ap (λ (k : Key). message_under k messages) same in
          let before : ArePartsOf body parts = All-tail (λ (p : Part). IsPartOf body p.0 p.1) part parts are in
          let mine_keeps : Keeps body (numbers parts) (message_under other messages) = subst (Keeps body (numbers parts)) (sym mine) (g.keeps before) in
          let is : IsPartOf body h payload = All-head (λ (p : Part). IsPartOf body p.0 p.1) part parts are in
          record { holds = Holds-next body (numbers parts) (message_under other messages) h payload short mine_keeps.holds is; waits = e });
    }))

-- what is gathered after a history
pub gathers-after : (body : List ℕ) (key : Key) (steps : List Operation) → length body ≤ 65536 → Gathers body key (parts_under key steps) (messages_after steps)
unfolding messages_after parts_under
gathers-after body key [] short =
    record { distinct = tt; keeps = rw (message_under-none key [] refl) (λ are. Keeps-begun body key) }
gathers-after body key (Adds other h payload ∷ earlier) short =
    after_added body key other (parts_under key earlier) (messages_after earlier) h payload short (gathers-after body key earlier short)
gathers-after body key (Forgets other ∷ earlier) short =
    after_without body key other other (parts_under key earlier) (messages_after earlier) (gathers-after body key earlier short) refl
