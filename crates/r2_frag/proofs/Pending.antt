-- What holds of the messages that an assembly keeps goes on to hold.
use Rattle.std.proofs.Common.{◌≡◌, ltb, length, inl, inr, false, is_some, ℕ, List, [], ◌∷◌, Option, Some, None, Result, Ok, Err, IfOk, OnErr, refl, sym, subst, arith}
use Rattle.std.specs.List.{find}
use Rattle.std.proofs.lemmas.Bool.{cases_Bool}
use Rattle.std.proofs.lemmas.List.Elements.{All-nil}
use Rattle.r2_base.specs.declared.fault.NoMemory.{NoMemory}
use Rattle.r2_header.specs.declared.header.Header.{Header}
use Rattle.r2_header.specs.Header.{IsValid}
use Rattle.r2_frag.specs.declared.added.Added.{Added}
use Rattle.r2_frag.specs.declared.key.Key.{Key}
use Rattle.r2_frag.specs.declared.unfinished.Unfinished.{Unfinished}
use Rattle.r2_frag.specs.Assembly.{added, begin, go_on, is_begun, is_of, message_under, with_part, without}
use Rattle.r2_frag.specs.Bodies.{IsUnfinished}
use Rattle.r2_frag.specs.Keys.{class_of}
use Rattle.r2_frag.specs.Pending.{AreDistinct, ArePending}
use Rattle.r2_frag.specs.Sizes.{IsBodyWithin, IsShort}
use Rattle.r2_frag.proofs.Bounds.{length-without, most_unfinished_stay}
use Rattle.r2_frag.proofs.Finding.{AreDistinct-push, AreDistinct-put, AreDistinct-without}
use Rattle.r2_frag.proofs.OnePart.{forgetting_leaves_unfinished, unfinished_stay}
use Rattle.r2_frag.proofs.Outcomes.{outcome}
use Rattle.r2_frag.proofs.Sizes.{added-short, stays_short, without-short}

-- no messages
pub pending-none : ArePending []
pending-none = record { most = omega arith; distinct = tt; short = All-nil IsShort; unfinished = All-nil IsUnfinished }

not_some : (o : Option Unfinished) → is_some o ≡ false → o ≡ None
not_some None e = refl
not_some (Some m) e = cc

-- what isn't among messages isn't among those after the first
none-after : (key : Key) (m : Unfinished) (rest : List Unfinished) → find (is_of key) (m ∷ rest) ≡ None → find (is_of key) rest ≡ None
none-after key m rest e =
    elim (cases_Bool (is_of key m)) [
      | inl t ↦ (let some = rw t at e in cc)
      | inr f ↦ rw f at e
    ]

-- one more that begins has a key that none has
distinct-begin : (next : Unfinished) (messages : List Unfinished) → find (is_of next.key) messages ≡ None → AreDistinct messages → AreDistinct (begin next messages).1
unfolding begin
distinct-begin next [] none d = (refl, tt)
distinct-begin next (m ∷ rest) none d =
    elim (cases_Bool (ltb (length (m ∷ rest)) 256)) [
      | inl t ↦ rw t (AreDistinct-push (m ∷ rest) next none d)
      | inr f ↦ rw f (AreDistinct-push rest next (none-after next.key m rest none) d.1)
    ]

distinct-go_on : (next : Unfinished) (messages : List Unfinished) → AreDistinct messages → AreDistinct (go_on next messages).1
unfolding go_on is_begun
distinct-go_on next messages d =
    elim (cases_Bool (is_some (find (is_of next.key) messages))) [
      | inl t ↦ rw t (AreDistinct-put next messages d)
      | inr f ↦ rw f (distinct-begin next messages (not_some (find (is_of next.key) messages) f) d)
    ]

distinct-added : (messages : List Unfinished) (key : Key) (h : Header) (payload : List ℕ) → AreDistinct messages → AreDistinct (added messages key h payload).1
distinct-added messages key h payload d =
    let next : Unfinished = with_part (message_under key messages) h payload in
    outcome (λ (r : Added × List Unfinished). AreDistinct r.1) messages key h payload
    (λ answer e. d)
    (λ body good e. AreDistinct-without next.key messages d)
    (λ good e. distinct-go_on next messages d)

-- a part that is added
pub pending-added : (messages : List Unfinished) (key : Key) (h : Header) (payload : List ℕ)
    → ArePending messages → IsValid h → class_of h.packet ≡ Some key.class → ArePending (added messages key h payload).1
pending-added messages key h payload p valid class =
    record {
      most = most_unfinished_stay messages key h payload p.most;
      distinct = distinct-added messages key h payload p.distinct;
      short = stays_short messages key h payload p.short valid class;
      unfinished = unfinished_stay messages key h payload p.unfinished;
    }

-- a message that is forgotten
pub pending-without : (key : Key) (messages : List Unfinished) → ArePending messages → ArePending (without key messages)
pending-without key messages p =
    record {
      most = (let fewer = length-without key messages in let before = p.most in omega (arith, fewer, before));
      distinct = AreDistinct-without key messages p.distinct;
      short = without-short key messages p.short;
      unfinished = forgetting_leaves_unfinished messages key p.unfinished;
    }

-- a body that a refused part or another answers
pub body-of : (answer : Added) (messages now : List Unfinished) (key : Key) (h : Header) (payload : List ℕ)
    → ArePending messages → IsValid h → class_of h.packet ≡ Some key.class
    → ◌≡◌ {A = Added × List Unfinished} (answer, now) (added messages key h payload) → IsBodyWithin key.class answer
body-of answer messages now key h payload p valid class ok =
    subst (λ (r : Added × List Unfinished). IsBodyWithin key.class r.0) (sym ok) (added-short messages key h payload p.short valid class).answer

-- a call that adds a part, whether it succeeds or not
pub pending-after : (r : Result Added NoMemory) (messages now : List Unfinished) (key : Key) (h : Header) (payload : List ℕ)
    → ArePending messages → IsValid h → class_of h.packet ≡ Some key.class
    → IfOk r (λ answer. ◌≡◌ {A = Added × List Unfinished} (answer, now) (added messages key h payload)) → OnErr r (now ≡ messages) → ArePending now
pending-after (Ok answer) messages now key h payload p valid class ok err =
    subst (λ (r : Added × List Unfinished). ArePending r.1) (sym ok) (pending-added messages key h payload p valid class)
pending-after (Err e) messages now key h payload p valid class ok err = subst ArePending (sym err) p

-- and the body that it answers
pub body-after : (r : Result Added NoMemory) (messages now : List Unfinished) (key : Key) (h : Header) (payload : List ℕ)
    → ArePending messages → IsValid h → class_of h.packet ≡ Some key.class
    → IfOk r (λ answer. ◌≡◌ {A = Added × List Unfinished} (answer, now) (added messages key h payload)) → IfOk r (λ answer. IsBodyWithin key.class answer)
body-after (Ok answer) messages now key h payload p valid class ok =
    subst (λ (r : Added × List Unfinished). IsBodyWithin key.class r.0) (sym ok) (added-short messages key h payload p.short valid class).answer
body-after (Err e) messages now key h payload p valid class ok = tt
