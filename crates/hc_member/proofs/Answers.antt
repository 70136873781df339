-- The replies that are kept may go out, again and again.
use Rattle.std.proofs.Common.{◌≡◌, ℕ, ◌+◌, ◌-◌, ◌<◌, ◌≤◌, Bool, true, List, [], ◌∷◌, length, get_or, reverse, Some, sym, subst, inl, inr, arith}
use Rattle.std.specs.Prelude.{All}
use Rattle.std.specs.List.{find}
use Rattle.std.proofs.lemmas.Bool.{cases_Bool}
use Rattle.std.proofs.lemmas.List.{get_or-reverse, length-reverse}
use Rattle.std.proofs.lemmas.List.Elements.{All-head, All-map, All-tail}
use Rattle.r2_base.specs.Limits.{most_body}
use Rattle.r2_base.specs.Names.{same_rid}
use Rattle.r2_base.proofs.SameNames.{same_rid-true}
use Rattle.r2_base.specs.declared.entry.Kind.{Kind}
use Rattle.r2_base.specs.declared.entry.Kind.TheVariants.{Blank, Write, Read}
use Rattle.r2_base.specs.declared.rid.Rid.{Rid}
use Rattle.r2_frag.specs.declared.kept.KeptReply.{KeptReply}
use Rattle.r2_frag.specs.Kept.{newest}
use Rattle.r2_frag.specs.Replies.{IsReply}
use Rattle.hc_log.specs.declared.stored.Stored.{Stored}
use Rattle.hc_log.specs.Ranges.{FitsKind, IsStored}
use Rattle.hc_log.specs.Log.{IsLog}
use Rattle.hc_log.proofs.Formed.{IsFormed-from_steps}
use Rattle.hc_store.specs.Replies.{Operation}
use Rattle.hc_store.specs.Short.{HasShortBodies}
use Rattle.hc_store.proofs.Short.{replies_are_short}
use Rattle.hc_member.specs.Heard.{policy_of}
use Rattle.hc_member.specs.Laws.{RepeatedRepliesAreRight}
use Rattle.hc_service.specs.Entries.{operation_of, operations}
use Rattle.hc_member.specs.Sound.{IsRightReply}

-- the body of an entry is short
pub kind-short : (kind : Kind) (body : List ℕ) → FitsKind kind body → length body ≤ most_body
kind-short Blank body fits = rw fits (omega arith)
kind-short Write body fits = fits
kind-short Read body fits = fits

pub stored-short : (stored : Stored) → IsStored stored → length stored.body ≤ most_body
stored-short stored is = kind-short stored.entry.kind stored.body is.body

-- each body of a log is short
pub bodies-short : (log : List Stored) → IsLog log → HasShortBodies (operations log)
unfolding operations
bodies-short log is =
    let formed = IsFormed-from_steps log is in
    All-map (λ (o : Operation). length o.body ≤ most_body) operation_of log (λ k d inside. stored-short (get_or log k d) (formed.stored k d inside))

policy_of-most : (kind : Kind) → policy_of kind ≤ 3
policy_of-most Blank = omega arith
policy_of-most Write = omega arith
policy_of-most Read = omega arith

-- a right reply is one that may go out
pub right-is_reply : (me applied : ℕ) (log : List Stored) (reply : KeptReply) → IsLog log → IsRightReply me applied log reply → IsReply reply
right-is_reply me applied log reply is right =
    let to = right.right in
    let policy = policy_of-most ((right.stored).entry).kind in
    record {
      policy = omega (arith, policy, to.policy);
      payload = replies_are_short (operations log) (right.before + 1) reply.payload (bodies-short log is) to.payload;
    }

-- what holds of each holds of the one that is found
pub find-All : {X : Type 0} (P : X → Type 0) (p : X → Bool) (xs : List X) (x : X) → All P xs → find p xs ≡ Some x → P x
find-All P p [] x all e = cc
find-All P p (y ∷ ys) x all e =
    elim (cases_Bool (p y)) [
      | inl t ↦ (let same : y ≡ x = (let found = rw t at e in cc) in subst P same (All-head P y ys all))
      | inr f ↦ find-All P p ys x (All-tail P y ys all) (rw f at e)
    ]

All-reverse : {X : Type 0} (P : X → Type 0) (xs : List X) → All P xs → All P (reverse xs)
All-reverse P xs all = λ k d h.
    let inside : k < length xs = omega (arith, h, length-reverse xs) in
    subst P (sym (get_or-reverse xs k d inside)) (all (length xs - 1 - k) d (omega arith))

-- what holds of each kept reply holds of the newest one to a request
pub newest-All : (P : KeptReply → Type 0) (rid : Rid) (kept : List KeptReply) (reply : KeptReply) → All P kept → newest rid kept ≡ Some reply → P reply
unfolding newest
newest-All P rid kept reply all e = find-All P (λ r. same_rid r.rid rid) (reverse kept) reply (All-reverse P kept all) e

-- what is found passes
pub find-passes : {X : Type 0} (p : X → Bool) (xs : List X) (x : X) → find p xs ≡ Some x → p x ≡ true
find-passes p [] x e = cc
find-passes p (y ∷ ys) x e =
    elim (cases_Bool (p y)) [
      | inl t ↦ (let same : y ≡ x = (let found = rw t at e in cc) in subst (λ z. p z ≡ true) same t)
      | inr f ↦ find-passes p ys x (rw f at e)
    ]

-- the newest reply to a request is one to that request
pub newest-rid : (rid : Rid) (kept : List KeptReply) (reply : KeptReply) → newest rid kept ≡ Some reply → reply.rid ≡ rid
unfolding newest
newest-rid rid kept reply e = same_rid-true reply.rid rid (find-passes (λ r. same_rid r.rid rid) (reverse kept) reply e)

pub repeated_replies_are_right : RepeatedRepliesAreRight
repeated_replies_are_right s m rid reply sound e = (
  newest-rid rid m.kept reply e,
  newest-All (IsRightReply s.me m.applied m.log) rid m.kept reply sound.kept e,
)
