-- What was applied and answered stays right as long as that prefix of the log stays.
use Rattle.std.proofs.Common.{◌≡◌, ℕ, ◌+◌, ◌<◌, ◌≤◌, List, ◌++◌, length, take, drop, get_or, slice_get, Some, sym, ap, subst, ◌∙◌, arith, take-append-drop}
use Rattle.std.specs.Prelude.{All}
use Rattle.std.proofs.lemmas.List.{get_or-take, length-map, length-take, map-append, take-take}
use Rattle.std.proofs.lemmas.List.Elements.{All-weaker}
use Rattle.std.proofs.lemmas.Option.{get_or_from_slice_get, slice_get-get_or, slice_get_within}
use Rattle.r2_frag.specs.declared.kept.KeptReply.{KeptReply}
use Rattle.hc_log.specs.declared.stored.Stored.{Stored}
use Rattle.hc_store.specs.State.{State}
use Rattle.hc_store.specs.Replies.{Operation, reply_at}
use Rattle.hc_store.proofs.Stand.{replies_stand}
use Rattle.hc_service.specs.Entries.{IsReplayed, operation_of, operations}
use Rattle.hc_member.specs.Sound.{IsRightReply}

-- two logs begin with the same entries
pub same-front : (applied keep : ℕ) (old new : List Stored) → applied ≤ keep → take keep old ≡ take keep new → take applied old ≡ take applied new
same-front applied keep old new low same =
    sym (take-take applied keep old low) ∙ ap (take applied) same ∙ take-take applied keep new low

pub replayed-front : (me applied keep : ℕ) (old new : List Stored) (service : State) → applied ≤ keep → take keep old ≡ take keep new
    → IsReplayed me (take applied old) service → IsReplayed me (take applied new) service
replayed-front me applied keep old new service low same is =
    subst (λ (log : List Stored). IsReplayed me log service) (same-front applied keep old new low same) is

-- an entry of the prefix is in both
pub entry-front : (before keep : ℕ) (old new : List Stored) (stored : Stored) → before < keep → take keep old ≡ take keep new
    → slice_get old before ≡ Some stored → slice_get new before ≡ Some stored
entry-front before keep old new stored low same there =
    let inside = slice_get_within old before stored there in
    let sizes = ap length same in
    let within : before < length new = omega (arith, low, inside, sizes, length-take keep old, length-take keep new) in
    let read : get_or new before stored ≡ stored =
    sym (get_or-take keep new before stored low) ∙ ap (λ (log : List Stored). get_or log before stored) (sym same)
    ∙ get_or-take keep old before stored low ∙ get_or_from_slice_get old before stored stored there in
    slice_get-get_or new before stored within ∙ ap (λ (x : Stored). Some x) read

-- the reply to an entry of the prefix is the same without the others
reply-front : (keep index : ℕ) (log : List Stored) → index ≤ keep → index ≤ length log
    → reply_at (operations log) index ≡ reply_at (operations (take keep log)) index
unfolding operations
reply-front keep index log low within =
    let front = take keep log in
    let back = drop keep log in
    let split : operations log ≡ operations front ++ operations back = ap operations (sym (take-append-drop keep log)) ∙ map-append operation_of front back in
    let size : length (operations front) ≡ length front = length-map front operation_of in
    ap (λ (os : List Operation). reply_at os index) split
    ∙ replies_stand (operations front) (operations back) index (omega (arith, size, length-take keep log, low, within))

reply-both : (keep index : ℕ) (old new : List Stored) → index ≤ keep → index ≤ length old → index ≤ length new → take keep old ≡ take keep new
    → reply_at (operations new) index ≡ reply_at (operations old) index
reply-both keep index old new low within within_too same =
    reply-front keep index new low within_too ∙ ap (λ (log : List Stored). reply_at (operations log) index) (sym same)
    ∙ sym (reply-front keep index old low within)

right-front : (me applied more keep : ℕ) (old new : List Stored) (reply : KeptReply) → applied ≤ more → applied ≤ keep → take keep old ≡ take keep new
    → IsRightReply me applied old reply → IsRightReply me more new reply
right-front me applied more keep old new reply grows low same is =
    let inside = slice_get_within old is.before is.stored is.placed in
    let placed = entry-front is.before keep old new is.stored (omega (arith, is.is_applied, low)) same is.placed in
    let inside_too = slice_get_within new is.before is.stored placed in
    let right = is.right in
    record {
      before = is.before;
      is_applied = omega (arith, is.is_applied, grows);
      stored = is.stored;
      placed = placed;
      right =
          record {
            rid = right.rid;
            policy = right.policy;
            replier = right.replier;
            payload =
                reply-both keep (is.before + 1) old new (omega (arith, is.is_applied, low)) (omega (arith, inside)) (omega (arith, inside_too)) same
                ∙ right.payload;
          };
    }

-- kept replies stay right
pub kept-front : (me applied more keep : ℕ) (old new : List Stored) (kept : List KeptReply) → applied ≤ more → applied ≤ keep → take keep old ≡ take keep new
    → All (IsRightReply me applied old) kept → All (IsRightReply me more new) kept
kept-front me applied more keep old new kept grows low same all =
    All-weaker (IsRightReply me applied old) (IsRightReply me more new) (λ reply is. right-front me applied more keep old new reply grows low same is) kept all
