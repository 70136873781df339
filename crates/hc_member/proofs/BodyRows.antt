-- The rows on requests and on bodies that members ask of each other.
use Rattle.std.proofs.Common.{◌≡◌, ℕ, ◌≤◌, Bool, true, false, List, [], ◌∷◌, ◌++◌, length, Option, None, Some, refl, arith}
use Rattle.std.specs.Prelude.{◌||◌, nat_le, if◌then◌else◌, All}
use Rattle.std.specs.List.{find}
use Rattle.std.proofs.lemmas.Bool.{and_parts, or_parts}
use Rattle.std.proofs.lemmas.List.Elements.{All-nil, All-push, All-weaker}
use Rattle.r2_base.specs.Limits.{most_body}
use Rattle.r2_base.specs.Entry.{is_request}
use Rattle.r2_base.specs.Names.{same_rid}
use Rattle.r2_base.specs.declared.entry.Kind.{Kind}
use Rattle.r2_base.specs.declared.entry.Kind.TheVariants.{Blank, Write, Read}
use Rattle.r2_base.specs.declared.rid.Rid.{Rid}
use Rattle.r2_frag.specs.declared.kept.KeptReply.{KeptReply}
use Rattle.r2_frag.specs.Kept.{newest}
use Rattle.r2_frag.specs.Replies.{IsReply}
use Rattle.hc_log.specs.declared.stored.Stored.{Stored}
use Rattle.hc_log.specs.Ranges.{IsStored}
use Rattle.hc_log.specs.Log.{asks_as, stands_in}
use Rattle.hc_log.proofs.Formed.{IsFormed-from_steps}
use Rattle.hc_message.specs.Entry.{kind_number}
use Rattle.hc_message.specs.declared.msg.Msg.TheVariants.{RecoverBody}
use Rattle.hc_pool.specs.declared.request.Request.{Request}
use Rattle.hc_pool.specs.Pool.{has_rid, most_pooled, request_of, waits_in, MayWait}
use Rattle.hc_pool.proofs.Requests.{IsPool-push}
use Rattle.hc_member.specs.declared.setup.Setup.{Setup}
use Rattle.hc_member.specs.Setup.{address_of}
use Rattle.hc_member.specs.Member.{Member}
use Rattle.hc_member.specs.Bodies.{answered_again, body_given, give_body, hear_request, held_request, ordered_request, pooled, take_body}
use Rattle.hc_member.specs.Outcome.{stays}
use Rattle.hc_member.specs.Sending.{Recover, Reply, IsSent}
use Rattle.hc_member.specs.Sound.{IsRightReply, IsSound}
use Rattle.hc_member.proofs.Answers.{find-All, find-passes, newest-All, right-is_reply, stored-short}
use Rattle.hc_member.proofs.Goes.{Goes, goes-kept, goes-nothing, goes-sends}
use Rattle.hc_member.proofs.Sound.{sound-waits}
use Rattle.hc_member.proofs.Sends.{sent-body, sent-one}

kind-asks : (kind : Kind) → is_request kind ≡ true → 1 ≤ kind_number kind
kind-asks Blank e = cc
kind-asks Write e = omega arith
kind-asks Read e = omega arith

pub asks-kind : (kind : Kind) → 1 ≤ kind_number kind → is_request kind ≡ true
asks-kind Blank low = absurd (omega (arith, low))
asks-kind Write low = refl
asks-kind Read low = refl

module _ (s : Setup) where
  -- one request more waits
  sound-pool : (m : Member) (r : Request) → IsSound s m → MayWait r → waits_in r.rid m.pool ≡ false → stands_in r.rid m.log ≡ false
      → IsSound s (record m { pool = m.pool ++ r ∷ [] })
  sound-pool m r sound may new apart =
      sound-waits s m (m.pool ++ r ∷ []) m.unfinished m.pending m.silent sound (IsPool-push m.pool r sound.pool new may)
      (All-push (λ (x : Request). stands_in x.rid m.log ≡ false) m.pool r sound.apart apart) sound.unfinished sound.batch

  pooled-by : (b : Bool) (m : Member) (r : Request) → (waits_in r.rid m.pool || nat_le most_pooled (length m.pool)) ≡ b → IsSound s m → MayWait r
      → stands_in r.rid m.log ≡ false → Goes s m (stays m (if b then m else record m { pool = m.pool ++ r ∷ [] }) [])
  pooled-by true m r e sound may apart = goes-nothing s m sound
  pooled-by false m r e sound may apart =
      let parts = or_parts (waits_in r.rid m.pool) (nat_le most_pooled (length m.pool)) e in
      goes-kept s m (record m { pool = m.pool ++ r ∷ [] }) [] (sound-pool m r sound may parts.0 apart) refl (omega arith) refl (All-nil IsSent)

  goes-pooled : (m : Member) (r : Request) → IsSound s m → MayWait r → stands_in r.rid m.log ≡ false → Goes s m (stays m (pooled m r) [])
  unfolding pooled
  goes-pooled m r sound may apart = pooled-by (waits_in r.rid m.pool || nat_le most_pooled (length m.pool)) m r refl sound may apart

  again-sent : (kept : List KeptReply) (rid : Rid) (o : Option KeptReply) → newest rid kept ≡ o → All IsReply kept → All IsSent (answered_again o)
  again-sent kept rid None e all = All-nil IsSent
  again-sent kept rid (Some reply) e all = sent-one (Reply reply) (newest-All IsReply rid kept reply all e)

  -- the replies that a sound member keeps may go out
  pub kept-replies : (m : Member) → IsSound s m → All IsReply m.kept
  kept-replies m sound =
      let valid = sound.durable in
      All-weaker (IsRightReply s.me m.applied m.log) IsReply (λ reply right. right-is_reply s.me m.applied m.log reply valid.log right) m.kept sound.kept

  request-by : (b : Bool) (m : Member) (r : Request) → stands_in r.rid m.log ≡ b → IsSound s m → MayWait r
      → Goes s m (if b then stays m m (answered_again (newest r.rid m.kept)) else stays m (pooled m r) [])
  request-by true m r e sound may =
      goes-sends s m (answered_again (newest r.rid m.kept)) sound (again-sent m.kept r.rid (newest r.rid m.kept) refl (kept-replies m sound))
  request-by false m r e sound may = goes-pooled m r sound may e

  pub goes-hear_request : (m : Member) (r : Request) → IsSound s m → MayWait r → Goes s m (hear_request m r)
  unfolding hear_request
  goes-hear_request m r sound may = request-by (stands_in r.rid m.log) m r refl sound may

  -- a request that is held may go to a member
  abbrev IsHeld : Option Request → Type 0
  IsHeld None = Unit {0}
  IsHeld (Some r) = (1 ≤ kind_number r.kind) × (length r.body ≤ most_body)

  ordered-held : (log : List Stored) (rid : Rid) (o : Option Stored) → find (asks_as rid) log ≡ o → All IsStored log → IsHeld (ordered_request o)
  ordered-held log rid None e all = tt
  ordered-held log rid (Some stored) e all =
      let passes = find-passes (asks_as rid) log stored e in
      let asks = and_parts (is_request stored.entry.kind) (same_rid rid stored.entry.rid) passes in
      (kind-asks stored.entry.kind asks.0, stored-short stored (find-All IsStored (asks_as rid) log stored all e))

  waiting-held : (pool : List Request) (rid : Rid) (o : Option Request) → request_of rid pool ≡ o → All MayWait pool → IsHeld o
  unfolding request_of
  waiting-held pool rid None e all = tt
  waiting-held pool rid (Some r) e all = (let may = find-All MayWait (has_rid rid) pool r all e in (kind-asks r.kind may.asks, may.body))

  held-by : (b : Bool) (m : Member) (rid : Rid) → IsSound s m → IsHeld (if b then ordered_request (find (asks_as rid) m.log) else request_of rid m.pool)
  held-by true m rid sound =
      let valid = sound.durable in
      let formed = IsFormed-from_steps m.log valid.log in
      ordered-held m.log rid (find (asks_as rid) m.log) refl formed.stored
  held-by false m rid sound = (let pool = sound.pool in waiting-held m.pool rid (request_of rid m.pool) refl pool.requests)

  given-sent : (member : ℕ) (rid : Rid) (o : Option Request) → IsHeld o → All IsSent (body_given s member rid o)
  given-sent member rid None held = All-nil IsSent
  given-sent member rid (Some r) held = sent-one (Recover (address_of s member) rid (RecoverBody r.kind r.body)) (sent-body (address_of s member) rid r.kind r.body held.0 held.1)

  pub goes-give_body : (m : Member) (member : ℕ) (rid : Rid) → IsSound s m → Goes s m (give_body s m member rid)
  unfolding give_body
  goes-give_body m member rid sound =
      goes-sends s m (body_given s member rid (held_request rid m)) sound
      (given-sent member rid (held_request rid m) (held-by (stands_in rid m.log) m rid sound))

  take-by : (b : Bool) (m : Member) (rid : Rid) (kind : Kind) (body : List ℕ) → (stands_in rid m.log || waits_in rid m.pool) ≡ b → IsSound s m
      → 1 ≤ kind_number kind → length body ≤ most_body
      → Goes s m (if b then stays m m [] else stays m (record m { pool = m.pool ++ record { rid = rid; kind = kind; body = body } ∷ [] }) [])
  take-by true m rid kind body e sound low short = goes-nothing s m sound
  take-by false m rid kind body e sound low short =
      let parts = or_parts (stands_in rid m.log) (waits_in rid m.pool) e in
      let r : Request = record { rid = rid; kind = kind; body = body } in
      goes-kept s m (record m { pool = m.pool ++ r ∷ [] }) [] (sound-pool m r sound (record { asks = asks-kind kind low; body = short }) parts.1 parts.0) refl (omega arith) refl
      (All-nil IsSent)

  pub goes-take_body : (m : Member) (rid : Rid) (kind : Kind) (body : List ℕ) → IsSound s m → 1 ≤ kind_number kind → length body ≤ most_body
      → Goes s m (take_body m rid kind body)
  unfolding take_body
  goes-take_body m rid kind body sound low short = take-by (stands_in rid m.log || waits_in rid m.pool) m rid kind body refl sound low short
