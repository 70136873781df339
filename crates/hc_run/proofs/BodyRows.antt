-- The rows of bodies that are asked for, and of those that are given.
use Rattle.std.proofs.Common.{◌≡◌, ℕ, ◌||◌, Bool, true, false, List, [], ◌∷◌, ◌++◌, Option, None, Some, refl, sym, subst}
use Rattle.std.specs.Prelude.{All, if◌then◌else◌}
use Rattle.std.specs.List.{find}
use Rattle.std.proofs.lemmas.Bool.{and_parts}
use Rattle.std.proofs.lemmas.List.Elements.{All-cons, All-nil, All-push}
use Rattle.r2_base.specs.declared.addr.Addr.{Addr}
use Rattle.r2_base.specs.declared.entry.Kind.{Kind}
use Rattle.r2_base.specs.declared.rid.Rid.{Rid}
use Rattle.r2_base.specs.Entry.{is_request}
use Rattle.r2_base.specs.Names.{same_rid}
use Rattle.r2_base.proofs.SameNames.{same_rid-true}
use Rattle.hc_log.specs.declared.stored.Stored.{Stored}
use Rattle.hc_log.specs.Log.{asks_as, stands_in}
use Rattle.hc_message.specs.declared.msg.Msg.{Msg}
use Rattle.hc_message.specs.declared.msg.Msg.TheVariants.{VoteReq, Vote, Order, Ack, Nack, AggCommit, RecoverAsk, RecoverBody}
use Rattle.hc_pool.specs.declared.request.Request.{Request}
use Rattle.hc_pool.specs.Pool.{has_rid, request_of as waiting_of, waits_in}
use Rattle.hc_member.specs.declared.setup.Setup.{Setup}
use Rattle.hc_member.specs.declared.heard.Heard.TheVariants.{Recovered}
use Rattle.hc_member.specs.Bodies.{body_given, give_body, held_request, is_from_another, ordered_request, take_body}
use Rattle.hc_member.specs.Member.{Member}
use Rattle.hc_member.specs.Outcome.{stays}
use Rattle.hc_member.specs.Sending.{Recover}
use Rattle.hc_member.specs.Setup.{address_of, is_from_member}
use Rattle.hc_member.specs.Turn.{row}
use Rattle.hc_member.proofs.Answers.{find-All, find-passes}
use Rattle.hc_member.proofs.Rows.{goes-row}
use Rattle.hc_rules.specs.Log.{In}
use Rattle.hc_rules.specs.Message as world
use Rattle.hc_rules.specs.Protocol.{ProtocolState}
use Rattle.hc_run.specs.Backed.{IsBacked}
use Rattle.hc_run.specs.Held.{IsAskedIn, IsStoredOf}
use Rattle.hc_run.specs.Rows.{RowIsRules}
use Rattle.hc_run.specs.Tied.{request_of}
use Rattle.hc_run.proofs.Common.{by-fits, nothing-row}
use Rattle.hc_run.proofs.Ties.{tie-rest}
use Rattle.hc_run.proofs.Ways.{IsLike, IsWay, like_of, row-of, way-end}

-- what is found of a request is the table's
abbrev IsFound : List world.Request → Rid → Option Request → Type 0
IsFound table rid (Some r) = In (request_of rid r.kind r.body) table
IsFound table rid None = Unit {0}

pub found-in-log : (table : List world.Request) (rid : Rid) (log : List Stored) (found : Option Stored) → All (IsStoredOf table) log → find (asks_as rid) log ≡ found
    → IsFound table rid (ordered_request found)
found-in-log table rid log None all e = tt
found-in-log table rid log (Some x) all e =
    let both = and_parts (is_request x.entry.kind) (same_rid rid x.entry.rid) (find-passes (asks_as rid) log x e) in
    let same = same_rid-true rid x.entry.rid both.1 in
    subst (λ (r : Rid). In (request_of r x.entry.kind x.body) table) (sym same) (find-All (IsStoredOf table) (asks_as rid) log x all e both.0)

pub found-in-pool : (table : List world.Request) (rid : Rid) (pool : List Request) (found : Option Request) → All (IsAskedIn table) pool → find (has_rid rid) pool ≡ found
    → IsFound table rid found
found-in-pool table rid pool None all e = tt
found-in-pool table rid pool (Some r) all e =
    let same = same_rid-true rid r.rid (find-passes (has_rid rid) pool r e) in
    subst (λ (x : Rid). In (request_of x r.kind r.body) table) (sym same) (find-All (IsAskedIn table) (has_rid rid) pool r all e)

module _ (s : Setup) (w : ProtocolState) (m : Member) (like : IsLike s w m) where
  held-found : (rid : Rid) (b : Bool) → IsFound w.table rid (if b then ordered_request (find (asks_as rid) m.log) else waiting_of rid m.pool)
  unfolding waiting_of
  held-found rid true = (let holds = like.holds in found-in-log w.table rid m.log (find (asks_as rid) m.log) holds.bodies refl)
  held-found rid false = (let holds = like.holds in found-in-pool w.table rid m.pool (find (has_rid rid) m.pool) holds.pool refl)

  given-way : (member : ℕ) (rid : Rid) (found : Option Request) → IsFound w.table rid found → IsWay s w (stays m m (body_given s member rid found)) w.passed w.reports
  given-way member rid None is = way-end s w (stays m m []) like (All-nil (IsBacked s w))
  given-way member rid (Some r) is =
      let x = Recover (address_of s member) rid (RecoverBody r.kind r.body) in
      way-end s w (stays m m (x ∷ [])) like (All-cons (IsBacked s w) x [] is (All-nil (IsBacked s w)))

  taken-way : (rid : Rid) (kind : Kind) (body : List ℕ) (b : Bool) → In (request_of rid kind body) w.table
      → IsWay s w (if b then stays m m [] else stays m (record m { pool = m.pool ++ record { rid = rid; kind = kind; body = body } ∷ [] }) []) w.passed w.reports
  taken-way rid kind body true known = way-end s w (stays m m []) like (All-nil (IsBacked s w))
  taken-way rid kind body false known =
      let r : Request = record { rid = rid; kind = kind; body = body } in
      let holds = like.holds in
      way-end s w (stays m (record m { pool = m.pool ++ r ∷ [] }) [])
      (record {
        group = like.group;
        tied = tie-rest _ m m.silent m.pending (m.pool ++ r ∷ []) m.unfinished m.kept m.service m.lead.next m.lead.queues like.tied;
        holds =
            record {
              bodies = holds.bodies;
              pool = All-push (IsAskedIn w.table) m.pool r holds.pool known;
              kept = holds.kept;
              led = holds.led;
              unfinished = holds.unfinished;
            };
      })
      (All-nil (IsBacked s w))

pub recovery_rows : (from : Addr) (rid : Rid) (message : Msg) → RowIsRules (Recovered from rid message)
unfolding row give_body take_body
recovery_rows from rid (RecoverAsk member) s w m h =
    let said = Recovered from rid (RecoverAsk member) in
    let goes = goes-row s h.setup m said h.sayable h.shown.sound in
    let like = like_of s w m h.shown in
    by-fits s w m said h (give_body s m member rid) (is_from_member s from member) goes.sound
    (λ fits sound. row-of s w m said (give_body s m member rid) sound (given-way s w m like member rid (held_request rid m) (held-found s w m like rid (stands_in rid m.log))))
    (λ e. refl)
recovery_rows from rid (RecoverBody kind body) s w m h =
    let said = Recovered from rid (RecoverBody kind body) in
    let goes = goes-row s h.setup m said h.sayable h.shown.sound in
    by-fits s w m said h (take_body m rid kind body) (is_from_another s from) goes.sound
    (λ fits sound. row-of s w m said (take_body m rid kind body) sound (taken-way s w m (like_of s w m h.shown) rid kind body (stands_in rid m.log || waits_in rid m.pool) h.sent))
    (λ e. refl)
recovery_rows from rid (VoteReq a b c d) s w m h = nothing-row s w m (Recovered from rid (VoteReq a b c d)) h refl
recovery_rows from rid (Vote a b c) s w m h = nothing-row s w m (Recovered from rid (Vote a b c)) h refl
recovery_rows from rid (Order a b c d e f g i) s w m h = nothing-row s w m (Recovered from rid (Order a b c d e f g i)) h refl
recovery_rows from rid (Ack a b c d) s w m h = nothing-row s w m (Recovered from rid (Ack a b c d)) h refl
recovery_rows from rid (Nack a b c) s w m h = nothing-row s w m (Recovered from rid (Nack a b c)) h refl
recovery_rows from rid (AggCommit a b) s w m h = nothing-row s w m (Recovered from rid (AggCommit a b)) h refl
