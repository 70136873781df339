-- Requests and their bodies: a client's, and those that members ask of each other (HovercRaft, on lost requests).
use Rattle.std.specs.Prelude.{◌||◌, ◌&&◌, Bool, not, if◌then◌else◌, nat_le, ℕ, List, [], ◌∷◌, ◌++◌, length, Option, Some, None}
use Rattle.std.specs.List.{find, list_any}
use Rattle.r2_base.specs.declared.addr.Addr.{Addr}
use Rattle.r2_base.specs.declared.rid.Rid.{Rid}
use Rattle.r2_base.specs.declared.entry.Kind.{Kind}
use Rattle.r2_base.specs.Names.{same_addr}
use Rattle.r2_frag.specs.declared.kept.KeptReply.{KeptReply}
use Rattle.r2_frag.specs.Kept.{newest}
use Rattle.hc_log.specs.declared.stored.Stored.{Stored}
use Rattle.hc_log.specs.Log.{asks_as, stands_in}
use Rattle.hc_pool.specs.declared.request.Request.{Request}
use Rattle.hc_pool.specs.Pool.{most_pooled, request_of, waits_in}
use Rattle.hc_message.specs.declared.msg.Msg.TheVariants.{RecoverBody}
use Rattle.hc_member.specs.declared.setup.Setup.{Setup}
use Rattle.hc_member.specs.Setup.{address_of, own_address}
use Rattle.hc_member.specs.Member.{Member}
use Rattle.hc_member.specs.Sending.{Sending, Recover, Reply}
use Rattle.hc_member.specs.Outcome.{Outcome, stays}

-- a new request goes into the pool, unless it waits there already, or the pool is full
unfoldable pub pooled : Member → Request → Member
pooled m r =
    if waits_in r.rid m.pool || nat_le most_pooled (length m.pool) then m
    else record m { pool = m.pool ++ r ∷ [] }

-- the kept reply to a request goes out again, where one is kept
abbrev pub answered_again : Option KeptReply → List Sending
answered_again (Some reply) = Reply reply ∷ []
answered_again None = []

-- a whole request: one that is in the log is answered again, another waits to be ordered
unfoldable pub hear_request : Member → Request → Outcome
hear_request m r =
    if stands_in r.rid m.log then stays m m (answered_again (newest r.rid m.kept)) else stays m (pooled m r) []

-- a request of the log, as it came
abbrev pub ordered_request : Option Stored → Option Request
ordered_request (Some stored) = Some (record { rid = stored.entry.rid; kind = stored.entry.kind; body = stored.body })
ordered_request None = None

-- the request with this id, which stands in the log or waits in the pool, if the member has it
abbrev pub held_request : Rid → Member → Option Request
held_request rid m =
    if stands_in rid m.log then ordered_request (find (asks_as rid) m.log) else request_of rid m.pool

-- the body of a request goes to a member, where it is held
abbrev pub body_given : Setup → ℕ → Rid → Option Request → List Sending
body_given s member rid (Some r) = Recover (address_of s member) rid (RecoverBody r.kind r.body) ∷ []
body_given s member rid None = []

-- a member asks for the body of a request
unfoldable pub give_body : Setup → Member → ℕ → Rid → Outcome
give_body s m member rid = stays m m (body_given s member rid (held_request rid m))

-- a datagram from this address was sent by another member
abbrev pub is_from_another : Setup → Addr → Bool
is_from_another s from = list_any (same_addr from) s.members && not (same_addr from (own_address s))

-- a body that was asked for comes: where the request is neither in the log nor in the pool, it waits now, even in a full pool
unfoldable pub take_body : Member → Rid → Kind → List ℕ → Outcome
take_body m rid kind body =
    if stands_in rid m.log || waits_in rid m.pool then stays m m []
    else stays m (record m { pool = m.pool ++ record { rid = rid; kind = kind; body = body } ∷ [] }) []
