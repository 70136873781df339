-- Orders: which come from their leader, how a member takes one or refuses it, and those that a leader sends (Raft, section 5.3).
use Rattle.std.specs.Prelude.{ℕ, ◌-◌, ◌==◌, ◌&&◌, Bool, true, false, not, nat_lt, max, min, if◌then◌else◌, List, [], ◌∷◌, length, map, take, drop, slice_index_or, Option, Some, None}
use Rattle.r2_base.specs.declared.addr.Addr.{Addr}
use Rattle.r2_base.specs.declared.rid.Rid.{Rid}
use Rattle.r2_base.specs.declared.entry.Entry.{Entry}
use Rattle.r2_base.specs.Limits.{most_entries}
use Rattle.hc_log.specs.declared.stored.Stored.{Stored}
use Rattle.hc_log.specs.Log.{metas_of, term_at}
use Rattle.hc_message.specs.declared.msg.Msg.{Msg}
use Rattle.hc_message.specs.declared.msg.Msg.TheVariants.{Order, Ack, Nack, RecoverAsk}
use Rattle.hc_order.specs.Taking.{Taken, taken}
use Rattle.hc_member.specs.declared.setup.Setup.{Setup}
use Rattle.hc_member.specs.declared.role.Role.TheVariants.{Follower}
use Rattle.hc_member.specs.Setup.{address_of, is_from_aggregator, is_from_member, is_other, others}
use Rattle.hc_member.specs.Member.{Member, Lead, leads}
use Rattle.hc_member.specs.Sending.{Sending, Tell, Recover}
use Rattle.hc_member.specs.Outcome.{Outcome, nothing, stays}
use Rattle.hc_member.specs.Votes.{rise_to}

-- an Order of a leader came from its address, or by way of the aggregator
abbrev pub is_from_leader : Setup → Addr → ℕ → Bool → Bool
is_from_leader s from leader false = is_from_member s from leader
is_from_leader s from leader true = is_other s leader && is_from_aggregator s.aggregator from

-- an Order as a member hears it: from whom it is, the entry before its own, what is committed, and its entries
pub record HeardOrder : Type 0 where
  pub leader : ℕ
  pub prev_index : ℕ
  pub prev_term : ℕ
  pub commit : ℕ
  pub entries : List Entry

-- an Order can't be taken
abbrev pub refusal : Setup → Member → ℕ → ℕ → List Sending
refusal s m leader hint = Tell (address_of s leader) (Nack m.term s.me hint) ∷ []

-- whether the entry before those of an Order stands in the log
abbrev pub joins : List Stored → ℕ → ℕ → Bool
joins log prev_index prev_term = not (nat_lt (length log) prev_index) && (term_at log prev_index == prev_term)

-- a member hears the leader of its term, and follows it
unfoldable pub follows : ℕ → Member → Member
follows term m = record (rise_to term m) { role = Follower; silent = 0 }

-- the entry before those of an Order is missing, or is another one: the leader learns up to where the logs may agree
unfoldable pub refuse : Setup → Member → HeardOrder → Outcome
refuse s m o = stays m m (refusal s m o.leader (min (length m.log) (o.prev_index - 1)))

-- a member once it took what it can of an Order
abbrev pub with_taken : Member → ℕ → Taken → Member
with_taken m commit t =
    let matched = max m.matched t.upto in
    record m { log = t.log; pool = t.pool; matched = matched; commit = max m.commit (min commit matched) }

-- the bodies that it lacks are asked for
abbrev pub bodies_asked : Setup → ℕ → List Rid → List Sending
bodies_asked s leader missing = map (λ rid. Recover (address_of s leader) rid (RecoverAsk s.me)) missing

-- it tells the sender up to where its log is the leader's
abbrev pub acknowledgement : Setup → Member → Addr → Sending
acknowledgement s m from = Tell from (Ack m.term s.me m.matched m.applied)

-- what comes of an Order of which this was taken
abbrev pub take_with : Setup → Member → Addr → HeardOrder → Taken → Outcome
take_with s m from o t =
    record {
      member = with_taken m o.commit t;
      keep = t.keep;
      sends = acknowledgement s (with_taken m o.commit t) from ∷ bodies_asked s o.leader t.missing;
    }

-- an Order is taken
unfoldable pub take_order : Setup → Member → Addr → HeardOrder → Outcome
take_order s m from o = take_with s m from o (taken m.log m.pool o.prev_index o.entries (max m.commit m.matched))

-- a member that follows the leader of an Order takes it where the entry before it stands in its log
abbrev pub take_or_refuse : Setup → Member → Addr → HeardOrder → Outcome
take_or_refuse s m from o = if joins m.log o.prev_index o.prev_term then take_order s m from o else refuse s m o

-- an Order comes: a leader of an earlier term learns of the member's, and a leader has no other one in its term
unfoldable pub hear_order : Setup → Member → Addr → ℕ → HeardOrder → Outcome
hear_order s m from term o =
    if nat_lt term m.term then stays m m (refusal s m o.leader 0)
    else (if leads term m then nothing m else take_or_refuse s (follows term m) from o)

-- an Order of a leader: entries after an index
abbrev pub order_after : Setup → Member → ℕ → Bool → List Entry → Msg
order_after s m index via entries = Order m.term s.me index (term_at m.log index) m.lead.term_start m.commit via entries

-- the index of the next entry to send to a member
abbrev pub next_to : Lead → ℕ → ℕ
next_to lead member = slice_index_or lead.next member 0

-- what a leader sends to one member: as many entries as an Order has, from the next one on
abbrev pub direct_order : Setup → Member → ℕ → Sending
direct_order s m member =
    let index = next_to m.lead member - 1 in
    Tell (address_of s member) (order_after s m index false (take most_entries (metas_of (drop index m.log))))

-- what a leader sends to all: the entries after an index, to the aggregator where there is one (HovercRaft, on the aggregator)
abbrev pub orders_to : Setup → Member → ℕ → Option Addr → List Sending
orders_to s m index (Some aggregator) = Tell aggregator (order_after s m index true (metas_of (drop index m.log))) ∷ []
orders_to s m index None =
    map (λ member. Tell (address_of s member) (order_after s m index false (metas_of (drop index m.log)))) (others s)

-- the entries that a turn appended after those that it kept are sent to all
unfoldable pub fresh_orders : Setup → Member → ℕ → List Sending
fresh_orders s m keep = if nat_lt keep (length m.log) then orders_to s m keep s.aggregator else []
