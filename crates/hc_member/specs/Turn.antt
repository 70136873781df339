-- A turn of a member: it applies what was pending, then reacts to an event by the table of reactions.
use Rattle.std.specs.Prelude.{ℕ, ◌-◌, ◌==◌, ◌&&◌, Bool, true, false, not, nat_le, nat_lt, if◌then◌else◌, List, ◌++◌, length, drop, slice_set, Option, Some, None}
use Rattle.r2_base.specs.Limits.{most_entries}
use Rattle.r2_base.specs.declared.addr.Addr.{Addr}
use Rattle.r2_base.specs.declared.rid.Rid.{Rid}
use Rattle.r2_base.specs.declared.event.Event.{Event}
use Rattle.hc_log.specs.declared.record.Record.{Record}
use Rattle.hc_message.specs.declared.msg.Msg.{Msg}
use Rattle.hc_message.specs.declared.msg.Msg.TheVariants.{VoteReq, Vote, Order, Ack, Nack, AggCommit, RecoverAsk, RecoverBody}
use Rattle.hc_order.specs.Counting.{counted}
use Rattle.hc_order.specs.Ordering.{Waiting, ordered}
use Rattle.hc_member.specs.declared.setup.Setup.{Setup}
use Rattle.hc_member.specs.declared.role.Role.{Role}
use Rattle.hc_member.specs.declared.role.Role.TheVariants.{Leader}
use Rattle.hc_member.specs.declared.heard.Heard.{Heard}
use Rattle.hc_member.specs.declared.heard.Heard.TheVariants.{Nothing, Whole, Told, Recovered, Time}
use Rattle.hc_member.specs.Setup.{is_from_aggregator, is_from_member, majority}
use Rattle.hc_member.specs.Member.{Member}
use Rattle.hc_member.specs.Heard.{receive, with_received}
use Rattle.hc_member.specs.Sending.{Sending}
use Rattle.hc_member.specs.Outcome.{Outcome, nothing}
use Rattle.hc_member.specs.Votes.{hear_vote_request, hear_vote}
use Rattle.hc_member.specs.Orders.{hear_order, fresh_orders, is_from_leader}
use Rattle.hc_member.specs.Reports.{hear_ack, hear_nack, hear_commit}
use Rattle.hc_member.specs.Bodies.{hear_request, give_body, is_from_another, take_body}
use Rattle.hc_member.specs.Ticks.{ticked}
use Rattle.hc_member.specs.Finish.{batched, finished}

-- what a row gives, where the sender of the message is who it says
abbrev pub where_fits : Bool → Member → Outcome → Outcome
where_fits true m outcome = outcome
where_fits false m outcome = nothing m

-- a message that came in one datagram
abbrev pub told : Setup → Member → Addr → Msg → Outcome
told s m from (VoteReq term member last_index last_term) =
    where_fits (is_from_member s from member) m (hear_vote_request s m term member last_index last_term)
told s m from (Vote term member granted) = where_fits (is_from_member s from member) m (hear_vote s m term member granted)
told s m from (Order term leader prev_index prev_term term_start commit via entries) =
    where_fits
    (is_from_leader s from leader via)
    m
    (hear_order
    s
    m
    from
    term
    (record {
      leader = leader;
      prev_index = prev_index;
      prev_term = prev_term;
      commit = commit;
      entries = entries;
    }))
told s m from (Ack term member index applied) = where_fits (is_from_member s from member) m (hear_ack m term member index applied)
told s m from (Nack term member hint) = where_fits (is_from_member s from member) m (hear_nack s m term member hint)
told s m from (AggCommit term index) = where_fits (is_from_aggregator s.aggregator from) m (hear_commit m term index)
told s m from (RecoverAsk member) = nothing m
told s m from (RecoverBody kind body) = nothing m

-- a message about the body of a request
abbrev pub recovered : Setup → Member → Addr → Rid → Msg → Outcome
recovered s m from rid (RecoverAsk member) = where_fits (is_from_member s from member) m (give_body s m member rid)
recovered s m from rid (RecoverBody kind body) = where_fits (is_from_another s from) m (take_body m rid kind body)
recovered s m from rid _ = nothing m

-- the row of the table that fits what was heard
unfoldable pub row : Setup → Member → Heard → Outcome
row s m Nothing = nothing m
row s m (Whole r) = hear_request m r
row s m (Told from message) = told s m from message
row s m (Recovered from rid message) = recovered s m from rid message
row s m Time = ticked s m m.role

-- what a leader orders with
abbrev pub waiting_of : Member → Waiting
waiting_of m = record { log = m.log; pool = m.pool; queues = m.lead.queues }

abbrev pub with_ordered : Member → Waiting → Member
with_ordered m w =
    record m { log = w.log; pool = w.pool; lead = record m.lead { queues = w.queues }; matched = length w.log }

-- a leader orders requests, after a row that left so much of the log: with what the row appended at most as many as an Order has
unfoldable pub ordering : Member → ℕ → Member
ordering m keep = with_ordered m (ordered m.term (most_entries - (length m.log - keep)) (waiting_of m))

-- the greatest index that a majority has, the leader among them
abbrev pub agreed_index : Setup → Member → ℕ
agreed_index s m = counted (slice_set m.lead.reached s.me (length m.log)) (majority s)

-- an entry of the leader's own term that a majority has is committed, with all before it (Raft, section 5.4.2)
unfoldable pub counting : Setup → Member → Member
counting s m =
    if nat_le m.lead.term_start (agreed_index s m) && nat_lt m.commit (agreed_index s m)
    then record m { commit = agreed_index s m } else m

-- what follows each row at a leader: it orders, sends what the turn appended, and then counts
abbrev pub led : Setup → Outcome → Role → Outcome
led s o Leader =
    record {
      member = counting s (ordering o.member o.keep);
      keep = o.keep;
      sends = o.sends ++ fresh_orders s (ordering o.member o.keep) o.keep;
    }
led s o _ = o

-- what follows each row: at last the next batch is set aside
unfoldable pub settled : Setup → Outcome → Outcome
settled s o = let all = led s o o.member.role in record all { member = batched all.member }

-- whether two votes are the same
abbrev pub same_vote : Option ℕ → Option ℕ → Bool
same_vote (Some a) (Some b) = a == b
same_vote None None = true
same_vote _ _ = false

-- whether the durable state changed since it was this member's, of whose log so much is left
abbrev pub is_stored : Member → ℕ → Member → Bool
is_stored old keep new =
    not (old.term == new.term && same_vote old.vote new.vote && length old.log == keep && length new.log == keep)

-- the record of what changed of the durable state
unfoldable pub stored_of : Member → ℕ → Member → Option Record
stored_of old keep new =
    if is_stored old keep new
    then Some (record { term = new.term; vote = new.vote; keep = keep; entries = drop keep new.log }) else None

-- a member after a turn or half of one, what has to be stored before anything is sent, and what is sent
pub record Reacted : Type 0 where
  pub member : Member
  pub stored : Option Record
  pub sends : List Sending

-- what a turn comes to that began with this member
abbrev pub reaction : Member → Outcome → Reacted
reaction old o = record { member = o.member; stored = stored_of old o.keep o.member; sends = o.sends }

-- the reaction to what was heard
unfoldable pub reacted_to : Setup → Member → Heard → Reacted
reacted_to s m said = reaction m (settled s (row s m said))

-- the reaction to an event
unfoldable pub reacted : Setup → Member → Event → Reacted
reacted s m event = reacted_to s (with_received m event) (receive m.unfinished event).said

-- a whole turn: what is pending first, then the reaction
unfoldable pub turned : Setup → Member → Event → Reacted
turned s m event =
    let before = finished s m in
    let after = reacted s before.member event in
    record { member = after.member; stored = after.stored; sends = before.sends ++ after.sends }
