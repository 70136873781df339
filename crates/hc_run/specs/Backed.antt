-- What was sent, as the protocol's state has it: messages, and the datagrams of each.
use Rattle.std.specs.Prelude.{◌≡◌, ◌⊎◌, ℕ, ◌<◌, true, false, List, length}
use Rattle.r2_base.specs.declared.addr.Addr.{Addr}
use Rattle.r2_base.specs.declared.datagram.Datagram.{Datagram}
use Rattle.r2_base.specs.declared.rid.Rid.{Rid}
use Rattle.r2_frag.specs.declared.kept.KeptReply.{KeptReply}
use Rattle.r2_frag.specs.Parts.{parts_of}
use Rattle.r2_frag.specs.Replies.{IsReply, reply_parts}
use Rattle.r2_base.specs.Names.{FitsRid}
use Rattle.hc_message.specs.declared.msg.Msg.{Msg}
use Rattle.hc_message.specs.declared.msg.Msg.TheVariants.{VoteReq, Vote, Order, Ack, Nack, AggCommit, RecoverAsk, RecoverBody}
use Rattle.hc_message.specs.Laws.{FitsMessage}
use Rattle.hc_message.specs.Message.{IsValid, message_bytes}
use Rattle.hc_packet.specs.Packet.{message_packet}
use Rattle.hc_member.specs.declared.setup.Setup.{Setup}
use Rattle.hc_member.specs.declared.heard.Heard.{Heard}
use Rattle.hc_member.specs.declared.heard.Heard.TheVariants.{Nothing, Whole, Told, Recovered, Time}
use Rattle.hc_member.specs.Sending.{Sending, Tell, Recover, Reply as ReplyTo, recover_spec}
use Rattle.hc_member.specs.Setup.{own_address}
use Rattle.hc_aggregate.specs.Group.{address_of}
use Rattle.hc_rules.specs.Log.{In}
use Rattle.hc_rules.specs.Message.{Request}
use Rattle.hc_rules.specs.Protocol.{ProtocolState}
use Rattle.hc_rules.specs.Requests.{IsKnown}
use Rattle.hc_rules.specs.Rules.{vote_of}
use Rattle.hc_run.specs.Held.{WasReplied}
use Rattle.hc_run.specs.Steps.{reply_from, request_spec}
use Rattle.hc_run.specs.Tied.{request_in, request_of}

-- a granted vote is for the member to whose address it goes
pub record IsVoteFor (members : List Addr) (w : ProtocolState) (to : Addr) (term voter : ℕ) : Type 0 where
  pub candidate : ℕ
  pub member : candidate < length members
  pub to_it : to ≡ address_of members candidate
  pub sent : In (vote_of term voter candidate) w.votes

-- a message to an address was sent, as the protocol has it: an Order whatever way it goes; those about bodies travel otherwise
abbrev pub IsSentAs : List Addr → ProtocolState → Addr → Msg → Type 0
IsSentAs members w to (VoteReq term member last_index last_term) =
    In (record { term = term; candidate = member; last_index = last_index; last_term = last_term }) w.vote_requests
IsSentAs members w to (Vote term member true) = IsVoteFor members w to term member
IsSentAs members w to (Vote term member false) = In (record { term = term; voter = member }) w.refusals
IsSentAs members w to (Order term leader prev_index prev_term term_start commit via entries) =
    In
    (record {
      term = term;
      leader = leader;
      previous = prev_index;
      previous_term = prev_term;
      start = term_start;
      commit = commit;
      entries = entries;
    })
    w.orders
IsSentAs members w to (Ack term member index applied) =
    In (record { term = term; member = member; index = index; applied = applied }) w.acks
IsSentAs members w to (Nack term member hint) = In (record { term = term; member = member; hint = hint }) w.nacks
IsSentAs members w to (AggCommit term index) = In (record { term = term; index = index }) w.aggregates
IsSentAs members w to (RecoverAsk member) = ⊥
IsSentAs members w to (RecoverBody kind body) = ⊥

-- a message about a request's body is about one of the table: it asks for it, or gives it
abbrev pub IsAbout : List Request → Rid → Msg → Type 0
IsAbout table rid (RecoverAsk member) = IsKnown table rid
IsAbout table rid (RecoverBody kind body) = In (request_of rid kind body) table
IsAbout table rid _ = ⊥

-- what a member sends
abbrev pub IsBacked : Setup → ProtocolState → Sending → Type 0
IsBacked s w (Tell to message) = IsSentAs s.members w to message
IsBacked s w (Recover to rid message) = IsAbout w.table rid message
IsBacked s w (ReplyTo reply) = In (reply_from (length w.table) reply) w.replied

-- what a member hears
abbrev pub IsHeardOf : Setup → ProtocolState → Heard → Type 0
IsHeardOf s w Nothing = Unit {0}
IsHeardOf s w (Whole r) = In (request_in r) w.table
IsHeardOf s w (Told from message) = IsSentAs s.members w (own_address s) message
IsHeardOf s w (Recovered from rid message) = IsAbout w.table rid message
IsHeardOf s w Time = Unit {0}

-- a datagram is a part of a request of the table
pub record IsRequestPart (table : List Request) (d : Datagram) : Type 0 where
  pub request : Request
  pub sent : In request table
  pub part : In d (parts_of (request_spec request d.to) request.body)

-- its bytes are a valid message's, which was sent to where it goes
pub record IsMessage (members : List Addr) (w : ProtocolState) (d : Datagram) : Type 0 where
  pub message : Msg
  pub valid : IsValid message
  pub fits : FitsMessage message
  pub same : d.bytes ≡ message_packet message
  pub sent : IsSentAs members w d.to message

-- it is a part of a message about a body of the table
pub record IsRecoveryPart (table : List Request) (d : Datagram) : Type 0 where
  pub rid : Rid
  pub message : Msg
  pub valid : IsValid message
  pub about : IsAbout table rid message
  pub part : In d (parts_of (recover_spec d.from d.to rid) (message_bytes message))

-- it is a part of a reply that was made
pub record IsMadeReplyPart (w : ProtocolState) (d : Datagram) : Type 0 where
  pub reply : KeptReply
  pub right : IsReply reply
  pub fits : FitsRid reply.rid
  pub made : WasReplied w.replied reply
  pub part : In d (reply_parts d.from reply.rid reply.policy reply.payload)

-- a datagram that was sent is one of these
abbrev pub IsBackedDatagram : List Addr → ProtocolState → Datagram → Type 0
IsBackedDatagram members w d =
    IsRequestPart w.table d ⊎ (IsMessage members w d ⊎ (IsRecoveryPart w.table d ⊎ IsMadeReplyPart w d))
