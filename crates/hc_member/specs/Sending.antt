-- What a member sends, and the datagrams of each.
use Rattle.std.specs.Prelude.{◌≡◌, ◌≤◌, true, false, List, [], ◌∷◌, length}
use Rattle.std.specs.List.{flat_map}
use Rattle.r2_base.specs.declared.addr.Addr.{Addr}
use Rattle.r2_base.specs.declared.datagram.Datagram.{Datagram}
use Rattle.r2_base.specs.declared.rid.Rid.{Rid}
use Rattle.r2_header.specs.Policy.{replicated}
use Rattle.r2_frag.specs.declared.class.Class.TheVariants as class
use Rattle.r2_frag.specs.declared.kept.KeptReply.{KeptReply}
use Rattle.r2_frag.specs.declared.part_spec.PartSpec.{PartSpec}
use Rattle.r2_frag.specs.Parts.{body_limit, parts_of}
use Rattle.r2_frag.specs.Replies.{IsReply, reply_parts}
use Rattle.hc_message.specs.declared.msg.Msg.{Msg}
use Rattle.hc_message.specs.Message.{IsValid, message_bytes}
use Rattle.hc_message.specs.Laws.{most_order_bytes}
use Rattle.hc_packet.specs.Laws.{is_recovery}
use Rattle.hc_packet.specs.Packet.{message_datagram}
use Rattle.hc_member.specs.declared.setup.Setup.{Setup}
use Rattle.hc_member.specs.Setup.{own_address}

-- what a member sends at once
pub data Sending : Type 0 where
  -- a message to this address
  Tell : Addr → Msg → Sending
  -- a message to this address about the body of this request
  Recover : Addr → Rid → Msg → Sending
  -- a reply to its client
  Reply : KeptReply → Sending

-- what the datagrams of a message about a body have in common
abbrev pub recover_spec : Addr → Addr → Rid → PartSpec
recover_spec from to rid =
    record {
      key = record { class = class.Recover; policy = replicated; from = from; rid = rid };
      from = from;
      to = to;
      extended = true;
    }

-- the datagrams of what is sent, a message to a member or to the aggregator in one: here alone what a member sends becomes bytes
unfoldable pub datagrams_of : Setup → Sending → List Datagram
datagrams_of s (Tell to message) = message_datagram (own_address s) to message ∷ []
datagrams_of s (Recover to rid message) = parts_of (recover_spec (own_address s) to rid) (message_bytes message)
datagrams_of s (Reply reply) = reply_parts (own_address s) reply.rid reply.policy reply.payload

-- the datagrams of all that is sent, in order
abbrev pub datagrams_of_all : Setup → List Sending → List Datagram
datagrams_of_all s sends = flat_map (datagrams_of s) sends

-- what is sent is as it may be: a valid message about a body in parts for which there is room, another valid one in one datagram, or
-- a reply
abbrev pub IsSent : Sending → Type 0
IsSent (Tell to message) =
    IsValid message × (is_recovery message ≡ false) × (length (message_bytes message) ≤ most_order_bytes)
IsSent (Recover to rid message) =
    IsValid message × (is_recovery message ≡ true) × (length (message_bytes message) ≤ body_limit class.Recover)
IsSent (Reply reply) = IsReply reply
