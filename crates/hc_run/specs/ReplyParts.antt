-- Replies as clients receive them: which datagrams read as parts of replies, and of which replies they are parts.
use Rattle.std.specs.Prelude.{◌≡◌, ℕ, List, Result, Ok, Err}
use Rattle.r2_base.specs.declared.datagram.Datagram.{Datagram}
use Rattle.r2_header.specs.declared.header.Header.{Header}
use Rattle.r2_header.specs.declared.header_fault.HeaderFault.{HeaderFault}
use Rattle.r2_header.specs.declared.packet.Packet.TheVariants.{Reply as ReplyPacket}
use Rattle.r2_header.specs.Reading.{header_at}
use Rattle.r2_frag.specs.Replies.{reply_parts}
use Rattle.hc_rules.specs.Log.{In}
use Rattle.hc_rules.specs.Message.{Reply}
use Rattle.hc_run.specs.Group.{Group}

-- what was read is the header of a part of a reply
abbrev pub IsOfReply : Result (Header × ℕ) HeaderFault → Type 0
IsOfReply (Ok (h, size)) = h.packet ≡ ReplyPacket
IsOfReply (Err fault) = ⊥

-- a datagram reads as a part of a reply
abbrev pub ReadsAsReply : Datagram → Type 0
ReadsAsReply d = IsOfReply (header_at d.bytes)

-- it is one of those in which a member of the group sends a reply to the client
pub record IsPartOf (g : Group) (r : Reply) (d : Datagram) : Type 0 where
  pub from : In d.from g.members
  pub policy : ℕ
  pub part : In d (reply_parts d.from r.request policy r.payload)

-- it is a part of one of these replies
pub record IsReplyPart (g : Group) (replied : List Reply) (d : Datagram) : Type 0 where
  pub reply : Reply
  pub there : In reply replied
  pub part : IsPartOf g reply d

-- each of these datagrams that reads as a part of a reply is a part of one of these replies
abbrev pub AreReplyParts : Group → List Reply → List Datagram → Type 0
AreReplyParts g replied datagrams = (d : Datagram) → In d datagrams → ReadsAsReply d → IsReplyPart g replied d
