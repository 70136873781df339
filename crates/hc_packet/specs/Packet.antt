-- A message of the replicas in a datagram of its own: its packet, and what a packet carries.
use Rattle.std.specs.Prelude.{ℕ, List, ◌++◌, drop, Option, Some, None, Result, Ok, Err}
use Rattle.r2_base.specs.declared.addr.Addr.{Addr}
use Rattle.r2_base.specs.declared.datagram.Datagram.{Datagram}
use Rattle.r2_header.specs.declared.header.Header.{Header}
use Rattle.r2_header.specs.declared.header_fault.HeaderFault.{HeaderFault}
use Rattle.r2_header.specs.declared.packet.Packet.{Packet}
use Rattle.r2_header.specs.declared.packet.Packet.TheVariants.{Ordering}
use Rattle.r2_header.specs.Header.{one_part_header, spelling}
use Rattle.r2_header.specs.Policy.{replicated}
use Rattle.r2_header.specs.Reading.{header_at}
use Rattle.hc_message.specs.declared.msg.Msg.{Msg}
use Rattle.hc_message.specs.declared.msg_fault.MsgFault.{MsgFault}
use Rattle.hc_message.specs.Message.{message_bytes}
use Rattle.hc_message.specs.Reading.{decode_message}

-- the header of each of these packets
abbrev pub message_header : Header
message_header = one_part_header Ordering replicated 0 None

-- a message as the bytes of a packet
abbrev pub message_packet : Msg → List ℕ
message_packet message = spelling message_header ++ message_bytes message

-- a message from one address to another
abbrev pub message_datagram : Addr → Addr → Msg → Datagram
message_datagram from to message = record { from = from; to = to; bytes = message_packet message }

-- what was read as a message, if it was
abbrev pub message_read : Result Msg MsgFault → Option Msg
message_read (Ok message) = Some message
message_read (Err fault) = None

-- the message that a packet of a type carries by itself, if it does
abbrev pub message_carried : Packet → List ℕ → Option Msg
message_carried Ordering payload = message_read (decode_message payload)
message_carried _ payload = None

-- the message after a header, by what was read as one
abbrev pub message_after : List ℕ → Result (Header × ℕ) HeaderFault → Option Msg
message_after bytes (Ok (h, size)) = message_carried h.packet (drop size bytes)
message_after bytes (Err fault) = None

-- the message that the bytes of a datagram carry, if they carry one
unfoldable pub message_in : List ℕ → Option Msg
message_in bytes = message_after bytes (header_at bytes)
