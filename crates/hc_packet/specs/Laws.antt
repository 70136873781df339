-- How the packets of messages and their reading fit together, for any bytes and any message.
use Rattle.std.specs.Prelude.{◌≡◌, ℕ, ◌+◌, ◌≤◌, Bool, true, false, List, length, Some}
use Rattle.r2_base.specs.Numbers.{AreBytes}
use Rattle.r2_header.specs.Layout.{short}
use Rattle.hc_message.specs.declared.msg.Msg.{Msg}
use Rattle.hc_message.specs.declared.msg.Msg.TheVariants.{RecoverAsk, RecoverBody}
use Rattle.hc_message.specs.Laws.{FitsMessage, most_order_bytes}
use Rattle.hc_message.specs.Message.{IsValid}
use Rattle.hc_packet.specs.Packet.{message_in, message_packet}

-- the packet of a valid message carries it
abbrev pub PacketsAreRead : Type 0
PacketsAreRead = (m : Msg) → FitsMessage m → IsValid m → message_in (message_packet m) ≡ Some m

-- these bytes are a valid message's packet, whose numbers fit their fields
pub record IsPacketOf (m : Msg) (bytes : List ℕ) : Type 0 where
  pub valid : IsValid m
  pub fits : FitsMessage m
  pub same : bytes ≡ message_packet m

-- bytes that carry a message are its packet
abbrev pub WhatIsReadIsAPacket : Type 0
WhatIsReadIsAPacket = (m : Msg) (bytes : List ℕ) → AreBytes bytes → message_in bytes ≡ Some m → IsPacketOf m bytes

-- whether a message is about the body of a request: it is asked for, or given. Such a message travels in parts.
abbrev pub is_recovery : Msg → Bool
is_recovery (RecoverAsk member) = true
is_recovery (RecoverBody kind body) = true
is_recovery _ = false

-- how many bytes a packet of another message has at most, those of an Order after its header: fewer than an Ethernet frame
abbrev pub most_packet_bytes : ℕ
most_packet_bytes = short.size + most_order_bytes

abbrev pub PacketsAreShort : Type 0
PacketsAreShort = (m : Msg) → IsValid m → is_recovery m ≡ false → length (message_packet m) ≤ most_packet_bytes
