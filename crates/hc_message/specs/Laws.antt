-- How the reading and the bytes of messages fit together, for any bytes and any message.
use Rattle.std.specs.Prelude.{◌≡◌, ◌≢◌, ℕ, ◌<◌, ◌≤◌, ◌⊎◌, ◌↔◌, List, [], ◌++◌, ◌∷◌, All, Ok, Err, length}
use Rattle.r2_base.specs.Numbers.{AreBytes}
use Rattle.hc_message.specs.declared.msg.Msg.{Msg}
use Rattle.hc_message.specs.declared.msg.Msg.TheVariants.{VoteReq, Vote, Order, Ack, Nack, AggCommit, RecoverAsk, RecoverBody}
use Rattle.hc_message.specs.declared.msg_fault.MsgFault.TheVariants.{Short, Tag, Range, Extra, Memory}
use Rattle.r2_base.specs.Names.{FitsRid}
use Rattle.hc_message.specs.Message.{IsValid, Spells, message_bytes}
use Rattle.hc_message.specs.Reading.{decode_message}

-- the numbers of the entries' request ids fit their fields; all other fields of a valid message are in their ranges
abbrev pub FitsMessage : Msg → Type 0
FitsMessage (VoteReq term member last_index last_term) = Unit {0}
FitsMessage (Vote term member granted) = Unit {0}
FitsMessage (Order term leader prev_index prev_term term_start commit via entries) = All (λ e. FitsRid e.rid) entries
FitsMessage (Ack term member index applied) = Unit {0}
FitsMessage (Nack term member hint) = Unit {0}
FitsMessage (AggCommit term index) = Unit {0}
FitsMessage (RecoverAsk member) = Unit {0}
FitsMessage (RecoverBody kind body) = Unit {0}

-- the bytes of a valid message read as it
abbrev pub SpellingIsRead : Type 0
SpellingIsRead = (m : Msg) (bytes : List ℕ) → FitsMessage m → Spells m bytes → decode_message bytes ≡ Ok m

-- the bytes are a valid message's, whose numbers fit their fields
pub record IsSpelled (m : Msg) (bytes : List ℕ) : Type 0 where
  pub fits : FitsMessage m
  pub spells : Spells m bytes

-- what reads as a message is that message's bytes
abbrev pub WhatIsReadIsSpelled : Type 0
WhatIsReadIsSpelled = (m : Msg) (bytes : List ℕ) → AreBytes bytes → decode_message bytes ≡ Ok m → IsSpelled m bytes

-- the message says itself where it ends; a body goes to the end
abbrev pub HasEnd : Msg → Type 0
HasEnd (RecoverBody kind body) = ⊥
HasEnd _ = Unit {0}

-- a valid message's bytes with others after them read as Extra
abbrev pub BytesBehindAreExtra : Type 0
BytesBehindAreExtra =
    (m : Msg) (b : ℕ) (rest : List ℕ) → FitsMessage m → IsValid m → HasEnd m → decode_message (message_bytes m ++ b ∷ rest) ≡ Err Extra

-- the bytes are a valid message's with others after them
pub record HasMessageInFront (bytes : List ℕ) : Type 0 where
  pub message : Msg
  pub fits : FitsMessage message
  pub valid : IsValid message
  pub ends : HasEnd message
  pub byte : ℕ
  pub rest : List ℕ
  pub same : bytes ≡ message_bytes message ++ byte ∷ rest

-- nothing else reads as Extra
abbrev pub ExtraIsBehindAMessage : Type 0
ExtraIsBehindAMessage = (bytes : List ℕ) → AreBytes bytes → decode_message bytes ≡ Err Extra → HasMessageInFront bytes

-- no bytes read as the fault Memory
abbrev pub NoBytesWantMemory : Type 0
NoBytesWantMemory = (bytes : List ℕ) → decode_message bytes ≢ Err Memory

-- the tags of messages are the numbers from 1 up to this
abbrev pub greatest_tag : ℕ
greatest_tag = 8

-- bytes that begin with no message's tag
abbrev pub HasOtherTag : List ℕ → Type 0
HasOtherTag [] = ⊥
HasOtherTag (tag ∷ rest) = (tag < 1) ⊎ (greatest_tag < tag)

-- the fault is Tag exactly by the first byte
abbrev pub TagIsTheFirstByte : Type 0
TagIsTheFirstByte = (bytes : List ℕ) → (decode_message bytes ≡ Err Tag) ↔ HasOtherTag bytes

-- how many bytes of a message must be there so that it doesn't end within a field: all, but a body may end anywhere
abbrev pub needed_bytes : Msg → ℕ
needed_bytes (RecoverBody kind body) = 2
needed_bytes m = length (message_bytes m)

-- a prefix of a valid message's bytes that ends within a field reads as Short
abbrev pub PrefixesAreShort : Type 0
PrefixesAreShort =
    (m : Msg) (prefix rest : List ℕ) → FitsMessage m → IsValid m → message_bytes m ≡ prefix ++ rest → length prefix < needed_bytes m
    → decode_message prefix ≡ Err Short

-- bytes of which a field is out of its range stay so, whatever follows them
abbrev pub RangeStays : Type 0
RangeStays = (bytes rest : List ℕ) → decode_message bytes ≡ Err Range → decode_message (bytes ++ rest) ≡ Err Range

-- the greatest number of bytes of an Order with entries in the narrow layout
abbrev pub most_order_bytes : ℕ
most_order_bytes = 1196

-- the greatest number of bytes of a message: those that travel as one datagram are shorter than an Ethernet frame
abbrev pub most_bytes : Msg → ℕ
most_bytes (VoteReq term member last_index last_term) = 26
most_bytes (Vote term member granted) = 11
most_bytes (Order term leader prev_index prev_term term_start commit via entries) = most_order_bytes
most_bytes (Ack term member index applied) = 26
most_bytes (Nack term member hint) = 18
most_bytes (AggCommit term index) = 17
most_bytes (RecoverAsk member) = 2
most_bytes (RecoverBody kind body) = 61442

-- no valid message has more bytes
abbrev pub SpellingsAreShort : Type 0
SpellingsAreShort = (m : Msg) → IsValid m → length (message_bytes m) ≤ most_bytes m
