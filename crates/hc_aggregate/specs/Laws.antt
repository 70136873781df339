-- What holds of every aggregator, whatever events come.
use Rattle.std.specs.Prelude.{◌≡◌, ◌≢◌, ℕ, ◌+◌, ◌≤◌, ◌==◌, ◌&&◌, Bool, true, false, nat_le, List, ◌∷◌, [], ◌++◌, length, Option, Some, All, count_by}
use Rattle.std.specs.List.{list_any, range_with_len}
use Rattle.r2_base.specs.declared.addr.Addr.{Addr}
use Rattle.r2_base.specs.declared.datagram.Datagram.{Datagram}
use Rattle.r2_base.specs.declared.event.Event.{Event}
use Rattle.r2_base.specs.declared.event.Event.TheVariants as event
use Rattle.r2_base.specs.Numbers.{AreBytes}
use Rattle.hc_message.specs.declared.msg.Msg.{Msg}
use Rattle.hc_message.specs.declared.msg.Msg.TheVariants.{Order, Ack, AggCommit}
use Rattle.hc_message.specs.Message.{IsValid}
use Rattle.hc_packet.specs.Laws.{is_recovery, most_packet_bytes}
use Rattle.hc_packet.specs.Packet.{message_in, message_packet}
use Rattle.hc_order.specs.Counting.{reaching}
use Rattle.hc_aggregate.specs.Group.{IsGroup, address_of, is_from_member, majority}
use Rattle.hc_aggregate.specs.Sound.{IsSound}
use Rattle.hc_aggregate.specs.Tally.{Tally}
use Rattle.hc_aggregate.specs.Turn.{AggregatorState, Telling, begin, reacted, sent, turned, turned_all}

-- the bytes of a datagram are bytes
abbrev pub HasBytes : Event → Type 0
HasBytes (event.Datagram d) = AreBytes d.bytes
HasBytes event.Tick = Unit {0}
HasBytes event.Quiet = Unit {0}

-- what an aggregator tells at an event
abbrev pub told : AggregatorState → Event → List Telling
told s event = (reacted s.members s.tally event).tells

-- an aggregator begins sound, and each turn leaves it so
pub record StaySound : Type 0 where
  pub begins : (me : Addr) (members : List Addr) → IsGroup me members → IsSound (begin me members)
  pub stays : (s : AggregatorState) (event : Event) → HasBytes event → IsSound s → IsSound (turned s event)

-- a message that an aggregator may send: a valid one that goes in one datagram
pub record IsSendable (x : Telling) : Type 0 where
  pub valid : IsValid x.message
  pub whole : is_recovery x.message ≡ false

-- each message that is sent is such a one, and its datagram is short
pub record SendsWell (s : AggregatorState) (event : Event) : Type 0 where
  pub each : All IsSendable (told s event)
  pub short : All (λ (d : Datagram). length d.bytes ≤ most_packet_bytes) (sent s event)

abbrev pub TurnsSendWell : Type 0
TurnsSendWell = (s : AggregatorState) (event : Event) → HasBytes event → IsSound s → SendsWell s event

-- an Order doesn't go to its leader
abbrev pub GoesElsewhere : List Addr → Addr → Msg → Type 0
GoesElsewhere members to (Order term leader prev_index prev_term term_start commit via entries) = to ≢ address_of members leader
GoesElsewhere members to _ = Unit {0}

abbrev pub OrdersGoElsewhere : Type 0
OrdersGoElsewhere = (s : AggregatorState) (event : Event) → IsSound s → All (λ x. GoesElsewhere s.members x.to x.message) (told s event)

-- an Order goes on with the bytes that it came with
abbrev pub HasBytesOf : List ℕ → Msg → Type 0
HasBytesOf bytes (Order term leader prev_index prev_term term_start commit via entries) =
    message_packet (Order term leader prev_index prev_term term_start commit via entries) ≡ bytes
HasBytesOf bytes _ = Unit {0}

abbrev pub OrdersStayTheSame : Type 0
OrdersStayTheSame =
    (s : AggregatorState) (d : Datagram) → AreBytes d.bytes → All (λ x. HasBytesOf d.bytes x.message) (told s (event.Datagram d))

-- what an aggregator calls committed: a majority reach it in the term that is counted, and the leader's own first entry isn't after it
pub record IsReached (t : Tally) (term index : ℕ) : Type 0 where
  pub of_term : term ≡ t.term
  pub own : t.term_start ≤ index
  pub by_majority : majority (length t.reached) ≤ reaching t.reached index
  pub kept : index ≡ t.committed

abbrev pub TellsReached : Tally → Msg → Type 0
TellsReached t (AggCommit term index) = IsReached t term index
TellsReached t _ = Unit {0}

abbrev pub CommitsAreReached : Type 0
CommitsAreReached = (s : AggregatorState) (event : Event) → IsSound s → All (λ x. TellsReached (turned s event).tally x.message) (told s event)

-- whether a message from an address shows that a member has a term's log up to an index: it is the member's own Order, by way of the
-- aggregator, or its Ack
abbrev pub says_reached : List Addr → ℕ → ℕ → ℕ → Addr → Option Msg → Bool
says_reached members term member index from (Some (Order term_there leader prev_index prev_term term_start commit via entries)) =
    via && is_from_member members from leader && (term_there == term) && (leader == member) && nat_le index (prev_index + length entries)
says_reached members term member index from (Some (Ack term_there member_there index_there applied)) =
    is_from_member members from member_there && (term_there == term) && (member_there == member) && nat_le index index_there
says_reached members term member index from _ = false

abbrev pub shows_reached : List Addr → ℕ → ℕ → ℕ → Event → Bool
shows_reached members term member index (event.Datagram d) = says_reached members term member index d.from (message_in d.bytes)
shows_reached members term member index _ = false

-- whether a message from an address shows that a term's leader began at most at an index: it is the leader's Order
abbrev pub says_begun : List Addr → ℕ → ℕ → Addr → Option Msg → Bool
says_begun members term index from (Some (Order term_there leader prev_index prev_term term_start commit via entries)) =
    via && is_from_member members from leader && (term_there == term) && nat_le term_start index
says_begun members term index from _ = false

abbrev pub shows_begun : List Addr → ℕ → ℕ → Event → Bool
shows_begun members term index (event.Datagram d) = says_begun members term index d.from (message_in d.bytes)
shows_begun members term index _ = false

-- events show that an index of a term is committed: a majority of the members have it, and the leader's own first entry isn't after it
pub record IsShown (members : List Addr) (events : List Event) (term index : ℕ) : Type 0 where
  pub own : list_any (shows_begun members term index) events ≡ true
  pub by_majority : majority (length members)
      ≤ count_by (λ member. list_any (shows_reached members term member index) events) (range_with_len 0 (length members))

abbrev pub TellsShown : List Addr → List Event → Msg → Type 0
TellsShown members events (AggCommit term index) = IsShown members events term index
TellsShown members events _ = Unit {0}

-- over any events, a new aggregator calls committed only what these events show to be
abbrev pub CommitsWereShown : Type 0
CommitsWereShown =
    (me : Addr) (members : List Addr) (events : List Event) (event : Event) → IsGroup me members → All HasBytes events → HasBytes event
    → All (λ x. TellsShown members (events ++ event ∷ []) x.message) (told (turned_all (begin me members) events).aggregator event)
