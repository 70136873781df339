-- The reaction of an aggregator to an event: what it counts, and who is sent what (HovercRaft, on in-network aggregation).
use Rattle.std.specs.Prelude.{◌≡◌, ℕ, ◌+◌, ◌==◌, ◌&&◌, Bool, nat_le, if◌then◌else◌, List, [], ◌∷◌, ◌++◌, length, map, Option, Some, None}
use Rattle.std.specs.List.{remove}
use Rattle.r2_base.specs.declared.addr.Addr.{Addr}
use Rattle.r2_base.specs.declared.datagram.Datagram.{Datagram}
use Rattle.r2_base.specs.declared.event.Event.{Event}
use Rattle.r2_base.specs.declared.event.Event.TheVariants as event
use Rattle.hc_message.specs.declared.msg.Msg.{Msg}
use Rattle.hc_message.specs.declared.msg.Msg.TheVariants.{Order, Ack, AggCommit}
use Rattle.hc_packet.specs.Packet.{message_datagram, message_in}
use Rattle.hc_aggregate.specs.Group.{is_from_member}
use Rattle.hc_aggregate.specs.Tally.{Tally, found, in_term, no_tally, with_found, with_reached}

-- an aggregator: its address, the addresses of its members, and what it counts
pub record AggregatorState : Type 0 where
  pub me : Addr
  pub members : List Addr
  pub tally : Tally

-- a new one
abbrev pub begin : Addr → List Addr → AggregatorState
begin me members = record { me = me; members = members; tally = no_tally (length members) }

-- a message to a member
pub record Telling : Type 0 where
  pub to : Addr
  pub message : Msg

-- the same message to each of these members
abbrev pub tell_each : List Addr → Msg → List Telling
tell_each to message = map (λ member. record { to = member; message = message }) to

-- what comes of an event: what is counted then, and who is sent what, in order
pub record Outcome : Type 0 where
  pub tally : Tally
  pub tells : List Telling

-- nothing happens
abbrev pub nothing : Tally → Outcome
nothing t = record { tally = t; tells = [] }

-- all members are told what is found to be committed
abbrev pub commit_told : List Addr → ℕ → Option ℕ → List Telling
commit_told members term (Some index) = tell_each members (AggCommit term index)
commit_told members term None = []

-- after these were told, it is counted what a majority of the members reach
abbrev pub counts : List Addr → List Telling → Tally → Outcome
counts members told t = record { tally = with_found t (found t); tells = told ++ commit_told members t.term (found t) }

-- an Order goes to all members but its leader, who has all that it orders, up to the last index
unfoldable pub hear_order : List Addr → Tally → Msg → ℕ → ℕ → ℕ → ℕ → Outcome
hear_order members t order term leader term_start last =
    counts members (tell_each (remove members leader) order) (with_reached (in_term t term leader term_start) leader last)

-- an Ack says up to where its member has the leader's log
unfoldable pub hear_ack : List Addr → Tally → ℕ → ℕ → Outcome
hear_ack members t member index = counts members [] (with_reached t member index)

-- an Order is taken that its leader sent by way of the aggregator, in a term that isn't below the one that is counted
abbrev pub takes_order : List Addr → Tally → Addr → ℕ → ℕ → Bool → Bool
takes_order members t from term leader via = via && is_from_member members from leader && nat_le t.term term

-- an Ack is taken that its member sent in the term that is counted (no message has the term 0)
abbrev pub takes_ack : List Addr → Tally → Addr → ℕ → ℕ → Bool
takes_ack members t from term member = is_from_member members from member && (term == t.term)

-- a message comes from an address; no other messages are for an aggregator
abbrev pub hear : List Addr → Tally → Addr → Msg → Outcome
hear members t from (Order term leader prev_index prev_term term_start commit via entries) =
    if takes_order members t from term leader via
    then hear_order members t (Order term leader prev_index prev_term term_start commit via entries) term leader term_start (prev_index + length entries)
    else nothing t
hear members t from (Ack term member index applied) =
    if takes_ack members t from term member then hear_ack members t member index else nothing t
hear members t from _ = nothing t

-- a datagram comes that carries a message, if it does
abbrev pub receive : List Addr → Tally → Addr → Option Msg → Outcome
receive members t from (Some message) = hear members t from message
receive members t from None = nothing t

-- the message that comes with an event, if one does
abbrev pub message_of : Event → Option Msg
message_of (event.Datagram d) = message_in d.bytes
message_of event.Tick = None
message_of event.Quiet = None

-- what comes of an event
unfoldable pub reacted : List Addr → Tally → Event → Outcome
reacted members t (event.Datagram d) = receive members t d.from (message_in d.bytes)
reacted members t event.Tick = nothing t
reacted members t event.Quiet = nothing t

-- what is told, as a datagram: here, and nowhere else, messages become bytes
abbrev pub datagram_of : Addr → Telling → Datagram
datagram_of me tells = message_datagram me tells.to tells.message

-- the same bytes to each of these addresses
abbrev pub datagrams_to : Addr → List Addr → List ℕ → List Datagram
datagrams_to from to bytes = map (λ member. record { from = from; to = member; bytes = bytes }) to

-- what an aggregator becomes that went on to a tally
abbrev pub with_tally : AggregatorState → Tally → AggregatorState
with_tally s t = record s { tally = t }

-- this came of something: the aggregator has the tally, and these are the datagrams
pub record Comes (s : AggregatorState) (o : Outcome) (given : List Datagram) (s' : AggregatorState) : Type 0 where
  pub becomes : s' ≡ with_tally s o.tally
  pub sends : given ≡ map (datagram_of s.me) o.tells

-- an aggregator makes a turn at an event
abbrev pub IsTurn : AggregatorState → Event → List Datagram → AggregatorState → Type 0
IsTurn s event sends s' = Comes s (reacted s.members s.tally event) sends s'

-- an aggregator after an event, and the datagrams that it sends then
abbrev pub turned : AggregatorState → Event → AggregatorState
turned s event = with_tally s (reacted s.members s.tally event).tally

abbrev pub sent : AggregatorState → Event → List Datagram
sent s event = map (datagram_of s.me) (reacted s.members s.tally event).tells

-- what an aggregator is, and what it sent, after these events, one after another
pub record Turned : Type 0 where
  pub aggregator : AggregatorState
  pub sends : List Datagram

unfoldable pub turned_all : AggregatorState → List Event → Turned
turned_all s [] = record { aggregator = s; sends = [] }
turned_all s (event ∷ more) =
    let rest = turned_all (turned s event) more in record rest { sends = sent s event ++ rest.sends }
