-- What the contract of an aggregator's loop says of it: it makes whole turns, and of a last one a prefix is sent.
use Rattle.std.specs.Prelude.{◌≡◌, ℕ, List, [], ◌∷◌, ◌++◌, map, Option, Some, None, IfSome}
use Rattle.r2_base.specs.declared.addr.Addr.{Addr}
use Rattle.r2_base.specs.declared.datagram.Datagram.{Datagram}
use Rattle.r2_base.specs.declared.event.Event.{Event}
use Rattle.r2_link.specs.declared.lane.Item.{Item}
use Rattle.r2_link.specs.Links.{LinkPasses, LinkTold}
use Rattle.hc_aggregate.specs.Turn.{AggregatorState, Turned, begin, sent, turned, turned_all}
use Rattle.cmd_status.specs.declared.status.Status.{Status}
use Rattle.cmd_loop.specs.Events.{event_of}
use Rattle.cmd_aggregator.specs.Aggregates.{AggregatorSends}
use Rattle.cmd_aggregator.specs.Untimed.{ServesUntimed}
use Rattle.cmd_group.specs.Members.{AreFirst}
use Rattle.cmd_group.specs.Steps.{Step, Aggregates, BeginsAnew}

-- the turn in which a loop broke: its event, and those of its datagrams that were sent
pub record Broken : Type 0 where
  pub event : Event
  pub sent : List Datagram

abbrev pub broken_events : Option Broken → List Event
broken_events (Some b) = b.event ∷ []
broken_events None = []

abbrev pub broken_sends : Option Broken → List Datagram
broken_sends (Some b) = b.sent
broken_sends None = []

-- a new aggregator after whole turns at these events
abbrev pub aggregated : Addr → List Addr → List Event → Turned
aggregated me members events = turned_all (begin me members) events

-- a life of an aggregator, which is one loop: the events at which it made whole turns, and the turn in which it broke, if it did
pub record AggregatorLife : Type 0 where
  pub events : List Event
  pub broken : Option Broken

-- of that turn a prefix was sent
abbrev pub MayBreak : AggregatorState → Option Broken → Type 0
MayBreak a broken = IfSome broken (λ b. AreFirst b.sent (sent a b.event))

abbrev pub IsAggregatorLife : Addr → List Addr → AggregatorLife → Type 0
IsAggregatorLife me members life = MayBreak (aggregated me members life.events).aggregator life.broken

-- what it sent
abbrev pub sent_by : Addr → List Addr → AggregatorLife → List Datagram
sent_by me members life = (aggregated me members life.events).sends ++ broken_sends life.broken

-- One life after another --

-- whole turns as steps
abbrev pub turns_from : AggregatorState → List Event → List Step
turns_from a [] = []
turns_from a (e ∷ more) = Aggregates a.me e (sent a e) ∷ turns_from (turned a e) more

abbrev pub broken_steps : Addr → Option Broken → List Step
broken_steps me (Some b) = Aggregates me b.event b.sent ∷ []
broken_steps me None = []

-- lives as steps, and what they sent
abbrev pub steps_of_lives : Addr → List Addr → List AggregatorLife → List Step
steps_of_lives me members [] = []
steps_of_lives me members (life ∷ more) =
    BeginsAnew me ∷ (turns_from (begin me members) life.events ++ (broken_steps me life.broken ++ steps_of_lives me members more))

abbrev pub sent_by_lives : Addr → List Addr → List AggregatorLife → List Datagram
sent_by_lives me members [] = []
sent_by_lives me members (life ∷ more) = sent_by me members life ++ sent_by_lives me members more

abbrev pub AreAggregatorLives : Addr → List Addr → List AggregatorLife → Type 0
AreAggregatorLives me members [] = Unit {0}
AreAggregatorLives me members (life ∷ more) = IsAggregatorLife me members life × AreAggregatorLives me members more

-- Contracts --

-- a loop of a new aggregator between these moments of its link: it took in the events of items that were received, in their order and
-- from the first on; all datagrams of its whole turns were sent, and the first of those of a turn in which it broke
pub record HasTurns (me : Addr) (members : List Addr) (old new : LinkTold) : Type 0 where
  pub life : AggregatorLife
  pub is : IsAggregatorLife me members life
  pub items : List Item
  pub left : List Event
  pub taken : map event_of items ≡ (life.events ++ broken_events life.broken) ++ left
  pub passed : LinkPasses old new items (sent_by me members life)

-- so it is with each, however it ended
abbrev pub AggregatorsMakeTurns : Type 0
AggregatorsMakeTurns =
    (me : Addr) (members : List Addr) (turns : ℕ) (old new : LinkTold) (status : Status) → ServesUntimed (AggregatorSends me members) turns old new status
    → HasTurns me members old new
