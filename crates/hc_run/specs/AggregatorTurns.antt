-- The aggregator's whole turn at each kind of event is a list of the protocol's rules.
use Rattle.std.specs.Prelude.{◌≡◌, List, length, All}
use Rattle.r2_base.specs.declared.addr.Addr.{Addr}
use Rattle.r2_base.specs.declared.event.Event.{Event}
use Rattle.r2_base.specs.declared.event.Event.TheVariants as event
use Rattle.hc_aggregate.specs.Sound.{IsTally}
use Rattle.hc_aggregate.specs.Turn.{AggregatorState, sent, turned}
use Rattle.hc_rules.specs.Kept.{Kept}
use Rattle.hc_rules.specs.Protocol.{ProtocolState}
use Rattle.hc_rules.specs.Rules.{Rule}
use Rattle.hc_rules.specs.Runs.{AllAllowed, after_rules}
use Rattle.hc_run.specs.Aggregating.{ShowsTally}
use Rattle.hc_run.specs.Backed.{IsBackedDatagram}
use Rattle.hc_run.specs.Held.{IsAsked}
use Rattle.hc_run.specs.Rows.{AreBy, ByAggregator}

-- a state of the protocol shows an aggregator, which is sound, and its requests are such as clients may send
pub record AggregatorStands (w : ProtocolState) (a : AggregatorState) : Type 0 where
  pub kept : Kept w
  pub asked : All IsAsked w.table
  pub shown : ShowsTally a.members w a.tally
  pub sound : IsTally (length a.members) a.tally

-- what comes with an event was sent, to whatever address
abbrev pub EventWasSent : List Addr → ProtocolState → Event → Type 0
EventWasSent members w (event.Datagram d) = IsBackedDatagram members w d
EventWasSent members w event.Tick = Unit {0}
EventWasSent members w event.Quiet = Unit {0}

-- steps of the aggregator alone lead from a state of the protocol to one that shows what a turn at an event makes of it, and that has as
-- sent each datagram that it sends; nothing is applied or reported by them
pub record AreAggregatorTurn (w : ProtocolState) (a : AggregatorState) (e : Event) (rules : List Rule) : Type 0 where
  pub own : AreBy ByAggregator rules
  pub allowed : AllAllowed w rules
  pub stands : AggregatorStands (after_rules w rules) (turned a e)
  pub backed : All (IsBackedDatagram a.members (after_rules w rules)) (sent a e)
  pub passed : (after_rules w rules).passed ≡ w.passed
  pub reports : (after_rules w rules).reports ≡ w.reports

pub record IsAggregatorTurn (w : ProtocolState) (a : AggregatorState) (e : Event) : Type 0 where
  pub rules : List Rule
  pub are : AreAggregatorTurn w a e rules

-- a turn at any event, a datagram that was sent included
abbrev pub AggregatorTurnsAreRules : Type 0
AggregatorTurnsAreRules =
    (w : ProtocolState) (a : AggregatorState) (e : Event) → AggregatorStands w a → EventWasSent a.members w e → IsAggregatorTurn w a e
