-- The aggregator's turn is a list of the protocol's rules.
use Rattle.std.specs.Prelude.{◌≡◌, ◌≤◌, List, length, Option, Some, None, All}
use Rattle.r2_base.specs.declared.addr.Addr.{Addr}
use Rattle.hc_message.specs.declared.msg.Msg.{Msg}
use Rattle.hc_message.specs.Message.{IsValid}
use Rattle.hc_aggregate.specs.Tally.{Tally}
use Rattle.hc_aggregate.specs.Turn.{Outcome, Telling, receive}
use Rattle.hc_rules.specs.Kept.{Kept}
use Rattle.hc_rules.specs.Protocol.{ProtocolState}
use Rattle.hc_rules.specs.Rules.{Rule}
use Rattle.hc_rules.specs.Runs.{AllAllowed, after_rules}
use Rattle.hc_run.specs.Backed.{IsSentAs}
use Rattle.hc_run.specs.Rows.{AreBy, ByAggregator}
use Rattle.hc_run.specs.Tied.{IsTiedTally}

-- a state of the protocol shows the aggregator of these members, which counts for each of them
pub record ShowsTally (members : List Addr) (w : ProtocolState) (t : Tally) : Type 0 where
  pub some : 1 ≤ length members
  pub size : w.size ≡ length members
  pub each : length t.reached ≡ length members
  pub tied : IsTiedTally w.aggregator t

-- what the aggregator hears was sent
abbrev pub IsToldTo : List Addr → ProtocolState → Addr → Option Msg → Type 0
IsToldTo members w to (Some message) = IsValid message × IsSentAs members w to message
IsToldTo members w to None = Unit {0}

-- what it tells was sent
abbrev pub IsTold : List Addr → ProtocolState → Telling → Type 0
IsTold members w x = IsSentAs members w x.to x.message

-- steps of the aggregator alone lead from a state of the protocol to one that shows what has become of it, and that has as sent all
-- that it sends; nothing is applied or reported by them
pub record AreAggregatorSteps (members : List Addr) (w : ProtocolState) (o : Outcome) (rules : List Rule) : Type 0 where
  pub own : AreBy ByAggregator rules
  pub allowed : AllAllowed w rules
  pub shown : ShowsTally members (after_rules w rules) o.tally
  pub backed : All (IsTold members (after_rules w rules)) o.tells
  pub passed : (after_rules w rules).passed ≡ w.passed
  pub reports : (after_rules w rules).reports ≡ w.reports

pub record IsAggregatorSteps (members : List Addr) (w : ProtocolState) (o : Outcome) : Type 0 where
  pub rules : List Rule
  pub are : AreAggregatorSteps members w o rules

-- what the aggregator makes of what it hears, from any address and whatever address it has
abbrev pub AggregatingIsRules : Type 0
AggregatingIsRules =
    (members : List Addr) (w : ProtocolState) (t : Tally) (from to : Addr) (heard : Option Msg) → Kept w → ShowsTally members w t
    → IsToldTo members w to heard → IsAggregatorSteps members w (receive members t from heard)
