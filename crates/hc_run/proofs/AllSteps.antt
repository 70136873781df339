-- Each step of a group is a list of the protocol's rules.
use Rattle.std.proofs.Common.{ℕ}
use Rattle.r2_base.specs.declared.event.Event.TheVariants as event
use Rattle.hc_rules.specs.Protocol.{ProtocolState}
use Rattle.hc_run.specs.Group.{Group, IsGroup, Receiver, Member, Aggregator, Outside}
use Rattle.hc_run.specs.State.{GroupState, member_at}
use Rattle.hc_run.specs.Events.{CanReceive, ClientSend, Deliver, Tick, Quiet, Crash, Restart, CrashInTurn, Forget, End, WasSentTo}
use Rattle.hc_run.specs.Shows.{Shows}
use Rattle.hc_run.specs.StepLaws.{IsStepRules, StepsAreRules}
use Rattle.hc_run.specs.Steps.{makes_turn}
use Rattle.hc_run.proofs.AggregatorTurns.{aggregator-step}
use Rattle.hc_run.proofs.Askings.{asked-step, forget-step}
use Rattle.hc_run.proofs.Assembled.{step-leads}
use Rattle.hc_run.proofs.Ends.{crash-in-turn-step, end-step}
use Rattle.hc_run.proofs.MemberTurns.{delivered-leads, quiet-leads, tick-leads}
use Rattle.hc_run.proofs.Stops.{crash-step, leads-up, restart-step}

-- a datagram is delivered
deliver-step : (g : Group) (w : ProtocolState) (s : GroupState) (number : ℕ) (receiver : Receiver) → IsGroup g → Shows g w s → WasSentTo g s number receiver → CanReceive s receiver
    → IsStepRules g w s (Deliver number)
deliver-step g w s number (Member v) is shows sent takes =
    step-leads g w s (Deliver number) (delivered-leads g w s number v sent.datagram is shows sent.sent sent.to takes)
deliver-step g w s number Aggregator is shows sent takes = aggregator-step g w s number is shows sent
deliver-step g w s number Outside is shows sent takes = absurd takes

pub steps_are_rules : StepsAreRules
steps_are_rules g w s (ClientSend q) is shows may = asked-step g w s q shows may
steps_are_rules g w s (Deliver number) is shows may = deliver-step g w s number may.receiver is shows may.sent may.takes
steps_are_rules g w s (Tick v) is shows may =
    step-leads g w s (Tick v) (leads-up g w s (member_at s v) (makes_turn g v event.Tick) may (λ m up. tick-leads g w s v m is shows up))
steps_are_rules g w s (Quiet v) is shows may =
    step-leads g w s (Quiet v) (leads-up g w s (member_at s v) (makes_turn g v event.Quiet) may (λ m up. quiet-leads g w s v m is shows up))
steps_are_rules g w s (Crash v) is shows may = crash-step g w s v shows may
steps_are_rules g w s (Restart v) is shows may = restart-step g w s v shows may
steps_are_rules g w s (CrashInTurn v packet kept) is shows may = crash-in-turn-step g is v packet kept w s shows may
steps_are_rules g w s Forget is shows may = forget-step g w s shows
steps_are_rules g w s (End v times) is shows may = end-step g is v times w s shows may
