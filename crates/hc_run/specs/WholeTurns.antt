-- A member's whole turn is a list of the protocol's rules.
use Rattle.std.specs.Prelude.{◌≤◌, List, ◌++◌, length, All}
use Rattle.r2_base.specs.declared.event.Event.{Event}
use Rattle.hc_member.specs.declared.setup.Setup.{Setup}
use Rattle.hc_member.specs.Finish.{finished}
use Rattle.hc_member.specs.Heard.{Received, receive, with_received}
use Rattle.hc_member.specs.Member.{Member}
use Rattle.hc_member.specs.Outcome.{Outcome}
use Rattle.hc_member.specs.Reports.{report_in}
use Rattle.hc_member.specs.Turn.{settled, turned}
use Rattle.hc_rules.specs.Message.{Report}
use Rattle.hc_rules.specs.Protocol.{ProtocolState}
use Rattle.hc_run.specs.Backed.{IsBacked, IsHeardOf}
use Rattle.hc_run.specs.Halves.{IsSteps, Stands, passed_by}
use Rattle.hc_run.specs.Held.{HasTablesParts}
use Rattle.hc_run.specs.Steps.{heard_report, own_report}

-- what follows a row: a leader orders, sends and counts, and the next batch is set aside
abbrev pub SettlingIsRules : Type 0
SettlingIsRules =
    (s : Setup) (w : ProtocolState) (o : Outcome) → Stands s w o.member → All (IsBacked s w) o.sends → o.keep ≤ length o.member.log
    → IsSteps s w (settled s o).member (settled s o).sends w.passed w.reports

-- what was received was sent, and so was what is left unfinished
pub record IsReceived (s : Setup) (w : ProtocolState) (x : Received) : Type 0 where
  pub heard : IsHeardOf s w x.said
  pub unfinished : All (HasTablesParts w.table) x.unfinished

-- what leaders learnt once a turn was made: what the member itself applied, where it leads, and what it heard
abbrev pub told_by : Setup → Member → Event → List Report → List Report
told_by s m e before =
    let n = (finished s m).member in
    heard_report s.me n.term (report_in s (with_received n e) (receive n.unfinished e).said) (own_report s.me n n.role before)

-- a whole turn at an event
abbrev pub TurnsAreRules : Type 0
TurnsAreRules =
    (s : Setup) (w : ProtocolState) (m : Member) (e : Event) → Stands s w m → IsReceived s w (receive m.unfinished e)
    → IsSteps s w (turned s m e).member (turned s m e).sends (passed_by s.me m ++ w.passed) (told_by s m e w.reports)
