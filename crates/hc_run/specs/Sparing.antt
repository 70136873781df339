-- Whom steps of the protocol spare: those of one member leave the others and the aggregator as they were, those of the aggregator and
-- of clients leave every member; and what was sent stays.
use Rattle.std.specs.Prelude.{◌≡◌, ◌≢◌, ℕ, List}
use Rattle.r2_base.specs.declared.addr.Addr.{Addr}
use Rattle.r2_base.specs.declared.datagram.Datagram.{Datagram}
use Rattle.r2_base.specs.declared.event.Event.{Event}
use Rattle.hc_member.specs.declared.setup.Setup.{Setup}
use Rattle.hc_member.specs.Member.{Member}
use Rattle.hc_rules.specs.Kept.{Kept}
use Rattle.hc_rules.specs.Parts.{member_of}
use Rattle.hc_rules.specs.Protocol.{ProtocolState}
use Rattle.hc_rules.specs.Rules.{Rule}
use Rattle.hc_rules.specs.Runs.{AllAllowed, after_rules}
use Rattle.hc_run.specs.Backed.{IsBackedDatagram}
use Rattle.hc_run.specs.Receiving.{IsTurn}
use Rattle.hc_run.specs.Rows.{AreBy, ByAggregator, ByClient, ByMember}
use Rattle.hc_run.specs.Shows.{IsShown, ShowsReplica}
use Rattle.hc_run.specs.State.{Replica}

-- from one state of the protocol to another a member is as it was, and shown if it was, up or down
pub record SparesMember (s : Setup) (w x : ProtocolState) : Type 0 where
  pub same : member_of x s.me ≡ member_of w s.me
  pub shown : (n : Member) → IsShown s w n → IsShown s x n
  pub place : (r : Replica) → ShowsReplica s w r → ShowsReplica s x r

-- each datagram that was sent is
abbrev pub KeepsDatagrams : List Addr → ProtocolState → ProtocolState → Type 0
KeepsDatagrams members w x = (d : Datagram) → IsBackedDatagram members w d → IsBackedDatagram members x d

-- each other member is spared; the aggregator is as it was, and the table; and what was sent stays
pub record Spares (s : Setup) (w x : ProtocolState) : Type 0 where
  pub others : (u : ℕ) → u ≢ s.me → SparesMember (record s { me = u }) w x
  pub aggregator : x.aggregator ≡ w.aggregator
  pub table : x.table ≡ w.table
  pub datagrams : KeepsDatagrams s.members w x

-- so the steps of one member do
abbrev pub MembersSpareOthers : Type 0
MembersSpareOthers =
    (s : Setup) (w : ProtocolState) (rules : List Rule) → Kept w → AreBy (ByMember s.me) rules → AllAllowed w rules
    → Spares s w (after_rules w rules)

-- and a whole turn
abbrev pub TurnsSpareOthers : Type 0
TurnsSpareOthers =
    (s : Setup) (w : ProtocolState) (m : Member) (e : Event) → Kept w → (turn : IsTurn s w m e) → Spares s w (after_rules w turn.rules)

-- every member is spared, and what was sent stays
pub record SparesMembers (s : Setup) (w x : ProtocolState) : Type 0 where
  pub members : (u : ℕ) → SparesMember (record s { me = u }) w x
  pub datagrams : KeepsDatagrams s.members w x

-- steps of the aggregator do so, and leave the table
abbrev pub AggregatorsSpareMembers : Type 0
AggregatorsSpareMembers =
    (s : Setup) (w : ProtocolState) (rules : List Rule) → Kept w → AreBy ByAggregator rules → AllAllowed w rules
    → SparesMembers s w (after_rules w rules) × ((after_rules w rules).table ≡ w.table)

-- steps of clients do, and leave the aggregator
abbrev pub ClientsSpareMembers : Type 0
ClientsSpareMembers =
    (s : Setup) (w : ProtocolState) (rules : List Rule) → Kept w → AreBy ByClient rules → AllAllowed w rules
    → SparesMembers s w (after_rules w rules) × ((after_rules w rules).aggregator ≡ w.aggregator)
