-- Each row of a member's turn is a list of the protocol's rules.
use Rattle.std.specs.Prelude.{◌≡◌, ℕ, List, [], ◌∷◌, All}
use Rattle.hc_member.specs.declared.setup.Setup.{Setup}
use Rattle.hc_member.specs.declared.heard.Heard.{Heard}
use Rattle.hc_member.specs.Heard.{IsSayable}
use Rattle.hc_member.specs.Member.{Member}
use Rattle.hc_member.specs.Outcome.{Outcome}
use Rattle.hc_member.specs.Reports.{report_in}
use Rattle.hc_member.specs.Setup.{IsSetup}
use Rattle.hc_member.specs.Turn.{row}
use Rattle.hc_rules.specs.Kept.{Kept}
use Rattle.hc_rules.specs.Protocol.{ProtocolState}
use Rattle.hc_rules.specs.Replies.{Answered}
use Rattle.hc_rules.specs.Rules.{Rule, Rise, Stand, AskVotes, GrantVote, SendVote, CountVote, Win, OrderRequest, SendOrder, Confirm, Take, Acknowledge, CommitByCount, CommitByOrder, CommitByAggregate, Aggregate, Apply, Answer, AnswerAgain, AskBody, GiveBody, Yield, NoteReport, NoteOwnReport, NoteAck, Hold, Refuse, RejectOrder, Follow, NoteOrder, Collect, Forget, Crash, Restart, SendRequest}
use Rattle.hc_rules.specs.Runs.{AllAllowed, after_rules}
use Rattle.hc_run.specs.Backed.{IsBacked, IsHeardOf}
use Rattle.hc_run.specs.Shows.{IsShown}
use Rattle.hc_run.specs.Steps.{heard_report}

-- who makes a step of the protocol
pub data Maker : Type 0 where
  ByMember : ℕ → Maker
  ByAggregator ByClient : Maker

abbrev pub maker : Rule → Maker
maker (Rise v s) = ByMember v
maker (Stand v) = ByMember v
maker (AskVotes v) = ByMember v
maker (GrantVote v q) = ByMember v
maker (SendVote v c) = ByMember v
maker (CountVote v c) = ByMember v
maker (Win v) = ByMember v
maker (OrderRequest v q p) = ByMember v
maker (SendOrder v previous count) = ByMember v
maker (Confirm v o k) = ByMember v
maker (Take v o i k) = ByMember v
maker (Acknowledge v m) = ByMember v
maker (CommitByCount v m) = ByMember v
maker (CommitByOrder v o m) = ByMember v
maker (CommitByAggregate v a m) = ByMember v
maker (Aggregate o m) = ByAggregator
maker (Apply v) = ByMember v
maker (Answer v index payload) = ByMember v
maker (AnswerAgain v r e) = ByMember v
maker (AskBody v rid) = ByMember v
maker (GiveBody v rid) = ByMember v
maker (Yield v o) = ByMember v
maker (NoteReport v a) = ByMember v
maker (NoteOwnReport v) = ByMember v
maker (NoteAck v a) = ByMember v
maker (Hold v rids) = ByMember v
maker (Refuse v) = ByMember v
maker (RejectOrder v hint) = ByMember v
maker (Follow o) = ByAggregator
maker (NoteOrder o) = ByAggregator
maker (Collect a) = ByAggregator
maker Forget = ByAggregator
maker (Crash v) = ByMember v
maker (Restart v) = ByMember v
maker (SendRequest q) = ByClient

-- each of the steps is made by the same one
abbrev pub AreBy : Maker → List Rule → Type 0
AreBy x [] = Unit {0}
AreBy x (r ∷ more) = (maker r ≡ x) × AreBy x more

-- steps of one member alone lead from a state of the protocol to one that shows what has become of the member, and that has as sent
-- all that it sends. Nothing is applied by them, and what they learn is the report that was heard
pub record AreRow (s : Setup) (w : ProtocolState) (m : Member) (said : Heard) (o : Outcome) (rules : List Rule) : Type 0 where
  pub own : AreBy (ByMember s.me) rules
  pub allowed : AllAllowed w rules
  pub shown : IsShown s (after_rules w rules) o.member
  pub backed : All (IsBacked s (after_rules w rules)) o.sends
  pub passed : (after_rules w rules).passed ≡ w.passed
  pub reports : (after_rules w rules).reports ≡ heard_report s.me m.term (report_in s m said) w.reports

-- there are such steps
pub record IsRow (s : Setup) (w : ProtocolState) (m : Member) (said : Heard) (o : Outcome) : Type 0 where
  pub rules : List Rule
  pub are : AreRow s w m said o rules

-- a member hears something: it is shown by a state of the protocol that has what it hears as sent
pub record HearsSent (s : Setup) (w : ProtocolState) (m : Member) (said : Heard) : Type 0 where
  pub setup : IsSetup s
  pub kept : Kept w
  pub answered : Answered w
  pub shown : IsShown s w m
  pub sayable : IsSayable said
  pub sent : IsHeardOf s w said

-- the row of what is heard is such a list of steps
abbrev pub RowIsRules : Heard → Type 0
RowIsRules said = (s : Setup) (w : ProtocolState) (m : Member) → HearsSent s w m said → IsRow s w m said (row s m said)
