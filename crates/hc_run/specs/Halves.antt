-- What comes before and after each row of a member's turn: what is pending is applied, and a leader orders, sends and counts.
use Rattle.std.specs.Prelude.{◌≡◌, ℕ, ◌+◌, ◌≤◌, List, [], ◌++◌, length, map, All}
use Rattle.hc_member.specs.declared.setup.Setup.{Setup}
use Rattle.hc_member.specs.declared.role.Role.TheVariants.{Leader}
use Rattle.hc_member.specs.Finish.{batch_of, due, finished}
use Rattle.hc_member.specs.Member.{Member}
use Rattle.hc_member.specs.Orders.{fresh_orders}
use Rattle.hc_member.specs.Sending.{Sending}
use Rattle.hc_member.specs.Setup.{IsSetup}
use Rattle.hc_member.specs.Turn.{counting, ordering}
use Rattle.hc_rules.specs.Kept.{Kept}
use Rattle.hc_rules.specs.Message.{Passed, Report}
use Rattle.hc_rules.specs.Protocol.{ProtocolState}
use Rattle.hc_rules.specs.Replies.{Answered}
use Rattle.hc_rules.specs.Rules.{Rule}
use Rattle.hc_rules.specs.Runs.{AllAllowed, after_rules}
use Rattle.hc_run.specs.Backed.{IsBacked}
use Rattle.hc_run.specs.Rows.{AreBy, ByMember}
use Rattle.hc_run.specs.Shows.{IsShown}
use Rattle.hc_run.specs.Steps.{own_report, passes}
use Rattle.hc_run.specs.Tied.{passed_in}

-- a state of the protocol shows a member
pub record Stands (s : Setup) (w : ProtocolState) (m : Member) : Type 0 where
  pub setup : IsSetup s
  pub kept : Kept w
  pub answered : Answered w
  pub shown : IsShown s w m

-- steps of one member alone lead to a state of the protocol that shows another one in its place, and has as sent all that it sends;
-- so much was passed then, and these are the reports
pub record AreSteps (s : Setup) (w : ProtocolState) (n : Member) (sends : List Sending) (done : List Passed) (told : List Report) (rules : List Rule) : Type 0 where
  pub own : AreBy (ByMember s.me) rules
  pub allowed : AllAllowed w rules
  pub shown : IsShown s (after_rules w rules) n
  pub backed : All (IsBacked s (after_rules w rules)) sends
  pub passed : (after_rules w rules).passed ≡ done
  pub reports : (after_rules w rules).reports ≡ told

pub record IsSteps (s : Setup) (w : ProtocolState) (n : Member) (sends : List Sending) (done : List Passed) (told : List Report) : Type 0 where
  pub rules : List Rule
  pub are : AreSteps s w n sends done told rules

-- a leader counts: it may find that more is committed
abbrev pub CountingIsRules : Type 0
CountingIsRules =
    (s : Setup) (w : ProtocolState) (m : Member) → Stands s w m → m.role ≡ Leader → IsSteps s w (counting s m) [] w.passed w.reports

-- a leader orders requests, and sends what the turn appended
abbrev pub OrderingIsRules : Type 0
OrderingIsRules =
    (s : Setup) (w : ProtocolState) (m : Member) (keep : ℕ) → Stands s w m → m.role ≡ Leader → keep ≤ length m.log
    → IsSteps s w (ordering m keep) (fresh_orders s (ordering m keep) keep) w.passed w.reports

-- what is applied is passed, the newest first
abbrev pub passed_by : ℕ → Member → List Passed
passed_by v m = map passed_in (passes v (m.applied + 1) (batch_of (due m)) [])

-- what is pending is applied, and the replies go out; a leader knows how far it applied itself
abbrev pub FinishIsRules : Type 0
FinishIsRules =
    (s : Setup) (w : ProtocolState) (m : Member) → Stands s w m
    → IsSteps s w (finished s m).member (finished s m).sends (passed_by s.me m ++ w.passed)
    (own_report s.me (finished s m).member (finished s m).member.role w.reports)
